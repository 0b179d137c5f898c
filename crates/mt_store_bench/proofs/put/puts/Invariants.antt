-- The slots below i are put.
use Rattle.std.proofs.Common.{◌≡◌, ◌+◌, ◌≤◌, All, length}
use Rattle.mt_store_bench.specs.Numbers.{IsNumberPut}
use Rattle.mt_store_bench.proofs.put.puts.Given as goal

abbrev pub invariant-loop-i : goal.invariant-loop-i
invariant-loop-i l = record {
  puts : All IsNumberPut l.changes;
  count : l.fn.from + length l.changes ≡ l.i;
  upto : l.i ≤ l.fn.upto;
}
