-- The store stands ready for the next group.
use Rattle.mt_store_bench.specs.Numbers.{IsReady}
use Rattle.mt_store_bench.proofs.put.put_all.Given as goal

abbrev pub invariant-loop-n : goal.invariant-loop-n
invariant-loop-n g l = IsReady l.store (g.M.Machine.meaning l.m)
