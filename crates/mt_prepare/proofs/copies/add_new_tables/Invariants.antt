-- What was added and what is left are all.
use Rattle.std.proofs.Common.{◌≡◌, ◌++◌, length, map}
use Rattle.mt_schema.specs.Steps.{new_table}
use Rattle.mt_prepare.proofs.copies.add_new_tables.Given as goal

abbrev pub invariant-loop-first : goal.invariant-loop-first
invariant-loop-first l = l.tables ++ map new_table l.rest ≡ l.fn.tables ++ map new_table l.fn.bases

abbrev pub decreases-loop-first : goal.decreases-loop-first
decreases-loop-first l = length l.rest
