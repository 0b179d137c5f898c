-- What was added and what is left are all.
use Rattle.std.proofs.Common.{◌≡◌, ◌++◌, length}
use Rattle.mt_catalog.specs.Rules.{column_names}
use Rattle.mt_schema.proofs.names.add_column_names.Given as goal

abbrev pub invariant-loop-first : goal.invariant-loop-first
invariant-loop-first l = l.names ++ column_names l.rest ≡ l.fn.names ++ column_names l.fn.columns

abbrev pub decreases-loop-first : goal.decreases-loop-first
decreases-loop-first l = length l.rest
