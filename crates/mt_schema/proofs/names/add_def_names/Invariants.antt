-- What was added and what is left are all.
use Rattle.std.proofs.Common.{◌≡◌, ◌++◌, length}
use Rattle.mt_schema.specs.Refusals.{def_names}
use Rattle.mt_schema.proofs.names.add_def_names.Given as goal

abbrev pub invariant-loop-first : goal.invariant-loop-first
invariant-loop-first l = l.names ++ def_names l.rest ≡ l.fn.names ++ def_names l.fn.defs

abbrev pub decreases-loop-first : goal.decreases-loop-first
decreases-loop-first l = length l.rest
