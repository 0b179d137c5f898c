-- What was added and what is left are all.
use Rattle.std.proofs.Common.{◌≡◌, ◌++◌, length}
use Rattle.mt_catcheck.proofs.tenant_rules.add_columns.Given as goal

abbrev pub invariant-loop-first : goal.invariant-loop-first
invariant-loop-first l = l.columns ++ l.rest ≡ l.fn.columns ++ l.fn.added

abbrev pub decreases-loop-first : goal.decreases-loop-first
decreases-loop-first l = length l.rest
