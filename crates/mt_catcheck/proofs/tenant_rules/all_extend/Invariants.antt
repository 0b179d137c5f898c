-- What is left decides.
use Rattle.std.proofs.Common.{length}
use Rattle.std.specs.Prelude.{All, ◌↔◌}
use Rattle.mt_catalog.specs.Clauses.{Extends}
use Rattle.mt_catcheck.proofs.tenant_rules.all_extend.Given as goal

abbrev pub invariant-loop-first : goal.invariant-loop-first
invariant-loop-first l = All (Extends l.extensions l.base) l.rest ↔ All (Extends l.extensions l.base) l.fn.numbers

abbrev pub decreases-loop-first : goal.decreases-loop-first
decreases-loop-first l = length l.rest
