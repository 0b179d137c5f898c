-- What is left decides.
use Rattle.std.proofs.Common.{length}
use Rattle.std.specs.Prelude.{All, ◌↔◌}
use Rattle.mt_lexer.specs.Reserved.{IsNameText}
use Rattle.mt_prepare.proofs.tests.are_named.Given as goal

abbrev pub invariant-loop-first : goal.invariant-loop-first
invariant-loop-first l = All (λ def. IsNameText def.name) l.rest ↔ All (λ def. IsNameText def.name) l.fn.defs

abbrev pub decreases-loop-first : goal.decreases-loop-first
decreases-loop-first l = length l.rest
