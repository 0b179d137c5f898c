-- What is left decides.
use Rattle.std.proofs.Common.{length}
use Rattle.std.specs.Prelude.{All, ◌↔◌}
use Rattle.mt_catalog.specs.Rules.{IsBase}
use Rattle.mt_catcheck.proofs.rules.all_bases.Given as goal

abbrev pub invariant-loop-first : goal.invariant-loop-first
invariant-loop-first l = All IsBase l.rest ↔ All IsBase l.fn.bases

abbrev pub decreases-loop-first : goal.decreases-loop-first
decreases-loop-first l = length l.rest
