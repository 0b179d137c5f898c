-- What is left decides.
use Rattle.std.proofs.Common.{length}
use Rattle.std.specs.Prelude.{◌↔◌, map}
use Rattle.mt_catalog.specs.Rules.{AreApart}
use Rattle.mt_catcheck.proofs.rules.bases_are_apart.Given as goal

abbrev pub invariant-loop-first : goal.invariant-loop-first
invariant-loop-first l = AreApart (map (λ table. table.name) l.rest) ↔ AreApart (map (λ table. table.name) l.fn.bases)

abbrev pub decreases-loop-first : goal.decreases-loop-first
decreases-loop-first l = length l.rest
