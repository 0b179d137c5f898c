-- What is left decides.
use Rattle.std.proofs.Common.{length}
use Rattle.std.specs.Prelude.{All, ◌↔◌}
use Rattle.mt_catalog.specs.Rules.{IsExtension}
use Rattle.mt_catcheck.proofs.rules.all_extensions.Given as goal

abbrev pub invariant-loop-first : goal.invariant-loop-first
invariant-loop-first l = All (IsExtension l.catalog) l.rest ↔ All (IsExtension l.catalog) l.fn.extensions

abbrev pub decreases-loop-first : goal.decreases-loop-first
decreases-loop-first l = length l.rest
