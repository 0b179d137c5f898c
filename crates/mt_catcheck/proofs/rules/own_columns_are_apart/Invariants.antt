-- What is left decides.
use Rattle.std.proofs.Common.{length}
use Rattle.std.specs.Prelude.{◌↔◌}
use Rattle.mt_catalog.specs.Rules.{AreApart, column_names}
use Rattle.mt_catcheck.proofs.rules.own_columns_are_apart.Given as goal

abbrev pub invariant-loop-first : goal.invariant-loop-first
invariant-loop-first l = AreApart (column_names l.rest) ↔ AreApart (column_names l.fn.columns)

abbrev pub decreases-loop-first : goal.decreases-loop-first
decreases-loop-first l = length l.rest
