-- The rules are kept so far.
use Rattle.mt_catalog.specs.Rules.{IsCatalogue}
use Rattle.mt_prepare.proofs.tests.changed.Given as goal

abbrev pub invariant-loop-line : goal.invariant-loop-line
invariant-loop-line g l = IsCatalogue l.catalog
