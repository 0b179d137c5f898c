-- The rules are kept so far.
use Rattle.mt_catalog.specs.Rules.{IsCatalogue}
use Rattle.mt_prepare.proofs.tests.chunked.Given as goal

abbrev pub invariant-loop-number : goal.invariant-loop-number
invariant-loop-number g l = IsCatalogue l.catalog

abbrev pub invariant-loop-number-2 : goal.invariant-loop-number-2
invariant-loop-number-2 g l = IsCatalogue l.catalog
