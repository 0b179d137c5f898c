-- The rules are kept so far.
use Rattle.mt_catalog.specs.Rules.{IsCatalogue}
use Rattle.mt_prepare.proofs.tests.full.Given as goal

abbrev pub invariant-loop-tenant : goal.invariant-loop-tenant
invariant-loop-tenant g l = IsCatalogue l.catalog
