-- A service is kept so far.
use Rattle.mt_model.specs.Service.{Service}
use Rattle.mt_private.specs.Kept.{IsKept}
use Rattle.mt_private.proofs.tests.quotas_are_too_large.Given as goal

abbrev pub invariant-loop-tenant : goal.invariant-loop-tenant
invariant-loop-tenant g l = (service : Service) × IsKept l.plain service
