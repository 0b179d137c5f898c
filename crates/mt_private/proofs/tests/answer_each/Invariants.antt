-- A service is kept so far.
use Rattle.mt_model.specs.Service.{Service}
use Rattle.mt_private.specs.Kept.{IsKept}
use Rattle.mt_private.proofs.tests.answer_each.Given as goal

abbrev pub invariant-loop-line : goal.invariant-loop-line
invariant-loop-line g l = (service : Service) × IsKept l.plain service
