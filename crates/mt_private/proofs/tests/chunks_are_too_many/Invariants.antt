-- A service is kept so far.
use Rattle.mt_model.specs.Service.{Service}
use Rattle.mt_private.specs.Kept.{IsKept}
use Rattle.mt_private.proofs.tests.chunks_are_too_many.Given as goal

abbrev pub invariant-loop-number : goal.invariant-loop-number
invariant-loop-number g l = (service : Service) × IsKept l.plain service

abbrev pub invariant-loop-number-2 : goal.invariant-loop-number-2
invariant-loop-number-2 g l = (service : Service) × IsKept l.plain service
