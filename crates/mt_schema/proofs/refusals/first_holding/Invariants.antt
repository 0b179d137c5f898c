-- What is left decides.
use Rattle.std.proofs.Common.{◌≡◌, length}
use Rattle.mt_schema.specs.Refusals.{first_holding}
use Rattle.mt_schema.proofs.refusals.first_holding.Given as goal

abbrev pub invariant-loop-first : goal.invariant-loop-first
invariant-loop-first l = first_holding l.rest ≡ first_holding l.fn.asked

abbrev pub decreases-loop-first : goal.decreases-loop-first
decreases-loop-first l = length l.rest
