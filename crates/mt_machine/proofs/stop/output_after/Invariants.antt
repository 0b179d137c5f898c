use Rattle.std.proofs.Common.{◌≡◌, reverse, take}
use Rattle.mt_machine.specs.Run.{output_of}
use Rattle.mt_machine.proofs.stop.output_after.Given as goal

abbrev pub invariant-loop-step : goal.invariant-loop-step
invariant-loop-step l = l.out.items ≡ output_of (reverse (take l.step-index l.steps))
