use Rattle.std.proofs.Common.{◌≡◌, reverse, take}
use Rattle.mt_machine.specs.Image.{image_disk}
use Rattle.mt_machine.specs.Run.{replayed}
use Rattle.mt_machine.proofs.stop.replay.Given as goal

abbrev pub invariant-loop-step : goal.invariant-loop-step
invariant-loop-step l = image_disk l.areas ≡ replayed l.fill (image_disk l.initial.areas) (reverse (take l.step-index l.steps))
