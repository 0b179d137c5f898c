use Rattle.std.proofs.Common.{take}
use Rattle.mt_machine.specs.Stops.{SplitsAt}
use Rattle.mt_machine.proofs.stop.synced_len.Given as goal

abbrev pub invariant-loop-i : goal.invariant-loop-i
invariant-loop-i l = SplitsAt l.synced (take l.i l.steps)
