-- What a stop within a call leaves.
use Rattle.std.specs.Prelude.{◌≡◌, ℕ, ◌-◌, ◌≤◌, List, length, take, drop, reverse, slice_get, Some}
use Rattle.mt_machine.specs.declared.step.Step.{Step}
use Rattle.mt_machine.specs.declared.stop.Fill.{Fill}
use Rattle.mt_machine.specs.declared.stop.Stopped.{Stopped}
use Rattle.mt_machine.specs.Image.{disk_of}
use Rattle.mt_machine.specs.Meaning.{Disk}
use Rattle.mt_machine.specs.Run.{content_of, filled_by, filled_of, output_of, replayed}

-- after the first n steps nothing is left to be filled, and no sync comes after them
pub record SplitsAt (n : ℕ) (steps : List Step) : Type 0 where
  pub within : n ≤ length steps
  pub split : (fill : Fill) (first : Disk) → filled_of fill first (reverse steps) ≡ replayed fill (content_of first (reverse (take n steps))) (reverse (drop n steps))

-- the steps before a call, the newest first
abbrev pub before_call : ℕ → List Step → List Step
before_call call steps = reverse (take (call - 1) steps)

-- The stop comes within this call, the first being 1: the output is that before the call, and each
-- range written since the last sync before it, the call's own too, is filled.
pub record IsStopIn (fill : Fill) (first : Disk) (steps : List Step) (call : ℕ) (stopped : Stopped) : Type 0 where
  pub step : Step
  pub made : slice_get steps (call - 1) ≡ Some step
  pub areas : disk_of stopped.log stopped.pages ≡ filled_by fill step (filled_of fill first (before_call call steps))
  pub out : stopped.out ≡ output_of (before_call call steps)
