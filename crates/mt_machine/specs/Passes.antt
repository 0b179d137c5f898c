-- What a stretch of calls that may put something out leaves.
use Rattle.std.specs.Prelude.{◌≡◌, ◌⊎◌, ◌≤◌, ℕ, IsTrue, List, ◌++◌}
use Rattle.mt_machine.specs.Meaning.{Disk, Meaning}

-- a disk, and behind the bytes that were out before others, of which this holds
abbrev pub Behind : (Disk → List ℕ → Type 0) → List ℕ → Disk → List ℕ → Type 0
Behind is before image out = (bytes : List ℕ) × (out ≡ before ++ bytes) × is image bytes

-- From old to new nothing more is told; a stop at each moment between leaves a disk, and has put out
-- bytes since old, of which this holds.
pub record Passes (is : Disk → List ℕ → Type 0) (old new : Meaning) : Type 0 where
  pub told : IsTrue new.tells → IsTrue old.tells
  pub told_moments : IsTrue new.tells_moments → IsTrue old.tells_moments × IsTrue new.tells
  pub later : old.clock ≤ new.clock
  -- what a stop at each moment since old may have left
  pub each : IsTrue new.tells_moments → (image : Disk) (out : List ℕ) → new.since old.clock image out → Behind is old.output image out
  -- the same for a stretch that began earlier
  pub before : IsTrue new.tells_moments → (t : ℕ) (image : Disk) (out : List ℕ) → t ≤ old.clock → new.since t image out → old.since t image out ⊎ Behind is old.output image out
