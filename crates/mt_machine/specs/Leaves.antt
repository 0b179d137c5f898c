-- What a stretch of calls that puts nothing out leaves, and how stretches join.
use Rattle.std.specs.Prelude.{◌≡◌, ◌⊎◌, ℕ, ◌≤◌, IsTrue, List}
use Rattle.mt_machine.specs.Meaning.{Disk, Meaning}

-- From old to new nothing was put out and nothing more is told; a stop at each moment between leaves
-- a disk that has the property.
pub record Leaves (has : Disk → Type 0) (old new : Meaning) : Type 0 where
  pub told : IsTrue new.tells → IsTrue old.tells
  pub told_moments : IsTrue new.tells_moments → IsTrue old.tells_moments × IsTrue new.tells
  pub output : IsTrue new.tells → new.output ≡ old.output
  pub disk_faults : old.disk_faults ≤ new.disk_faults
  pub emit_faults : new.emit_faults ≡ old.emit_faults
  pub later : old.clock ≤ new.clock
  -- what a stop now may leave
  pub now : IsTrue new.tells_moments → (image : Disk) → new.images image → has image
  -- what a stop at each moment since old may have left
  pub each : IsTrue new.tells_moments → (image : Disk) (out : List ℕ) → new.since old.clock image out → has image × (out ≡ old.output)
  -- the same for a stretch that began earlier
  pub before : IsTrue new.tells_moments → (t : ℕ) (image : Disk) (out : List ℕ) → t ≤ old.clock → new.since t image out → old.since t image out ⊎ (has image × (out ≡ old.output))
  pub keeps : IsTrue new.tells_moments → (t : ℕ) (image : Disk) (out : List ℕ) → t ≤ old.clock → old.since t image out → new.since t image out

-- A stretch that changes neither area: what a stop leaves is what a stop at its start left.
pub record Looks (old new : Meaning) : Type 0 where
  pub content : IsTrue new.tells → new.content ≡ old.content
  pub leaves : Leaves old.images old new
