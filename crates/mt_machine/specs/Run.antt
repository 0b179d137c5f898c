-- What a run of calls on a machine in memory leaves. The functions that end in `_of` take the steps
-- with the newest first.
use Rattle.std.specs.Prelude.{◌≡◌, ◌⊎◌, ℕ, suc, ◌+◌, ◌-◌, ◌≤◌, Bool, true, IsTrue, ◌&&◌, nat_le, nat_lt, if◌then◌else◌, List, [], ◌∷◌, ◌++◌, length, slice_index, replicate, reverse}
use Rattle.mt_machine.specs.declared.machine.Area.{Area}
use Rattle.mt_machine.specs.declared.machine.Area.TheVariants.{Log, Pages}
use Rattle.mt_machine.specs.declared.step.Step.{Step}
use Rattle.mt_machine.specs.declared.step.Step.TheVariants.{Wrote, Synced, Passed, Emitted}
use Rattle.mt_machine.specs.declared.stop.Fill.{Fill}
use Rattle.mt_machine.specs.declared.stop.Fill.TheVariants.{Kept, Byte}
use Rattle.mt_machine.specs.Meaning.{Disk}
use Rattle.mt_machine.specs.Calls.{Torn, PutsOutFront}

-- an area with these bytes from a position on
abbrev pub over : ℕ → List ℕ → (ℕ → ℕ) → ℕ → ℕ
over at bytes old k =
    if nat_le at k && nat_lt k (at + length bytes)
    then slice_index bytes (k - at)
    else old k

-- the disk with these bytes in an area from a position on
abbrev pub with_bytes : Area → ℕ → List ℕ → Disk → Area → ℕ → ℕ
with_bytes Log at bytes old Log = over at bytes (old Log)
with_bytes Log at bytes old Pages = old Pages
with_bytes Pages at bytes old Log = old Log
with_bytes Pages at bytes old Pages = over at bytes (old Pages)

-- what fills the range of a write: its own bytes, or one byte everywhere
abbrev pub filling : Fill → List ℕ → ℕ → List ℕ
filling Kept bytes unwritten = bytes
filling (Byte b) bytes unwritten = replicate (length bytes + unwritten) b

-- the disk after a step, with the range of a write filled
abbrev pub filled_by : Fill → Step → Disk → Disk
filled_by fill (Wrote area at bytes unwritten) old = with_bytes area at (filling fill bytes unwritten) old
filled_by fill Synced old = old
filled_by fill Passed old = old
filled_by fill (Emitted bytes) old = old

-- the disk after these steps, with each range filled
abbrev pub replayed : Fill → Disk → List Step → Disk
replayed fill disk [] = disk
replayed fill disk (step ∷ older) = filled_by fill step (replayed fill disk older)

-- the disk as it reads after these steps
abbrev pub content_of : Disk → List Step → Disk
content_of first past = replayed Kept first past

-- the output after these steps
abbrev pub output_of : List Step → List ℕ
output_of [] = []
output_of (Wrote area at bytes unwritten ∷ older) = output_of older
output_of (Synced ∷ older) = output_of older
output_of (Passed ∷ older) = output_of older
output_of (Emitted bytes ∷ older) = output_of older ++ bytes

-- one of these disks with any bytes in a range of an area
abbrev pub TornOne : Area → ℕ → ℕ → (Disk → Type 0) → Disk → Type 0
TornOne area at n images image = (before : Disk) × images before × Torn area at n before image

-- what a stop after these steps may leave
abbrev pub images_of : Disk → List Step → Disk → Type 0
images_of first [] image = image ≡ first
images_of first (Wrote area at bytes unwritten ∷ older) image = TornOne area at (length bytes + unwritten) (images_of first older) image
images_of first (Synced ∷ older) image = image ≡ content_of first older
images_of first (Passed ∷ older) image = images_of first older image
images_of first (Emitted bytes ∷ older) image = images_of first older image

-- what a stop within a step may leave, with what was put out by then
abbrev pub WithinStep : Step → (Disk → Type 0) → List ℕ → Disk → List ℕ → Type 0
WithinStep (Wrote area at bytes unwritten) images output image out = TornOne area at (length bytes + unwritten) images image × (out ≡ output)
WithinStep Synced images output image out = images image × (out ≡ output)
WithinStep Passed images output image out = images image × (out ≡ output)
WithinStep (Emitted bytes) images output image out = images image × PutsOutFront bytes output out

-- what a stop at some moment since a time may have left: before a step or within it, or after the last
abbrev pub since_of : Disk → List Step → ℕ → Disk → List ℕ → Type 0
since_of first [] t image out = (t ≤ 0) × (image ≡ first) × (out ≡ [])
since_of first (step ∷ older) t image out =
    since_of first older t image out
    ⊎ (((t ≤ length older) × WithinStep step (images_of first older) (output_of older) image out)
    ⊎ ((t ≤ suc (length older)) × images_of first (step ∷ older) image × (out ≡ output_of (step ∷ older))))

-- the disk after these steps where each range written since the last sync is filled
abbrev pub filled_of : Fill → Disk → List Step → Disk
filled_of fill first [] = first
filled_of fill first (Wrote area at bytes unwritten ∷ older) = filled_by fill (Wrote area at bytes unwritten) (filled_of fill first older)
filled_of fill first (Synced ∷ older) = content_of first older
filled_of fill first (Passed ∷ older) = filled_of fill first older
filled_of fill first (Emitted bytes ∷ older) = filled_of fill first older

-- these contents and this output are those after these steps
pub record AreOf (first : Disk) (past : List Step) (content : Disk) (output : List ℕ) : Type 0 where
  pub content_is : content ≡ content_of first past
  pub output_is : output ≡ output_of past

-- What a machine in memory holds and has put out, the disk at first, and its steps in order.
pub record Run : Type 0 where
  pub tells : Bool
  pub content : Disk
  pub output : List ℕ
  pub first : Disk
  pub steps : List Step

-- the run of no step yet
abbrev pub fresh_run : Disk → Run
fresh_run disk = record { tells = true; content = disk; output = []; first = disk; steps = [] }

-- while it tells, the contents and the output are those after the steps
abbrev pub IsTied : Run → Type 0
IsTied run = IsTrue run.tells → AreOf run.first (reverse run.steps) run.content run.output

-- A step was taken: while the machine tells, its run is the old one with that step at the end.
pub record TakesStep (step : Step) (old new : Run) : Type 0 where
  pub told : IsTrue new.tells → IsTrue old.tells
  pub was_tied : IsTied old
  pub is_tied : IsTied new
  pub first : IsTrue new.tells → new.first ≡ old.first
  pub steps : IsTrue new.tells → new.steps ≡ old.steps ++ step ∷ []
  pub longer : length old.steps ≤ length new.steps
