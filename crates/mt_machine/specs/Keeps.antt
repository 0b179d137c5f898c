-- How a value stands for a machine, and why a call that needs the disk may fail.
use Rattle.std.specs.Prelude.{ℕ, IsTrue}
use Rattle.mt_machine.specs.Meaning.{Disk, Meaning, Rose}

-- This holds of the disk as it reads, and a stop leaves what it may leave beside such a disk.
pub record Keeps (holds : Disk → Type 0) (may_leave : Disk → Disk → Type 0) (machine : Meaning) : Type 0 where
  pub told : IsTrue machine.tells_moments → IsTrue machine.tells
  pub content : IsTrue machine.tells → holds machine.content
  pub images : IsTrue machine.tells_moments → (image : Disk) → machine.images image → may_leave machine.content image

-- Why a call may answer that the device failed: its count of faults rose. A device that does not tell
-- what it holds may have given other bytes, so of it nothing is said.
abbrev pub MayFail : Type 0 → ℕ → ℕ → Type 0
MayFail tells before now = tells → Rose before now

-- the same of the disk of a machine
abbrev pub DiskMayFail : Meaning → Meaning → Type 0
DiskMayFail old new = MayFail (IsTrue new.tells) old.disk_faults new.disk_faults
