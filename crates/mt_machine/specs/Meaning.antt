-- What a machine and a source stand for.
use Rattle.std.specs.Prelude.{ℕ, ◌+◌, ◌-◌, ◌^◌, ◌≤◌, Bool, List, min}
use Rattle.mt_machine.specs.declared.machine.Area.{Area}

-- the byte at each position of each area
abbrev pub Disk : Type 0
Disk = Area → ℕ → ℕ

-- What a machine stands for. Content and output are known only where it tells them; images and
-- moments only where it tells moments.
pub record Meaning : Type 1 where
  pub tells : Bool
  pub content : Disk
  pub output : List ℕ
  pub tells_moments : Bool
  -- what a stop now may leave
  pub images : Disk → Type 0
  -- the one clock of disk and output
  pub clock : ℕ
  -- what a stop at some moment since that time may have left, with what was put out by then
  pub since : ℕ → Disk → List ℕ → Type 0
  pub disk_faults : ℕ
  pub emit_faults : ℕ

-- What a source stands for. All but its faults is known only where it tells.
pub record Supply : Type 0 where
  pub tells : Bool
  -- the bytes still to come
  pub left : List ℕ
  -- what the last take gave; nothing where it failed, or where there was none
  pub last : List ℕ
  -- how many takes there were; the count stands still at the last value of its type
  pub takes : ℕ
  pub faults : ℕ

-- A count of faults rose. It stands still at the last value of its type, which counts as risen.
abbrev pub Rose : ℕ → ℕ → Type 0
Rose before now = min (before + 1) (2 ^ 64 - 1) ≤ now
