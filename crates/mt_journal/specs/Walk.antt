-- What the walk through a log finds, step by step.
use Rattle.std.specs.Prelude.{◌≡◌, ℕ, ◌+◌, ◌≤◌, IsTrue, Bool, true, false, Result, Ok, Err, Option, Some, None, List, length}
use Rattle.mt_machine.specs.declared.machine.Area.TheVariants.{Log}
use Rattle.mt_machine.specs.declared.machine.Failed.{Failed}
use Rattle.mt_machine.specs.Meaning.{Meaning}
use Rattle.mt_journal.specs.declared.group.GroupAt.{GroupAt}
use Rattle.mt_journal.specs.declared.group.RangeAt.{RangeAt}
use Rattle.mt_journal.specs.Layout.{Area, Range, IsGroupAt, IsRangeAt, AreRangesAt, IsOpen, number_at, range_size}
use Rattle.mt_journal.specs.declared.journal.RecoverFault.{RecoverFault}
use Rattle.mt_journal.specs.declared.journal.RecoverFault.TheVariants.{Disk, Damaged}
use Rattle.mt_journal.specs.Chain.{IsChain, IsDamaged}
use Rattle.mt_journal.specs.Groups.{IsPayload, IsRead}

-- what the head of a range says: its position and its length
pub record IsHead (log : Area) (at : ℕ) (read : RangeAt) : Type 0 where
  pub position : number_at 8 log at ≡ read.position
  pub size : number_at 4 log (at + 8) ≡ read.length

-- at Some the range stands and ends by a place; at None none does
abbrev pub FindsWithin : Result (Option RangeAt) Failed → ℕ → ℕ → Meaning → Meaning → Type 0
FindsWithin (Ok (Some read)) at end old new = IsTrue new.tells → IsRead (old.content Log) at read
FindsWithin (Ok None) at end old new = IsTrue new.tells → (range : Range) → IsRangeAt (old.content Log) at range → at + range_size range ≤ end → ⊥
FindsWithin (Err e) at end old new = Unit {0}

-- so many ranges stand from one place to another
pub record Fill (log : Area) (at end count : ℕ) : Type 0 where
  pub ranges : List Range
  pub stand : AreRangesAt log at ranges end
  pub count_is : count ≡ length ranges

-- at true so many ranges stand between the places; at false they do not
abbrev pub FillsPayload : Result Bool Failed → ℕ → ℕ → ℕ → Meaning → Meaning → Type 0
FillsPayload (Ok true) at end count old new = IsTrue new.tells → Fill (old.content Log) at end count
FillsPayload (Ok false) at end count old new = IsTrue new.tells → Fill (old.content Log) at end count → ⊥
FillsPayload (Err e) at end count old new = Unit {0}

-- behind a gate that is open: at Some a group stands there, at None none does
abbrev pub FindsPayload : Result (Option GroupAt) Failed → ℕ → Meaning → Meaning → Type 0
FindsPayload (Ok (Some group)) at old new = IsTrue new.tells → IsOpen (old.content Log) at → IsPayload (old.content Log) at group
FindsPayload (Ok None) at old new = IsTrue new.tells → (ranges : List Range) (end : ℕ) → IsGroupAt (old.content Log) at ranges end → ⊥
FindsPayload (Err e) at old new = Unit {0}

-- the end of the chain, or that it does not decode
abbrev pub FindsChain : Result ℕ RecoverFault → Meaning → Meaning → Type 0
FindsChain (Ok end) old new = IsTrue new.tells → (groups : List (List Range)) × IsChain (old.content Log) groups end
FindsChain (Err Damaged) old new = IsTrue new.tells → IsDamaged (old.content Log)
FindsChain (Err Disk) old new = Unit {0}

-- The premises of the replay: what the walk before it found, where the machine tells it.
abbrev pub ToldChain : Meaning → List (List Range) → ℕ → Type 0
ToldChain machine groups end = IsTrue machine.tells → IsChain (machine.content Log) groups end

-- a group, from its gate to its end
abbrev pub ToldGroup : Meaning → ℕ → List Range → ℕ → Type 0
ToldGroup machine at ranges end = IsTrue machine.tells → IsGroupAt (machine.content Log) at ranges end

-- the ranges of a group, from the first to its end
abbrev pub ToldRanges : Meaning → ℕ → List Range → ℕ → Type 0
ToldRanges machine at ranges end = IsTrue machine.tells → AreRangesAt (machine.content Log) at ranges end

-- one range that ends within its group
abbrev pub ToldRange : Meaning → ℕ → Range → ℕ → Type 0
ToldRange machine at range end = IsTrue machine.tells → IsRangeAt (machine.content Log) at range × (at + range_size range ≤ end)
