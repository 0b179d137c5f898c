-- What the readers of groups and ranges answer.
use Rattle.std.specs.Prelude.{◌≡◌, ℕ, ◌+◌, IsTrue, Result, Ok, Err, Option, Some, None, List, length}
use Rattle.mt_machine.specs.declared.machine.Area.TheVariants.{Log}
use Rattle.mt_machine.specs.declared.machine.Failed.{Failed}
use Rattle.mt_machine.specs.Meaning.{Meaning}
use Rattle.mt_journal.specs.declared.group.GroupAt.{GroupAt}
use Rattle.mt_journal.specs.declared.group.RangeAt.{RangeAt}
use Rattle.mt_journal.specs.declared.journal.RecoverFault.{RecoverFault}
use Rattle.mt_journal.specs.declared.journal.RecoverFault.TheVariants.{Disk, Damaged}
use Rattle.mt_journal.specs.Layout.{Area, Range, IsOpen, IsGroupAt, IsRangeAt}

-- the group at this place, where its payload is and how long
pub record IsPayload (log : Area) (at : ℕ) (group : GroupAt) : Type 0 where
  pub ranges : List Range
  pub end : ℕ
  pub stands : IsGroupAt log at ranges end
  pub start : group.at ≡ at + 9
  pub size : group.at + group.length ≡ end

-- the gate is open, and no group stands behind it
pub record IsNoGroup (log : Area) (at : ℕ) : Type 0 where
  pub gate : IsOpen log at
  pub none : (ranges : List Range) (end : ℕ) → IsGroupAt log at ranges end → ⊥

-- the group that begins here, none where the gate is closed, damage where an open gate has none
abbrev pub FindsGroup : Result (Option GroupAt) RecoverFault → ℕ → Meaning → Meaning → Type 0
FindsGroup (Ok (Some group)) at old new = IsTrue new.tells → IsPayload (old.content Log) at group
FindsGroup (Ok None) at old new = IsTrue new.tells → IsOpen (old.content Log) at → ⊥
FindsGroup (Err Damaged) at old new = IsTrue new.tells → IsNoGroup (old.content Log) at
FindsGroup (Err Disk) at old new = Unit {0}

-- the range at this place: its parts, and what is behind it
pub record IsRead (log : Area) (at : ℕ) (read : RangeAt) : Type 0 where
  pub range : Range
  pub stands : IsRangeAt log at range
  pub position : read.position ≡ range.position
  pub size : read.length ≡ length range.bytes
  pub bytes : read.bytes_at ≡ at + 12
  pub next : read.next ≡ at + 12 + length range.bytes

-- the range that begins here
abbrev pub FindsRange : Result RangeAt Failed → ℕ → Meaning → Meaning → Type 0
FindsRange (Ok read) at old new = IsTrue new.tells → IsRead (old.content Log) at read
FindsRange (Err e) at old new = Unit {0}
