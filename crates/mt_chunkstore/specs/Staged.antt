-- What a store stages, and what a commit of it leaves.
use Rattle.std.specs.Prelude.{◌≡◌, ℕ, ◌+◌, ◌^◌, ◌≤◌, IsTrue, List, length, All, Result, Ok, Err}
use Rattle.mt_machine.specs.declared.machine.Area.TheVariants.{Pages}
use Rattle.mt_machine.specs.Keeps.{MayFail}
use Rattle.mt_machine.specs.Meaning.{Disk, Meaning}
use Rattle.mt_journal.specs.Commits.{payload_size}
use Rattle.mt_physplan.specs.declared.change.Change.{Change}
use Rattle.mt_tables.specs.Rows.{ArePages, KnownLayouts}
use Rattle.mt_directory.specs.Known.{known_in}
use Rattle.mt_staging.specs.Group.{GroupState, IsGroup, PutsReadable}
use Rattle.mt_staging.specs.declared.fault.StageFault.{StageFault}
use Rattle.mt_staging.specs.declared.fault.StageFault.TheVariants as faults
use Rattle.mt_chunkstore.specs.declared.store.Store.{Store}
use Rattle.mt_chunkstore.specs.Changes.{AreChanged, IsWholeOrAbsent, MayChange, all_needed, free_at_start}
use Rattle.mt_chunkstore.specs.Standing.{Stands}

-- The group of these changes was chosen for the store's pages, and the store has room for its pages.
pub record IsStaged (changes : List Change) (group : GroupState) (store : Store) (machine : Meaning) : Type 0 where
  pub short : payload_size group.ranges ≤ 2 ^ 41
  pub few : store.pages + length group.added ≤ 2 ^ 28
  pub room : length group.added ≤ store.directory.room
  pub made : IsTrue machine.tells → MayChange (known_in store.layouts) changes store.pages (machine.content Pages)
      → IsGroup (known_in store.layouts) store.pages (machine.content Pages) (free_at_start (known_in store.layouts) changes store.pages (machine.content Pages)) changes group

-- a fault of the device is answered only where one was counted, or the pages cannot be changed so
abbrev pub StageCause : {T : Type 0} → Result T StageFault → KnownLayouts → List Change → ℕ → Meaning → Meaning → Type 0
StageCause (Ok staged) known changes count old new = new.disk_faults ≡ old.disk_faults
StageCause (Err faults.Disk) known changes count old new = MayFail (IsTrue new.tells × MayChange known changes count (old.content Pages)) old.disk_faults new.disk_faults
StageCause (Err faults.Memory) known changes count old new = new.disk_faults ≡ old.disk_faults

-- the changes may be made of the pages of a store, where its machine tells them
abbrev pub Allowed : List Change → Store → Meaning → Type 0
Allowed changes store machine = IsTrue machine.tells → MayChange (known_in store.layouts) changes store.pages (machine.content Pages)

-- The changes were made: the store stands for the machine still, and there are as many pages as the
-- rule says.
pub record IsCommitted (changes : List Change) (old_store new_store : Store) (old new : Meaning) : Type 0 where
  pub stands : Stands new_store new
  pub layouts : new_store.layouts ≡ old_store.layouts
  pub scans : new_store.scans ≡ old_store.scans
  pub changed : IsTrue new.tells → AreChanged (known_in old_store.layouts) changes (old.content Pages) (new.content Pages)
  pub pages : IsTrue new.tells → new_store.pages ≡ old_store.pages + all_needed (known_in old_store.layouts) changes old_store.pages (old.content Pages)
  pub sound : IsTrue new.tells → All PutsReadable changes → ArePages (known_in old_store.layouts) (new.content Pages)

-- a stop leaves the pages of before, or pages with the changes made
abbrev pub StopsWhole : List Change → Store → Meaning → Disk → Type 0
StopsWhole changes store old image = IsWholeOrAbsent (known_in store.layouts) changes (old.content Pages) image
