-- What opening a store answers.
use Rattle.std.specs.Prelude.{◌≡◌, ℕ, IsTrue, Result, Ok, Err, None}
use Rattle.mt_machine.specs.declared.machine.Area.TheVariants.{Log, Pages}
use Rattle.mt_machine.specs.Meaning.{Meaning, Rose}
use Rattle.mt_journal.specs.declared.journal.RecoverFault.{RecoverFault}
use Rattle.mt_journal.specs.declared.journal.RecoverFault.TheVariants as recovery
use Rattle.mt_journal.specs.Chain.{IsDamaged}
use Rattle.mt_journal.specs.Replay.{Replays}
use Rattle.mt_pages.specs.declared.pages.PagesFault.{PagesFault}
use Rattle.mt_pages.specs.declared.pages.PagesFault.TheVariants as page
use Rattle.mt_pages.specs.Control.{IsPageZero}
use Rattle.mt_directory.specs.Known.{known_in}
use Rattle.mt_physplan.specs.declared.phys.PhysFault.{PhysFault}
use Rattle.mt_physplan.specs.declared.phys.PhysFault.TheVariants as phys
use Rattle.mt_chunkstore.specs.declared.store.Store.{Store}
use Rattle.mt_chunkstore.specs.declared.store.StoreFault.{StoreFault}
use Rattle.mt_chunkstore.specs.declared.store.StoreFault.TheVariants as faults
use Rattle.mt_chunkstore.specs.Standing.{Stands}

-- The store stands for the machine, whose log was replayed, and knows no conventional table.
pub record IsOpened (store : Store) (old new : Meaning) : Type 0 where
  pub stands : Stands store new
  pub replayed : IsTrue new.tells → Replays old.content (new.content Pages)
  pub layouts : (table : ℕ) → known_in store.layouts table ≡ None

-- why it was not opened, as the disk shows it: the log does not decode, or page 0 of what it replays
-- to is damaged
abbrev pub OpenFails : {T : Type 0} → Result T StoreFault → Meaning → Meaning → Type 0
OpenFails (Ok store) old new = Unit {0}
OpenFails (Err faults.Log) old new = IsTrue new.tells → IsDamaged (old.content Log)
OpenFails (Err faults.Control) old new = IsTrue new.tells → IsPageZero (new.content Pages) → ⊥
OpenFails (Err faults.Disk) old new = Unit {0}
OpenFails (Err faults.Memory) old new = Unit {0}

-- a fault of the device was counted exactly where it is answered
abbrev pub StoreCause : {T : Type 0} → Result T StoreFault → ℕ → ℕ → Type 0
StoreCause (Ok store) before now = now ≡ before
StoreCause (Err faults.Disk) before now = Rose before now
StoreCause (Err faults.Log) before now = now ≡ before
StoreCause (Err faults.Control) before now = now ≡ before
StoreCause (Err faults.Memory) before now = now ≡ before

-- why a disk was not opened where its log was not recovered
abbrev pub log_fault : RecoverFault → StoreFault
log_fault recovery.Disk = faults.Disk
log_fault recovery.Damaged = faults.Log

-- where page 0 was not read
abbrev pub control_fault : PagesFault → StoreFault
control_fault page.Disk = faults.Disk
control_fault page.Damaged = faults.Control

-- and where a page was not
abbrev pub page_fault : PhysFault → StoreFault
page_fault phys.Disk = faults.Disk
page_fault phys.Memory = faults.Memory
