-- What is found where the pages are read one after another.
use Rattle.std.specs.Prelude.{◌≡◌, ℕ, ◌-◌, ◌*◌, ◌≤◌, IsTrue, nat_eq, if◌then◌else◌, List, length, slice_index, Option, None, Some, Result, Ok, Err}
use Rattle.byteorder.specs.Endian.{little_number}
use Rattle.mt_machine.specs.declared.machine.Area.TheVariants.{Pages}
use Rattle.mt_machine.specs.Meaning.{Meaning, Rose}
use Rattle.mt_rowfile.specs.declared.layout.Layout.{Layout}
use Rattle.mt_rowfile.specs.Layouts.{slots_per_page}
use Rattle.mt_rowfile.specs.Pages.{free_slots}
use Rattle.mt_physplan.specs.declared.phys.PhysFault.{PhysFault}
use Rattle.mt_physplan.specs.declared.phys.PhysFault.TheVariants as faults
use Rattle.mt_tables.specs.Rows.{KnownLayouts, layout_of, sizes_of}
use Rattle.mt_directory.specs.Directory.{directory_of}
use Rattle.mt_staging.specs.Group.{used_in}

-- the slots in use of a page with this layout; none where none is known
abbrev pub used_by : Option Layout → List ℕ → ℕ
used_by None page = 0
used_by (Some layout) page = slots_per_page layout - free_slots layout page

-- the slots of a table that are in use in a page
abbrev pub used_on : KnownLayouts → ℕ → List ℕ → ℕ
used_on known table page = if nat_eq (little_number 4 page) table then used_by (layout_of known table) page else 0

-- The tables of the pages below a number, and their slots in use. The bound holds whatever the
-- machine tells.
pub record Surveyed (known : KnownLayouts) (count : ℕ) (tables used : List ℕ) (machine : Meaning) : Type 0 where
  pub sized : length tables ≡ count - 1
  pub listed : IsTrue machine.tells → tables ≡ directory_of count (machine.content Pages)
  pub counted : IsTrue machine.tells → (table : ℕ) → slice_index used table ≡ used_in (sizes_of known) table count (machine.content Pages)
  pub few : (table : ℕ) → slice_index used table ≤ 4096 * count

-- a fault of the device was counted exactly where it is answered
abbrev pub FoundCause : {T : Type 0} → Result T PhysFault → ℕ → ℕ → Type 0
FoundCause (Ok found) before now = now ≡ before
FoundCause (Err faults.Disk) before now = Rose before now
FoundCause (Err faults.Memory) before now = now ≡ before
