-- What stage finds when it looks through the pages, and what it chooses.
use Rattle.std.specs.Prelude.{◌≡◌, ℕ, ◌+◌, ◌*◌, ◌^◌, ◌≤◌, IsTrue, List, [], length, take, All, Result, Ok, Err}
use Rattle.mt_machine.specs.declared.machine.Area.TheVariants.{Pages}
use Rattle.mt_machine.specs.Meaning.{Meaning, Rose}
use Rattle.mt_journal.specs.Commits.{payload_size}
use Rattle.mt_journal.specs.Layout.{Area}
use Rattle.mt_physplan.specs.declared.change.Change.{Change}
use Rattle.mt_tables.specs.Pages.{places_below}
use Rattle.mt_tables.specs.Plan.{free_in, placed, sought}
use Rattle.mt_tables.specs.Rows.{KnownLayouts, body_in, row_in, sizes_of}
use Rattle.mt_directory.specs.Directory.{directory_of}
use Rattle.mt_places.specs.Places.{IsBegun, PlacesState}
use Rattle.mt_staging.specs.Group.{GroupState, IsAsked, IsGroup}
use Rattle.mt_staging.specs.States.{IsEmptyGroup}
use Rattle.mt_staging.specs.declared.fault.StageFault.{StageFault}
use Rattle.mt_staging.specs.declared.fault.StageFault.TheVariants as faults

-- the pages below a number were looked at, but for those of tables that no change names
pub record IsWalked (known : KnownLayouts) (area : Area) (n : ℕ) (begun places : PlacesState) : Type 0 where
  pub rows : places.rows ≡ sought (row_in known) (placed (sizes_of known) area (places_below (sizes_of known) n area)) begun.rows
  pub bodies : places.bodies ≡ sought body_in (placed (sizes_of known) area (places_below (sizes_of known) n area)) begun.bodies
  pub free : (table : ℕ) → places.free table ≡ take (begun.wanted table) (free_in table (placed (sizes_of known) area (places_below (sizes_of known) n area)))
  pub wanted : places.wanted ≡ begun.wanted
  pub named : places.named ≡ begun.named

-- What the changes name was asked for, and all pages were looked at.
pub record IsFound (known : KnownLayouts) (changes : List Change) (n : ℕ) (tables : List ℕ) (count : ℕ) (machine : Meaning) (places : PlacesState) : Type 0 where
  pub asked : All (λ change. IsAsked change places) changes
  pub begun : PlacesState
  pub begins : IsBegun changes begun
  pub walked : IsTrue machine.tells → tables ≡ directory_of count (machine.content Pages) → IsWalked known (machine.content Pages) n begun places

-- a fault of the device was counted exactly where it is answered
abbrev pub LookCause : {T : Type 0} → Result T StageFault → ℕ → ℕ → Type 0
LookCause (Ok places) before now = now ≡ before
LookCause (Err faults.Disk) before now = Rose before now
LookCause (Err faults.Memory) before now = now ≡ before

-- a group of no ranges over places is one of no changes
abbrev pub Begins : KnownLayouts → ℕ → Area → (ℕ → ℕ) → PlacesState → Type 0
Begins known count area start places = (fresh : GroupState) → IsEmptyGroup places fresh → IsGroup known count area start [] fresh

-- The group of changes, wherever it begins as one of no changes.
pub record IsChosen (known : KnownLayouts) (changes : List Change) (count : ℕ) (places : PlacesState) (group : GroupState) : Type 0 where
  pub small : payload_size group.ranges ≤ 4 + 12324 * length changes
  pub short : length group.ranges ≤ 3 * length changes
  pub few : count + length group.added ≤ 2 ^ 28
  pub chosen : (area : Area) (start : ℕ → ℕ) → Begins known count area start places → IsGroup known count area start changes group
