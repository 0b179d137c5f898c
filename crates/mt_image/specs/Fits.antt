-- What is looked at in each page by itself.
use Rattle.std.specs.Prelude.{◌≡◌, ◌⊎◌, ℕ, ◌+◌, ◌*◌, ◌<◌, ◌≤◌, List, map, All, IsSome}
use Rattle.mt_journal.specs.Layout.{Area, number_at}
use Rattle.mt_tables.specs.Pages.{page_places, table_at}
use Rattle.mt_tables.specs.Rows.{IsReadableSlot, KnownLayouts, layout_of, sizes_of}
use Rattle.mt_tables.specs.Tables.{TableSlot, slot_at}
use Rattle.mt_catalog.specs.State.{State}
use Rattle.mt_image.specs.Layouts.{known_of, none_known}

-- a physical table that there is: one of chunks, of the catalogue, or a conventional one
abbrev pub IsPhysical : ℕ → Type 0
IsPhysical table = ((1 ≤ table) × (table ≤ 6)) ⊎ ((8 ≤ table) × (table ≤ 13)) ⊎ ((16 ≤ table) × (table ≤ 31))

-- the slots of a page; none where no layout of its table is known
abbrev pub slots_on : KnownLayouts → Area → ℕ → List TableSlot
slots_on known pages page = map (slot_at (sizes_of known) pages) (page_places (sizes_of known) pages page)

-- Whatever the catalogue is, a page belongs to a table that there is, the head is blank behind its
-- number, and each slot of a chunk table or of the catalogue is free or can be read.
pub record FitsPage (pages : Area) (page : ℕ) : Type 0 where
  pub table : IsPhysical (table_at pages page)
  pub blank : number_at 4 pages (4096 * page + 4) ≡ 0
  pub slots : All (IsReadableSlot none_known) (slots_on none_known pages page)

-- A conventional page belongs to a base table of the catalogue, and each of its slots is free or can
-- be read by that table's columns.
pub record FitsBase (state : State) (pages : Area) (page : ℕ) : Type 0 where
  pub base : 16 ≤ table_at pages page → IsSome (layout_of (known_of state) (table_at pages page))
  pub slots : 16 ≤ table_at pages page → All (IsReadableSlot (known_of state)) (slots_on (known_of state) pages page)

-- each page below a number but page 0 is fit
abbrev pub AllFit : (ℕ → Type 0) → ℕ → Type 0
AllFit fits count = (page : ℕ) → 1 ≤ page → page < count → fits page

-- The first page that is not fit.
pub record FirstUnfit (fits : ℕ → Type 0) (count page : ℕ) : Type 0 where
  pub from : 1 ≤ page
  pub within : page < count
  pub unfit : fits page → ⊥
  pub before : AllFit fits page
