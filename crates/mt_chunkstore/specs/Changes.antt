-- Changes of the pages of a store: which may be made, how many new pages they need, and what pages
-- hold once they are made.
use Rattle.std.specs.Prelude.{◌≡◌, ◌⊎◌, ℕ, ◌+◌, ◌-◌, ◌*◌, ◌/◌, ◌^◌, ◌<◌, ◌≤◌, ◌&&◌, min, nat_eq, true, List, [], ◌∷◌, count_by, sum_by, All, Some, IsSome}
use Rattle.std.specs.List.{range_with_len}
use Rattle.std.specs.FinMap as finite
use Rattle.mt_machine.specs.Meaning.{Disk}
use Rattle.mt_journal.specs.Layout.{Area}
use Rattle.mt_journal.specs.Replay.{Replays}
use Rattle.mt_rowfile.specs.declared.layout.Layout.{Layout}
use Rattle.mt_rowfile.specs.Pages.{is_free}
use Rattle.mt_physplan.specs.declared.change.Change.{Change}
use Rattle.mt_physplan.specs.declared.change.Change.TheVariants.{Put, Mark, Remove, PutCat, RemoveCat}
use Rattle.mt_physplan.specs.Applied.{Catalogue, applied, applied_by, catalogue_applied, catalogue_applied_by}
use Rattle.mt_physplan.specs.Content.{Content}
use Rattle.mt_physplan.specs.Keys.{conventional_key}
use Rattle.mt_tables.specs.Pages.{SlotSizes, page_count, table_at}
use Rattle.mt_tables.specs.Rows.{ArePages, KnownLayouts, catalogue_of, layout_of, rows_of, sizes_of}
use Rattle.mt_tables.specs.Tables.{slots_below}
use Rattle.mt_places.specs.Named.{is_of, is_put, table_of}
use Rattle.mt_staging.specs.Group.{PutsReadable, Suits, new_keys}
use Rattle.mt_pages.specs.Control.{IsPageZero}

-- a change of a table with a known layout, which it suits
pub record IsSuited (known : KnownLayouts) (change : Change) : Type 0 where
  pub layout : Layout
  pub is_known : layout_of known (table_of change) ≡ Some layout
  pub suits : Suits layout change

-- what a change marks or removes is there
abbrev pub IsThere : Change → Content → Catalogue → Type 0
IsThere (Put table slot) rows catalogue = Unit {0}
IsThere (Mark table tenant row mark) rows catalogue = finite.contains_key rows (conventional_key table tenant row) ≡ true
IsThere (Remove table tenant base chunk row) rows catalogue = finite.contains_key rows (record { table = table; tenant = tenant; base = base; chunk = chunk; row = row }) ≡ true
IsThere (PutCat table body) rows catalogue = Unit {0}
IsThere (RemoveCat table body) rows catalogue = finite.contains_key catalogue (table, body) ≡ true

-- each at its turn
abbrev pub AreThere : List Change → Content → Catalogue → Type 0
AreThere [] rows catalogue = Unit {0}
AreThere (change ∷ changes) rows catalogue = IsThere change rows catalogue × AreThere changes (applied_by change rows) (catalogue_applied_by change catalogue)

-- how many slots of a table are free in the pages below a number
abbrev pub free_count : SlotSizes → ℕ → ℕ → Area → ℕ
free_count sizes table count area = count_by (λ slot. nat_eq slot.0 table && is_free slot.1) (slots_below sizes count area)

-- as few pages as have room for so many slots
abbrev pub pages_for : ℕ → ℕ → ℕ
pages_for slots per_page = (slots + (per_page - 1)) / per_page

-- how many new pages of a table changes need: its free slots take new keys first, and the rest goes to
-- as few pages as have room for it
abbrev pub pages_needed : KnownLayouts → List Change → ℕ → Area → ℕ → ℕ
pages_needed known changes count area table = pages_for (new_keys table changes (rows_of known area) (catalogue_of known area) - free_count (sizes_of known) table count area) ((sizes_of known).count table)

-- and of all tables
abbrev pub all_needed : KnownLayouts → List Change → ℕ → Area → ℕ
all_needed known changes count area = sum_by (pages_needed known changes count area) (range_with_len 0 32)

-- Pages that can be changed so: their slots can be read and have keys of their own, what is marked or
-- removed is there, and the pages that are needed do not make them too many.
pub record MayChange (known : KnownLayouts) (changes : List Change) (count : ℕ) (area : Area) : Type 0 where
  pub pages : ArePages known area
  pub there : AreThere changes (rows_of known area) (catalogue_of known area)
  pub few : count + all_needed known changes count area ≤ 2 ^ 28

-- how many slots of a table a group may take: those that are free, as far as there are puts for them
abbrev pub free_at_start : KnownLayouts → List Change → ℕ → Area → ℕ → ℕ
free_at_start known changes count area table = min (count_by (λ change. is_put change && is_of table change) changes) (free_count (sizes_of known) table count area)

-- how many pages of a table there are
abbrev pub page_count_of : ℕ → Area → ℕ
page_count_of table area = count_by (λ page. nat_eq (table_at area page) table) (range_with_len 1 (page_count area - 1))

-- The page is of a table whose layout is known, and its head is blank behind the table's number.
pub record HasHead (known : KnownLayouts) (area : Area) (page : ℕ) : Type 0 where
  pub table_known : IsSome (layout_of known (table_at area page))
  pub blank : (k : ℕ) → 4 ≤ k → k < 8 → area (4096 * page + k) ≡ 0

-- What changes make of pages. Their rows and catalogue are those of before after the changes; each page
-- of before has its head still, and behind them stand as few new pages of each table as are needed.
pub record AreChanged (known : KnownLayouts) (changes : List Change) (old new : Area) : Type 0 where
  pub rows : rows_of known new ≡ applied changes (rows_of known old)
  pub catalogue : catalogue_of known new ≡ catalogue_applied changes (catalogue_of known old)
  pub page_zero : IsPageZero old → IsPageZero new
  pub count : page_count new ≡ page_count old + all_needed known changes (page_count old) old
  pub of_tables : (table : ℕ) → page_count_of table new ≡ page_count_of table old + pages_needed known changes (page_count old) old table
  pub heads_stand : (page k : ℕ) → 1 ≤ page → page < page_count old → k < 8 → new (4096 * page + k) ≡ old (4096 * page + k)
  pub heads_made : (page : ℕ) → page_count old ≤ page → page < page_count new → HasHead known new page
  pub sound : ArePages known old → All PutsReadable changes → ArePages known new

-- a stop leaves the pages of before, or ones with the changes made
abbrev pub IsWholeOrAbsent : KnownLayouts → List Change → Area → Disk → Type 0
IsWholeOrAbsent known changes old image = Replays image old ⊎ ((pages : Area) × Replays image pages × AreChanged known changes old pages)
