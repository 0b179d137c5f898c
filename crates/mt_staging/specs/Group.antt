-- A group of ranges while it is chosen for changes, one after another, and what the pages hold once it
-- is written.
use Rattle.std.specs.Prelude.{◌≡◌, ◌⊎◌, ℕ, ◌+◌, ◌*◌, ◌^◌, ◌<◌, ◌≤◌, ◌&&◌, nat_eq, Bool, true, false, not, if◌then◌else◌, List, [], ◌∷◌, length, slice_index, count_by, All, Option, None, Some, IsSome}
use Rattle.std.specs.FinMap as finite
use Rattle.mt_journal.specs.Commits.{payload_size}
use Rattle.mt_journal.specs.Layout.{Area, Range}
use Rattle.mt_journal.specs.Replay.{with_ranges}
use Rattle.mt_rowfile.specs.declared.layout.Head.{Head}
use Rattle.mt_rowfile.specs.declared.layout.Head.TheVariants.{Catalogue, Conventional, Chunk}
use Rattle.mt_rowfile.specs.declared.layout.Layout.{Layout}
use Rattle.mt_rowfile.specs.Layouts.{IsOfRows, body_width, slots_per_page}
use Rattle.mt_rowfile.specs.Pages.{is_free}
use Rattle.mt_rowfile.specs.Slots.{FitsLayout, IsBody, IsMark}
use Rattle.mt_physplan.specs.declared.change.Change.{Change}
use Rattle.mt_physplan.specs.declared.change.Change.TheVariants.{Put, Mark, Remove, PutCat, RemoveCat}
use Rattle.mt_physplan.specs.declared.key.Cell.{Cell}
use Rattle.mt_physplan.specs.declared.key.Key.{Key}
use Rattle.mt_physplan.specs.Applied as physical
use Rattle.mt_physplan.specs.Applied.{applied, applied_by, body_cmp, catalogue_applied, catalogue_applied_by}
use Rattle.mt_physplan.specs.Content.{Content}
use Rattle.mt_physplan.specs.Keys.{key_cmp, key_in}
use Rattle.mt_pages.specs.Control.{IsPageZero}
use Rattle.mt_places.specs.Named.{body_key, row_key, table_of}
use Rattle.mt_places.specs.Places.{PlacesState}
use Rattle.mt_tables.specs.Commit.{with_values}
use Rattle.mt_tables.specs.Pages.{SlotSizes, page_count, table_at}
use Rattle.mt_tables.specs.Plan.{IsPlan}
use Rattle.mt_tables.specs.Rows.{IsReadableSlot, KnownLayouts, body_in, catalogue_of, layout_of, row_in, rows_of, sizes_of}
use Rattle.mt_tables.specs.Tables.{TableSlot, slots_below}

-- A group so far: its ranges, where slots stand once they are written, the table of each page that it
-- makes, in order, and of each table how many free slots it takes and how many it frees.
pub record GroupState : Type 0 where
  pub ranges : List Range
  pub places : PlacesState
  pub added : List ℕ
  pub taken : ℕ → ℕ
  pub freed : ℕ → ℕ

-- a change that a table with this layout can have
abbrev pub Suits : Layout → Change → Type 0
Suits layout (Put table slot) = IsOfRows layout.head × FitsLayout layout slot × (1 ≤ slots_per_page layout)
Suits layout (Mark table tenant row mark) = (layout.head ≡ Conventional) × IsMark Conventional mark
Suits layout (Remove table tenant base chunk row) = IsOfRows layout.head
Suits layout (PutCat table body) = (layout.head ≡ Catalogue table) × (length body ≡ body_width table)
Suits layout (RemoveCat table body) = (layout.head ≡ Catalogue table) × (length body ≡ body_width table)

-- a slot of the catalogue that a change puts can be read
abbrev pub PutsReadable : Change → Type 0
PutsReadable (Put table slot) = Unit {0}
PutsReadable (Mark table tenant row mark) = Unit {0}
PutsReadable (Remove table tenant base chunk row) = Unit {0}
PutsReadable (PutCat table body) = IsBody table body
PutsReadable (RemoveCat table body) = Unit {0}

-- what a change names was asked for
abbrev pub IsAsked : Change → PlacesState → Type 0
IsAsked change places = ((key : Key) → row_key change ≡ Some key → finite.contains_key places.rows key ≡ true) × ((key : ℕ × List ℕ) → body_key change ≡ Some key → finite.contains_key places.bodies key ≡ true)

-- a change of a slot that stands nowhere, though it is to be there
abbrev pub IsLost : Change → PlacesState → Type 0
IsLost (Put table slot) places = ⊥
IsLost (Mark table tenant row mark) places = (key : Key) × (row_key (Mark table tenant row mark) ≡ Some key) × (finite.get places.rows key ≡ Some None)
IsLost (Remove table tenant base chunk row) places = (key : Key) × (row_key (Remove table tenant base chunk row) ≡ Some key) × (finite.get places.rows key ≡ Some None)
IsLost (PutCat table body) places = ⊥
IsLost (RemoveCat table body) places = finite.get places.bodies (table, body) ≡ Some None

-- A slot is put where none with its key stands, and no slot of its table is free.
abbrev pub NeedsPage : Change → PlacesState → Type 0
NeedsPage (Put table slot) places = (finite.get places.rows (key_in table slot) ≡ Some None) × (places.free table ≡ [])
NeedsPage (Mark table tenant row mark) places = ⊥
NeedsPage (Remove table tenant base chunk row) places = ⊥
NeedsPage (PutCat table body) places = (finite.get places.bodies (table, body) ≡ Some None) × (places.free table ≡ [])
NeedsPage (RemoveCat table body) places = ⊥

-- whether a change puts a slot where none with its key stands
abbrev pub is_new : Change → Content → physical.Catalogue → Bool
is_new (Put table slot) rows catalogue = not (finite.contains_key rows (key_in table slot))
is_new (Mark table tenant row mark) rows catalogue = false
is_new (Remove table tenant base chunk row) rows catalogue = false
is_new (PutCat table body) rows catalogue = not (finite.contains_key catalogue (table, body))
is_new (RemoveCat table body) rows catalogue = false

-- how many slots changes put into a table where none with their keys stood, each at its turn
abbrev pub new_keys : ℕ → List Change → Content → physical.Catalogue → ℕ
new_keys t [] rows catalogue = 0
new_keys t (change ∷ changes) rows catalogue =
    (if nat_eq (table_of change) t && is_new change rows catalogue then 1 else 0) + new_keys t changes (applied_by change rows) (catalogue_applied_by change catalogue)

-- how many slots of a table are in use in the pages below a number
abbrev pub used_in : SlotSizes → ℕ → ℕ → Area → ℕ
used_in sizes t count area = count_by (λ slot. nat_eq slot.0 t && not (is_free slot.1)) (slots_below sizes count area)

-- how many pages of a table a group makes
abbrev pub pages_of : ℕ → List ℕ → ℕ
pages_of t added = count_by (λ table. nat_eq table t) added

-- The group makes these changes of the pages, of which so many count; so many slots of each table were
-- free to be taken before it. A key that stood nowhere takes a free slot, and a page is made only
-- where none is left.
pub record IsGroup (known : KnownLayouts) (count : ℕ) (area : Area) (start : ℕ → ℕ) (changes : List Change) (group : GroupState) : Type 0 where
  pub row_values : List (Key × Option Cell)
  pub row_changes : with_values row_values (rows_of known area) ≡ applied changes (rows_of known area)
  pub rows : IsPlan (sizes_of known) (row_in known) key_cmp (λ key. key.table) (count + length group.added) area row_values group.ranges group.places.rows group.places.free
  pub body_values : List ((ℕ × List ℕ) × Option (Unit {0}))
  pub body_changes : with_values body_values (catalogue_of known area) ≡ catalogue_applied changes (catalogue_of known area)
  pub bodies : IsPlan (sizes_of known) body_in body_cmp (λ key. key.0) (count + length group.added) area body_values group.ranges group.places.bodies group.places.free
  -- page 0 counts the pages that it makes, and is as it was where it makes none
  pub counted : page_count (with_ranges group.ranges area) ≡ count + length group.added
  pub tables_stand : (page : ℕ) → 1 ≤ page → page < count → table_at (with_ranges group.ranges area) page ≡ table_at area page
  pub tables_added : (i : ℕ) → i < length group.added → table_at (with_ranges group.ranges area) (count + i) ≡ slice_index group.added i
  -- the head of a page stands, and that of one that is made is blank behind the table's number
  pub heads_stand : (page k : ℕ) → 1 ≤ page → page < count → k < 8 → with_ranges group.ranges area (4096 * page + k) ≡ area (4096 * page + k)
  pub heads_blank : (i k : ℕ) → i < length group.added → 4 ≤ k → k < 8 → with_ranges group.ranges area (4096 * (count + i) + k) ≡ 0
  pub taken : (t : ℕ) → group.taken t ≡ new_keys t changes (rows_of known area) (catalogue_of known area)
  pub filled : (t : ℕ) → group.taken t + length (group.places.free t) ≡ start t + pages_of t group.added * (sizes_of known).count t
  pub needed : (t : ℕ) → 1 ≤ pages_of t group.added → length (group.places.free t) < (sizes_of known).count t
  pub used : (t : ℕ) → used_in (sizes_of known) t (count + length group.added) (with_ranges group.ranges area) + group.freed t ≡ used_in (sizes_of known) t count area + group.taken t
  -- where each slot could be read, each can
  pub readable : All (IsReadableSlot known) (slots_below (sizes_of known) count area) → All PutsReadable changes
      → All (IsReadableSlot known) (slots_below (sizes_of known) (count + length group.added) (with_ranges group.ranges area))
  -- page 0 counts pages where it did, and the pages that are made are of tables that there are
  pub page_zero : IsPageZero area → IsPageZero (with_ranges group.ranges area)
  pub tables_few : (i : ℕ) → i < length group.added → slice_index group.added i < 32
  pub tables_known : (i : ℕ) → i < length group.added → IsSome (layout_of known (slice_index group.added i))
  pub pages_few : count + length group.added ≤ 2 ^ 28
  pub few : length group.ranges ≤ 3 * length changes
  pub short : payload_size group.ranges ≤ 4 + 12324 * length changes
