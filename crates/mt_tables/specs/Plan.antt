-- What is known of the pages as they will be, while a group is chosen range by range.
use Rattle.std.specs.Prelude.{◌≡◌, ◌≢◌, ◌&&◌, ℕ, ◌<◌, nat_eq, if◌then◌else◌, List, [], ◌∷◌, ◌++◌, length, map, drop, filter, fold, zip, get_or, Option, None, Some}
use Rattle.std.specs.List.{range_with_len}
use Rattle.std.specs.declared.cmp.Ordering.{Ordering}
use Rattle.std.specs.FinMap as finite
use Rattle.mt_journal.specs.Layout.{Area, Range}
use Rattle.mt_journal.specs.Replay.{with_ranges}
use Rattle.mt_tables.specs.Commit.{Makes}
use Rattle.mt_rowfile.specs.Pages.{is_free, slots_in}
use Rattle.mt_tables.specs.Pages.{SlotPlace, SlotSizes, place_in, places_below, slot_position}
use Rattle.mt_tables.specs.Tables.{TableSlot, slot_at, slots_below, tables_below}
use Rattle.mt_tables.specs.Unique.{AreUnique}

-- a place is that of a slot of the pages below a number, and what the slot there says
pub record Says {K V : Type 0} (sizes : SlotSizes) (read : TableSlot → Option (K × V)) (count : ℕ) (area : Area) (place : SlotPlace) (entry : Option (K × V)) : Type 0 where
  pub number : ℕ
  pub within : number < length (places_below sizes count area)
  pub stands : (d : SlotPlace) → get_or (places_below sizes count area) number d ≡ place
  pub says : (d : TableSlot) → read (get_or (slots_below sizes count area) number d) ≡ entry

-- each slot of a table at these positions is free
abbrev pub AreFree : {K V : Type 0} → SlotSizes → (TableSlot → Option (K × V)) → ℕ → Area → ℕ → List ℕ → Type 0
AreFree sizes read count area table [] = Unit {0}
AreFree sizes read count area table (position ∷ positions) = Says sizes read count area (record { table = table; position = position }) None × AreFree sizes read count area table positions

-- none of these positions is that one
abbrev pub AreOthers : ℕ → List ℕ → Type 0
AreOthers position [] = Unit {0}
AreOthers position (other ∷ positions) = (other ≢ position) × AreOthers position positions

-- no two of the positions are one
abbrev pub AreApart : List ℕ → Type 0
AreApart [] = Unit {0}
AreApart (position ∷ positions) = AreOthers position positions × AreApart positions

-- the free positions by table, without the first one of a table
abbrev pub without_first : ℕ → (ℕ → List ℕ) → ℕ → List ℕ
without_first table free t = if nat_eq t table then drop 1 (free t) else free t

-- where the slots of a page of a table begin
abbrev pub page_positions : SlotSizes → ℕ → ℕ → List ℕ
page_positions sizes table page = map (slot_position (sizes.width table) page) (range_with_len 0 (sizes.count table))

-- the free positions by table, with those of a new page behind
abbrev pub with_page : SlotSizes → ℕ → ℕ → (ℕ → List ℕ) → ℕ → List ℕ
with_page sizes table page free t = if nat_eq t table then free t ++ page_positions sizes table page else free t

-- The plan of these changes: ranges that make them, where each key that was asked for stands once they
-- are written, and positions of each table that are free then.
pub record IsPlan {K V : Type 0} (sizes : SlotSizes) (read : TableSlot → Option (K × V)) (R : K → K → Ordering) (table_of : K → ℕ) (count : ℕ) (pages : Area) (changes : List (K × Option V)) (ranges : List Range) (index : finite.FinMap R (Option ℕ)) (free : ℕ → List ℕ) : Type 0 where
  pub made : Makes sizes read R changes ranges count pages
  pub unique : AreUnique R read (slots_below sizes count (with_ranges ranges pages))
  -- a key that was found stands there
  pub held : (key : K) (position : ℕ) → finite.get index key ≡ Some (Some position)
      → (value : V) × Says sizes read count (with_ranges ranges pages) (record { table = table_of key; position = position }) (Some (key, value))
  -- one that was asked for and not found stands nowhere
  pub lacked : (key : K) → finite.get index key ≡ Some None → finite.get (tables_below {R = R} sizes count read (with_ranges ranges pages)) key ≡ None
  pub are_free : (table : ℕ) → AreFree sizes read count (with_ranges ranges pages) table (free table)
  pub are_apart : (table : ℕ) → AreApart (free table)

-- a slot and where it stands
abbrev pub PlacedSlot : Type 0
PlacedSlot = SlotPlace × TableSlot

-- the slots at these places
abbrev pub placed : SlotSizes → Area → List SlotPlace → List PlacedSlot
placed sizes area places = map (λ place. (place, slot_at sizes area place)) places

-- the slots of a page of a table, as its bytes have them
abbrev pub placed_in : SlotSizes → ℕ → ℕ → List ℕ → List PlacedSlot
placed_in sizes table page bytes = zip (map (place_in sizes table page) (range_with_len 0 (sizes.count table))) (map (λ slot. (table, slot)) (slots_in (sizes.width table) (sizes.count table) (drop 8 bytes)))

-- the index with the place of the key that a slot says, where that key is asked for
abbrev pub with_place : {K V : Type 0} {R : K → K → Ordering} → Option (K × V) → ℕ → finite.FinMap R (Option ℕ) → finite.FinMap R (Option ℕ)
with_place None position index = index
with_place (Some e) position index = if finite.contains_key index e.0 then finite.insert index e.0 (Some position) else index

-- the index once these slots were looked at
abbrev pub sought : {K V : Type 0} {R : K → K → Ordering} → (TableSlot → Option (K × V)) → List PlacedSlot → finite.FinMap R (Option ℕ) → finite.FinMap R (Option ℕ)
sought read slots index = fold (λ index slot. with_place (read slot.1) slot.0.position index) index slots

-- the positions of the slots of one table that are marked free, in page order
abbrev pub free_in : ℕ → List PlacedSlot → List ℕ
free_in table slots = map (λ slot. slot.0.position) (filter (λ slot. nat_eq slot.0.table table && is_free slot.1.1) slots)
