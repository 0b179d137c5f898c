-- What the slots of the pages hold. It is said for any reading of a slot as a key and a value, so that
-- it serves rows and the catalogue alike.
use Rattle.std.specs.Prelude.{ℕ, ◌++◌, Bool, List, length, drop, map, filter, filter_map, fold, Option}
use Rattle.std.specs.declared.cmp.Ordering.{Ordering}
use Rattle.std.specs.FinMap as finite
use Rattle.mt_journal.specs.Layout.{Area}
use Rattle.mt_tables.specs.Pages.{SlotPlace, SlotSizes, bytes_at, page_count, places_below}

-- a slot: the table that it belongs to, and its bytes
abbrev pub TableSlot : Type 0
TableSlot = ℕ × List ℕ

-- the slot at a place
abbrev pub slot_at : SlotSizes → Area → SlotPlace → TableSlot
slot_at sizes area place = (place.table, bytes_at area place.position (sizes.width place.table))

-- the slots of the pages below a number, in page order
abbrev pub slots_below : SlotSizes → ℕ → Area → List TableSlot
slots_below sizes count area = map (slot_at sizes area) (places_below sizes count area)

-- what the slots of the pages below a number say, by key
abbrev pub tables_below : {K V : Type 0} {R : K → K → Ordering} → SlotSizes → ℕ → (TableSlot → Option (K × V)) → Area → finite.FinMap R V
tables_below sizes count read area = finite.from_entries (filter_map read (slots_below sizes count area))

-- what the slots of all pages say, by key
abbrev pub tables_of : {K V : Type 0} {R : K → K → Ordering} → SlotSizes → (TableSlot → Option (K × V)) → Area → finite.FinMap R V
tables_of sizes read area = tables_below sizes (page_count area) read area

-- with these entries, of which a later one takes the place of an earlier one with its key
abbrev pub with_entries : {K V : Type 0} {R : K → K → Ordering} → List (K × V) → finite.FinMap R V → finite.FinMap R V
with_entries entries tables = fold (λ tables e. finite.insert tables e.0 e.1) tables entries

-- those of the entries whose keys pass a test
abbrev pub passing : {K V : Type 0} → (K → Bool) → List (K × V) → List (K × V)
passing test entries = filter (λ e. test e.0) entries

-- a slot whose first bytes were overwritten
abbrev pub overwritten : List ℕ → List ℕ → List ℕ
overwritten bytes slot = bytes ++ drop (length bytes) slot
