-- What single slots say, by their tables and layouts.
use Rattle.std.proofs.Common.{◌≡◌, ℕ, zero, suc, ◌+◌, ◌<◌, ◌≤◌, ◌*◌, ◌-◌, ◌==◌, Bool, true, false, cond, List, [], ◌∷◌, ◌++◌, map, drop, All, IfSome, slice_index, Option, None, Some, refl, sym, ap, ◌∙◌, subst, arith}
use Rattle.std.proofs.lemmas.Bool.Decides.{nat_tests}
use Rattle.std.proofs.lemmas.List.Elements.{All-cons, All-head, All-nil, All-tail}
use Rattle.mt_journal.specs.Layout.{Area}
use Rattle.mt_rowfile.specs.declared.layout.Head.{Head}
use Rattle.mt_rowfile.specs.declared.layout.Head.TheVariants.{Catalogue, Conventional, Chunk}
use Rattle.mt_rowfile.specs.declared.layout.Layout.{Layout}
use Rattle.mt_rowfile.specs.Pages.{slots_in, slots_of_page}
use Rattle.mt_rowfile.specs.Slots.{IsSlot}
use Rattle.mt_physplan.specs.declared.key.Cell.{Cell}
use Rattle.mt_physplan.specs.declared.key.Key.{Key}
use Rattle.mt_tables.specs.Pages.{SlotSizes, bytes_at, page_count, page_places, table_at}
use Rattle.mt_tables.specs.Rows.{ArePages, IsReadableSlot, KnownLayouts, body_in, is_of_catalogue, layout_of, row_by, row_in, row_under, sizes_of, slot_count_by, width_by}
use Rattle.mt_tables.specs.Tables.{TableSlot, slot_at}
use Rattle.mt_tables.proofs.PageSlots.{page_slots, pages_slots}
use Rattle.mt_tables.proofs.Places.{pages_places}
use Rattle.mt_tables.proofs.Sizes.{sizes_sound}

-- the table of a row's key, where there is one
abbrev table_said : ℕ → Option (Key × Cell) → ℕ
table_said table None = table
table_said table (Some e) = e.0.table

under_says : (head : Head) (layout : Layout) (table : ℕ) (bytes : List ℕ) → table_said table (row_under head layout table bytes) ≡ table
under_says (Catalogue number) layout table bytes = refl
under_says Conventional layout table bytes = refl
under_says Chunk layout table bytes = refl

by_says : (found : Option Layout) (table : ℕ) (bytes : List ℕ) → table_said table (row_by found table bytes) ≡ table
by_says None table bytes = refl
by_says (Some layout) table bytes = under_says layout.head layout table bytes

-- a row has the table of its slot
pub row_of_table : (known : KnownLayouts) (slot : TableSlot) (e : Key × Cell) → row_in known slot ≡ Some e → e.0.table ≡ slot.0
row_of_table known slot e is = by (slice_index slot.1 0 == 0) is
  where
    by : (b : Bool) → cond b None (row_by (layout_of known slot.0) slot.0 slot.1) ≡ Some e → e.0.table ≡ slot.0
    by true is = cc
    by false is = sym (ap (table_said slot.0) is) ∙ by_says (layout_of known slot.0) slot.0 slot.1

-- and a slot of the catalogue too
pub body_of_table : (slot : TableSlot) (e : (ℕ × List ℕ) × Unit {0}) → body_in slot ≡ Some e → e.0.0 ≡ slot.0
body_of_table slot e is = by (slice_index slot.1 0 == 0) (is_of_catalogue slot.0) is
  where
    said : Option ((ℕ × List ℕ) × Unit {0}) → ℕ
    said None = slot.0
    said (Some e) = e.0.0

    by : (b c : Bool) → cond b None (cond c (Some ((slot.0, drop 1 slot.1), tt)) None) ≡ Some e → e.0.0 ≡ slot.0
    by true c is = cc
    by false true is = sym (ap said is)
    by false false is = cc

-- a free slot says nothing
pub row_free : (known : KnownLayouts) (slot : TableSlot) → (slice_index slot.1 0 == 0) ≡ true → row_in known slot ≡ None
row_free known slot free = ap (λ b. cond b None (row_by (layout_of known slot.0) slot.0 slot.1)) free

pub body_free : (slot : TableSlot) → (slice_index slot.1 0 == 0) ≡ true → body_in slot ≡ None
body_free slot free = ap (λ b. cond b None (cond (is_of_catalogue slot.0) (Some ((slot.0, drop 1 slot.1), tt)) None)) free

none_if : {A : Type 0} (b : Bool) → ◌≡◌ {A = Option A} (cond b None None) None
none_if true = refl
none_if false = refl

-- nor does one without a layout, or of the catalogue, say a row
pub row_unknown : (known : KnownLayouts) (slot : TableSlot) → layout_of known slot.0 ≡ None → row_in known slot ≡ None
row_unknown known slot unknown = ap (λ found. cond (slice_index slot.1 0 == 0) None (row_by found slot.0 slot.1)) unknown ∙ none_if (slice_index slot.1 0 == 0)

pub row_catalogue : (known : KnownLayouts) (slot : TableSlot) (layout : Layout) (number : ℕ) → layout_of known slot.0 ≡ Some layout → layout.head ≡ Catalogue number → row_in known slot ≡ None
row_catalogue known slot layout number found head =
    ap (λ found. cond (slice_index slot.1 0 == 0) None (row_by found slot.0 slot.1)) found
    ∙ ap (λ head. cond (slice_index slot.1 0 == 0) None (row_under head layout slot.0 slot.1)) head ∙ none_if (slice_index slot.1 0 == 0)

-- nor one of another table a slot of the catalogue
pub body_elsewhere : (slot : TableSlot) → is_of_catalogue slot.0 ≡ false → body_in slot ≡ None
body_elsewhere slot other = ap (λ c. cond (slice_index slot.1 0 == 0) None (cond c (Some ((slot.0, drop 1 slot.1), tt)) None)) other ∙ none_if (slice_index slot.1 0 == 0)

-- a slot in use is read with its layout
pub row_used : (known : KnownLayouts) (table : ℕ) (bytes : List ℕ) (layout : Layout) → layout_of known table ≡ Some layout → (slice_index bytes 0 == 0) ≡ false → row_in known (table, bytes) ≡ row_under layout.head layout table bytes
row_used known table bytes layout found used = ap (λ b. cond b None (row_by (layout_of known table) table bytes)) used ∙ ap (λ found. row_by found table bytes) found

-- what holds of all holds of those in front, and of those behind
all_front : {X : Type 0} (P : X → Type 0) (xs ys : List X) → All P (xs ++ ys) → All P xs
all_front P [] ys all = All-nil P
all_front P (x ∷ xs) ys all = All-cons P x xs (All-head P x (xs ++ ys) all) (all_front P xs ys (All-tail P x (xs ++ ys) all))

all_behind : {X : Type 0} (P : X → Type 0) (xs ys : List X) → All P (xs ++ ys) → All P ys
all_behind P [] ys all = all
all_behind P (x ∷ xs) ys all = all_behind P xs ys (All-tail P x (xs ++ ys) all)

-- what holds of the slots of all pages holds of those of one
all_of_page : (P : TableSlot → Type 0) (sizes : SlotSizes) (area : Area) (first n page : ℕ) → first ≤ page → page < first + n → All P (map (slot_at sizes area) (pages_places sizes area first n)) → All P (map (slot_at sizes area) (page_places sizes area page))
all_of_page P sizes area first zero page low high all = absurd (omega arith)
all_of_page P sizes area first (suc n) page low high all = by (λ next. all_of_page P sizes area (first + 1) n page next (omega arith)) (first == page) refl
  where
    parts : All P (map (slot_at sizes area) (page_places sizes area first) ++ map (slot_at sizes area) (pages_places sizes area (first + 1) n))
    parts = subst (All P) (pages_slots sizes area first n) all

    by : (first + 1 ≤ page → All P (map (slot_at sizes area) (pages_places sizes area (first + 1) n)) → All P (map (slot_at sizes area) (page_places sizes area page))) → (b : Bool) → (first == page) ≡ b → All P (map (slot_at sizes area) (page_places sizes area page))
    by later true e =
        let same : first ≡ page = grind (arith, nat_tests, e) in
        subst (λ p. All P (map (slot_at sizes area) (page_places sizes area p))) same (all_front P (map (slot_at sizes area) (page_places sizes area first)) (map (slot_at sizes area) (pages_places sizes area (first + 1) n)) parts)
    by later false e =
        let less : first + 1 ≤ page = grind (arith, nat_tests, e, low) in
        later less (all_behind P (map (slot_at sizes area) (page_places sizes area first)) (map (slot_at sizes area) (pages_places sizes area (first + 1) n)) parts)

slots_apart : (P : TableSlot → Type 0) (table : ℕ) (slots : List (List ℕ)) → All P (map (λ slot. (table, slot)) slots) → All (λ slot. P (table, slot)) slots
slots_apart P table [] all = All-nil (λ slot. P (table, slot))
slots_apart P table (slot ∷ slots) all = All-cons (λ slot. P (table, slot)) slot slots (All-head P (table, slot) (map (λ slot. (table, slot)) slots) all) (slots_apart P table slots (All-tail P (table, slot) (map (λ slot. (table, slot)) slots) all))

-- each slot of a page with a known layout can be read
pub readable_page : (known : KnownLayouts) (pages : Area) (page : ℕ) (layout : Layout) → ArePages known pages → 1 ≤ page → page < page_count pages → layout_of known (table_at pages page) ≡ Some layout
    → All (IsSlot layout) (slots_of_page layout (bytes_at pages (4096 * page) 4096))
readable_page known pages page layout sound low high found =
    let table = table_at pages page in
    let sizes = sizes_of known in
    let bytes = bytes_at pages (4096 * page) 4096 in
    let one : All (IsReadableSlot known) (map (slot_at sizes pages) (page_places sizes pages page)) = all_of_page (IsReadableSlot known) sizes pages 1 (page_count pages - 1) page low (omega (arith, low, high)) sound.readable in
    let parts : All (λ slot. IsReadableSlot known (table, slot)) (slots_in (sizes.width table) (sizes.count table) (drop 8 bytes)) =
    slots_apart (IsReadableSlot known) table (slots_in (sizes.width table) (sizes.count table) (drop 8 bytes)) (subst (All (IsReadableSlot known)) (page_slots sizes pages page ((sizes_sound known).within table)) one) in
    subst (λ f. All (λ slot. IfSome f (λ layout. IsSlot layout slot)) (slots_in (width_by f) (slot_count_by f) (drop 8 bytes))) found parts
