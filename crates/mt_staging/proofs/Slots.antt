-- What the slots of tables with known layouts say, before and after a write.
use Rattle.std.proofs.Common.{◌≡◌, ℕ, ◌<◌, ◌≤◌, ◌==◌, ◌&&◌, Bool, true, false, cond, List, [], ◌∷◌, ◌++◌, length, drop, slice_index, Option, None, Some, refl, sym, ap, ◌∙◌, subst, arith}
use Rattle.std.specs.Prelude.{nat_le}
use Rattle.std.proofs.lemmas.Bool.Decides.{nat_tests}
use Rattle.mt_rowfile.specs.declared.layout.Head.{Head}
use Rattle.mt_rowfile.specs.declared.layout.Head.TheVariants.{Catalogue, Conventional, Chunk}
use Rattle.mt_rowfile.specs.declared.layout.Layout.{Layout}
use Rattle.mt_rowfile.specs.declared.slot.SlotRow.{SlotRow}
use Rattle.mt_rowfile.specs.Layouts.{IsHeadOf, IsLayout, IsOfRows, chunk_layout}
use Rattle.mt_rowfile.specs.Pages.{is_free}
use Rattle.mt_rowfile.specs.Slots.{IsMark, slot_bytes, slot_of}
use Rattle.mt_physplan.specs.declared.key.Cell.{Cell}
use Rattle.mt_physplan.specs.declared.key.Key.{Key}
use Rattle.mt_physplan.specs.Keys.{cell_of, key_in}
use Rattle.mt_tables.specs.Rows.{KnownLayouts, body_in, catalogue_layout, is_of_catalogue, layout_of, row_by, row_in, row_under}
use Rattle.mt_tables.specs.Tables.{TableSlot, overwritten}
use Rattle.mt_tables.proofs.Readings.{row_free, row_used}

-- a table with a layout of rows is none of the catalogue
pub rows_elsewhere : (known : KnownLayouts) (table : ℕ) (layout : Layout) → layout_of known table ≡ Some layout → IsOfRows layout.head → is_of_catalogue table ≡ false
rows_elsewhere known table layout found rows = by (nat_le 1 table && nat_le table 6) (is_of_catalogue table) refl refl found
  where
    by : (a b : Bool) → (nat_le 1 table && nat_le table 6) ≡ a → is_of_catalogue table ≡ b
        → cond a (Some (chunk_layout table)) (cond b (Some (catalogue_layout table)) (cond (nat_le 16 table && nat_le table 31) (known table) None)) ≡ Some layout → b ≡ false
    by a false ea eb is = refl
    by true true ea eb is = grind (arith, nat_tests, ea, eb)
    by false true ea eb is =
        let same : catalogue_layout table ≡ layout = cc in
        absurd (subst (λ (l : Layout). IsOfRows l.head) (sym same) rows)

-- and one with a layout of the catalogue is one of it
pub catalogue_there : (table : ℕ) (layout : Layout) → IsLayout layout → layout.head ≡ Catalogue table → is_of_catalogue table ≡ true
catalogue_there table layout sound head =
    let fits : IsHeadOf (Catalogue table) layout.kinds = subst (λ h. IsHeadOf h layout.kinds) head sound.head_fits in
    let low = fits.0 in let high = fits.1 in
    grind (arith, nat_tests, low, high)

-- a slot that says a row is in use
pub row_is_used : (known : KnownLayouts) (slot : TableSlot) (e : Key × Cell) → row_in known slot ≡ Some e → is_free slot.1 ≡ false
row_is_used known slot e says = by (slice_index slot.1 0 == 0) says
  where
    by : (b : Bool) → cond b None (row_by (layout_of known slot.0) slot.0 slot.1) ≡ Some e → b ≡ false
    by true is = cc
    by false is = refl

-- and so is one that says a slot of the catalogue
pub body_is_used : (slot : TableSlot) (e : (ℕ × List ℕ) × Unit {0}) → body_in slot ≡ Some e → is_free slot.1 ≡ false
body_is_used slot e says = by (slice_index slot.1 0 == 0) says
  where
    by : (b : Bool) → cond b None (cond (is_of_catalogue slot.0) (Some ((slot.0, drop 1 slot.1), tt)) None) ≡ Some e → b ≡ false
    by true is = cc
    by false is = refl

-- what a slot of a layout of rows says
pub under_rows : (head : Head) (layout : Layout) (table : ℕ) (bytes : List ℕ) → IsOfRows head → row_under head layout table bytes ≡ Some (key_in table (slot_of layout bytes), cell_of (slot_of layout bytes))
under_rows (Catalogue number) layout table bytes rows = absurd rows
under_rows Conventional layout table bytes rows = refl
under_rows Chunk layout table bytes rows = refl

pub used_row : (known : KnownLayouts) (table : ℕ) (bytes : List ℕ) (layout : Layout) → layout_of known table ≡ Some layout → IsOfRows layout.head → is_free bytes ≡ false
    → row_in known (table, bytes) ≡ Some (key_in table (slot_of layout bytes), cell_of (slot_of layout bytes))
used_row known table bytes layout found rows used = row_used known table bytes layout found used ∙ under_rows layout.head layout table bytes rows

-- a slot of it that says nothing is free
pub row_is_free : (known : KnownLayouts) (table : ℕ) (bytes : List ℕ) (layout : Layout) → layout_of known table ≡ Some layout → IsOfRows layout.head → row_in known (table, bytes) ≡ None → is_free bytes ≡ true
row_is_free known table bytes layout found rows says = by (is_free bytes) refl
  where
    by : (b : Bool) → is_free bytes ≡ b → b ≡ true
    by true e = refl
    by false e = let h = used_row known table bytes layout found rows e in cc

pub used_body : (table : ℕ) (bytes : List ℕ) → is_of_catalogue table ≡ true → is_free bytes ≡ false → body_in (table, bytes) ≡ Some ((table, drop 1 bytes), tt)
used_body table bytes there used =
    ap (λ b. cond b None (cond (is_of_catalogue table) (Some ((table, drop 1 bytes), tt)) None)) used ∙ ap (λ c. cond c (Some ((table, drop 1 bytes), tt)) None) there

pub body_is_free : (table : ℕ) (bytes : List ℕ) → is_of_catalogue table ≡ true → body_in (table, bytes) ≡ None → is_free bytes ≡ true
body_is_free table bytes there says = by (is_free bytes) refl
  where
    by : (b : Bool) → is_free bytes ≡ b → b ≡ true
    by true e = refl
    by false e = let h = used_body table bytes there e in cc

-- a mark of a slot in use is none of a free one
pub mark_used : (head : Head) (mark : ℕ) → IsMark head mark → (mark == 0) ≡ false
mark_used (Catalogue table) mark is = grind (arith, nat_tests, is)
mark_used Conventional mark is = grind (arith, nat_tests, is)
mark_used Chunk mark is = grind (arith, nat_tests, is)

-- what is written for a slot says it
pub written_row : (known : KnownLayouts) (table : ℕ) (layout : Layout) (slot : SlotRow) → layout_of known table ≡ Some layout → IsOfRows layout.head → IsMark layout.head slot.mark
    → slot_of layout (slot_bytes layout slot) ≡ slot → row_in known (table, slot_bytes layout slot) ≡ Some (key_in table slot, cell_of slot)
written_row known table layout slot found rows mark again =
    used_row known table (slot_bytes layout slot) layout found rows (mark_used layout.head slot.mark mark)
    ∙ ap (λ s. Some (key_in table s, cell_of s)) again

-- a slot of a conventional table with another mark
same_but_mark : (head : Head) (layout : Layout) (table mark first : ℕ) (rest : List ℕ) → layout.head ≡ head → head ≡ Conventional
    → (key_in table (slot_of layout (mark ∷ rest)) ≡ key_in table (slot_of layout (first ∷ rest))) × (cell_of (slot_of layout (mark ∷ rest)) ≡ record { mark = mark; values = (cell_of (slot_of layout (first ∷ rest))).values })
same_but_mark head layout table mark first rest is conventional = parts (layout.head) (is ∙ conventional)
  where
    parts : (h : Head) → h ≡ Conventional
        → (key_in table (slot_of (record { head = h; kinds = layout.kinds }) (mark ∷ rest)) ≡ key_in table (slot_of (record { head = h; kinds = layout.kinds }) (first ∷ rest)))
        × (cell_of (slot_of (record { head = h; kinds = layout.kinds }) (mark ∷ rest)) ≡ record { mark = mark; values = (cell_of (slot_of (record { head = h; kinds = layout.kinds }) (first ∷ rest))).values })
    parts (Catalogue number) e = cc
    parts Conventional e = (refl, refl)
    parts Chunk e = cc

pub marked_row : (known : KnownLayouts) (table mark : ℕ) (layout : Layout) (bytes : List ℕ) (key : Key) (cell : Cell) → layout_of known table ≡ Some layout → layout.head ≡ Conventional → IsMark Conventional mark → 1 ≤ length bytes
    → row_in known (table, bytes) ≡ Some (key, cell) → row_in known (table, overwritten (mark ∷ []) bytes) ≡ Some (key, record { mark = mark; values = cell.values })
marked_row known table mark layout [] key cell found head is some says = absurd (omega arith)
marked_row known table mark layout (first ∷ rest) key cell found head is some says =
    let rows : IsOfRows layout.head = subst IsOfRows (sym head) tt in
    let used : is_free (first ∷ rest) ≡ false = row_is_used known (table, first ∷ rest) (key, cell) says in
    let old : Some (key_in table (slot_of layout (first ∷ rest)), cell_of (slot_of layout (first ∷ rest))) ≡ Some (key, cell) = sym (used_row known table (first ∷ rest) layout found rows used) ∙ says in
    let parts = same_but_mark layout.head layout table mark first rest refl head in
    used_row known table (mark ∷ rest) layout found rows (mark_used Conventional mark is)
    ∙ (λ i. Some (parts.0 i, parts.1 i))
    ∙ marked (key_in table (slot_of layout (first ∷ rest)), cell_of (slot_of layout (first ∷ rest))) (key, cell) old
  where
    inner : Key × Cell → Option (Key × Cell) → Key × Cell
    inner d None = d
    inner d (Some e) = e

    marked : (a b : Key × Cell) → ◌≡◌ {A = Option (Key × Cell)} (Some a) (Some b) → ◌≡◌ {A = Option (Key × Cell)} (Some (a.0, record { mark = mark; values = a.1.values })) (Some (b.0, record { mark = mark; values = b.1.values }))
    marked a b e = ap (λ (o : Option (Key × Cell)). Some ((inner a o).0, record { mark = mark; values = (inner a o).1.values })) e

-- a slot whose mark is taken away is free
pub emptied_free : (bytes : List ℕ) → is_free (overwritten (0 ∷ []) bytes) ≡ true
emptied_free bytes = refl
