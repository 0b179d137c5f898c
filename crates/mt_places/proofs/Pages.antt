-- The slots of a page, one after another.
use Rattle.std.proofs.Common.{◌≡◌, ℕ, zero, suc, ◌+◌, ◌-◌, ◌*◌, ◌/◌, ◌<◌, ◌≤◌, ◌&&◌, Bool, true, false, cond, nat_eq, nat_le, List, [], ◌∷◌, ◌++◌, map, filter, take, drop, Option, None, Some, refl, sym, ap, ◌∙◌, arith}
use Rattle.std.proofs.Math.Nat.{mul-div-le, mul-le-mul_left, sub-zero}
use Rattle.std.proofs.lemmas.Bool.{eq-eqb}
use Rattle.std.proofs.lemmas.Bool.Decides.{nat_tests}
use Rattle.std.specs.List.{range_with_len}
use Rattle.std.specs.declared.cmp.Ordering.{Ordering}
use Rattle.std.specs.FinMap as finite
use Rattle.mt_rowfile.specs.declared.layout.Head.{Head}
use Rattle.mt_rowfile.specs.declared.layout.Head.TheVariants.{Catalogue}
use Rattle.mt_rowfile.specs.declared.layout.Layout.{Layout}
use Rattle.mt_physplan.specs.declared.key.Cell.{Cell}
use Rattle.mt_physplan.specs.declared.key.Key.{Key}
use Rattle.mt_rowfile.specs.Layouts.{slot_width, slots_per_page}
use Rattle.mt_rowfile.specs.Pages.{is_free}
use Rattle.mt_tables.specs.Pages.{slot_position}
use Rattle.mt_tables.specs.Plan.{PlacedSlot, free_in, placed_in, sought, with_place}
use Rattle.mt_tables.specs.Rows.{KnownLayouts, layout_of, sizes_of}
use Rattle.mt_tables.specs.Rows as rows
use Rattle.mt_tables.specs.Tables.{TableSlot}
use Rattle.mt_places.specs.Walked.{slots_by, slots_from}

-- a slot of a page begins within it
pub within_page : (width count number : ℕ) → count ≡ 4088 / width → number < count → width * number ≤ 4096
within_page width count number many below =
    let all : width * count ≤ 4088 = rw many (mul-div-le 4088 width) in
    let upto : number ≤ count = omega arith in
    let some = mul-le-mul_left width upto in
    omega arith

module _ {K V : Type 0} {R : K → K → Ordering} (read : TableSlot → Option (K × V)) where
  -- what is sought is looked for in the first slot, and then in the others
  pub sought-next : (width table page number left more : ℕ) (rest front behind : List ℕ) (old new : finite.FinMap R (Option ℕ)) → left ≡ suc more
      → front ≡ take width rest → behind ≡ drop width rest → new ≡ with_place (read (table, front)) (slot_position width page number) old
      → sought read (slots_from width table page (number + 1) more behind) new ≡ sought read (slots_from width table page number left rest) old
  sought-next width table page number left more rest front behind old new is first others looked = rw (is, looked, first, others) refl

  -- where no slot of a table says anything, nothing is found
  pub sought-nothing : (width table page number count : ℕ) (bytes : List ℕ) (index : finite.FinMap R (Option ℕ)) → ((slot : List ℕ) → read (table, slot) ≡ None)
      → sought read (slots_from width table page number count bytes) index ≡ index
  sought-nothing width table page number zero bytes index none = refl
  sought-nothing width table page number (suc count) bytes index none =
      ap (λ says. sought read (slots_from width table page (number + 1) count (drop width bytes)) (with_place says (slot_position width page number) index)) (none (take width bytes))
      ∙ sought-nothing width table page (number + 1) count (drop width bytes) index none

  -- where each slot of a table says the same, the same is found
  pub sought-alike : (other : TableSlot → Option (K × V)) (width table page number count : ℕ) (bytes : List ℕ) (index : finite.FinMap R (Option ℕ)) → ((slot : List ℕ) → read (table, slot) ≡ other (table, slot))
      → sought read (slots_from width table page number count bytes) index ≡ sought other (slots_from width table page number count bytes) index
  sought-alike other width table page number zero bytes index alike = refl
  sought-alike other width table page number (suc count) bytes index alike =
      ap (λ says. sought read (slots_from width table page (number + 1) count (drop width bytes)) (with_place says (slot_position width page number) index)) (alike (take width bytes))
      ∙ sought-alike other width table page (number + 1) count (drop width bytes) (with_place (other (table, take width bytes)) (slot_position width page number) index) alike

-- the slots of a page by a layout that is known are those by the layout
pub placed-known : (known : KnownLayouts) (table page : ℕ) (bytes : List ℕ) (layout : Layout) → layout_of known table ≡ Some layout
    → placed_in (sizes_of known) table page bytes ≡ slots_by layout table page bytes
placed-known known table page bytes layout is = ap (λ (o : Option Layout). slots_from (rows.width_by o) table page 0 (rows.slot_count_by o) (drop 8 bytes)) is

-- the first slot of those that are left is free, or it is not
pub free-next : (width table page number left more : ℕ) (rest front behind : List ℕ) (free : Bool) → left ≡ suc more → front ≡ take width rest → behind ≡ drop width rest → is_free front ≡ free
    → free_in table (slots_from width table page number left rest)
    ≡ cond free (slot_position width page number ∷ free_in table (slots_from width table page (number + 1) more behind)) (free_in table (slots_from width table page (number + 1) more behind))
free-next width table page number left more rest front behind free is first others mark =
    let slot : PlacedSlot = (record { table = table; position = slot_position width page number }, (table, take width rest)) in
    let kept : List PlacedSlot = filter (λ slot. nat_eq slot.0.table table && is_free slot.1.1) (slots_from width table page (number + 1) more (drop width rest)) in
    let own : (nat_eq table table && is_free (take width rest)) ≡ free = ap (λ own. own && is_free (take width rest)) (eq-eqb table table refl) ∙ ap is_free (sym first) ∙ mark in
    rw (is, others) (ap (λ b. map (λ (s : PlacedSlot). s.0.position) (cond b (slot ∷ kept) kept)) own ∙ either free slot kept)
  where
    either : (free : Bool) (slot : PlacedSlot) (kept : List PlacedSlot) → map (λ (s : PlacedSlot). s.0.position) (cond free (slot ∷ kept) kept)
        ≡ cond free (slot.0.position ∷ map (λ (s : PlacedSlot). s.0.position) kept) (map (λ (s : PlacedSlot). s.0.position) kept)
    either true slot kept = refl
    either false slot kept = refl

-- no slot of a page is a free one of another table
pub free-other : (other width table page number count : ℕ) (bytes : List ℕ) → nat_eq table other ≡ false → free_in other (slots_from width table page number count bytes) ≡ []
free-other other width table page number zero bytes apart = refl
free-other other width table page number (suc count) bytes apart =
    let kept : List PlacedSlot = filter (λ slot. nat_eq slot.0.table other && is_free slot.1.1) (slots_from width table page (number + 1) count (drop width bytes)) in
    let slot : PlacedSlot = (record { table = table; position = slot_position width page number }, (table, take width bytes)) in
    ap (λ b. map (λ (s : PlacedSlot). s.0.position) (cond (b && is_free (take width bytes)) (slot ∷ kept) kept)) apart ∙ free-other other width table page (number + 1) count (drop width bytes) apart

-- a table with a layout that is known is one of the tables
pub table-within : (known : KnownLayouts) (table : ℕ) (layout : Layout) → layout_of known table ≡ Some layout → table ≤ 31
table-within known table layout is =
    elim (nat_le table 31) as (λ b. nat_le table 31 ≡ b → table ≤ 31) [
      | true ↦ λ within. below table 31 within
      | false ↦ λ outside.
          let no : None ≡ Some layout = sym (none_of (nat_le 1 table) (nat_le table 6) (nat_le 8 table) (nat_le table 13) (nat_le 16 table) (nat_le table 31) _ _ _ (above table 6 (far table outside)) (above table 13 (far2 table outside)) outside) ∙ is in
          cc
    ] refl
  where
    below : (a b : ℕ) → nat_le a b ≡ true → a ≤ b
    below a b e = grind (arith, nat_tests)

    far : (a : ℕ) → nat_le a 31 ≡ false → 6 < a
    far a e = grind (arith, nat_tests)

    far2 : (a : ℕ) → nat_le a 31 ≡ false → 13 < a
    far2 a e = grind (arith, nat_tests)

    above : (a b : ℕ) → b < a → nat_le a b ≡ false
    above a b e = grind (arith, nat_tests)

    none_of : (a b c d e f : Bool) (x y z : Option Layout) → b ≡ false → d ≡ false → f ≡ false → cond (a && b) x (cond (c && d) y (cond (e && f) z None)) ≡ None
    none_of a b c d e f x y z p q r = rw (p, q, r) (falls a c e x y z)
      where
        falls : (a c e : Bool) (x y z : Option Layout) → cond (a && false) x (cond (c && false) y (cond (e && false) z None)) ≡ None
        falls true true true x y z = refl
        falls true true false x y z = refl
        falls true false true x y z = refl
        falls true false false x y z = refl
        falls false true true x y z = refl
        falls false true false x y z = refl
        falls false false true x y z = refl
        falls false false false x y z = refl

-- at first all slots of a page are left
pub slots-begin : (layout : Layout) (table page : ℕ) (bytes rest : List ℕ) (width count : ℕ) → rest ≡ drop 8 bytes → width ≡ slot_width layout → count ≡ slots_per_page layout
    → slots_from width table page 0 (count - 0) rest ≡ slots_by layout table page bytes
slots-begin layout table page bytes rest width count is wide many = rw (is, sub-zero, wide, many) refl

-- one more position, and those that are left
pub positions-next : (width page number left more : ℕ) (old new : List ℕ) (position : ℕ) → left ≡ suc more → position ≡ slot_position width page number → new ≡ old ++ position ∷ []
    → new ++ map (slot_position width page) (range_with_len (number + 1) more) ≡ old ++ map (slot_position width page) (range_with_len number left)
positions-next width page number left more old new position is at one = rw (is, one, at) (regroup old (slot_position width page number) (map (slot_position width page) (range_with_len (number + 1) more)))
  where
    regroup : (xs : List ℕ) (x : ℕ) (ys : List ℕ) → (xs ++ x ∷ []) ++ ys ≡ xs ++ x ∷ ys
    regroup [] x ys = refl
    regroup (z ∷ xs) x ys = ap (λ zs. z ∷ zs) (regroup xs x ys)

-- a slot of the catalogue says no row
pub row-nowhere : (layout : Layout) (table number : ℕ) → layout.head ≡ Catalogue number → (slot : List ℕ) → rows.row_with (Some layout) (table, slot) ≡ None
row-nowhere layout table number is slot = ap (λ (head : Head). cond (is_free slot) None (rows.row_under head layout table slot)) is ∙ neither (is_free slot)
  where
    neither : (b : Bool) → cond {A = Option (Key × Cell)} b None None ≡ None
    neither true = refl
    neither false = refl
