-- What each kind of change does to the rows and to the catalogue, and how wide what it writes is.
use Rattle.std.proofs.Common.{◌≡◌, ℕ, suc, ◌+◌, ◌*◌, ◌/◌, ◌<◌, ◌≤◌, ◌&&◌, ◌==◌, ◌⊎◌, Bool, true, false, not, cond, nat_eq, List, [], ◌∷◌, ◌++◌, length, drop, slice_index, IfSome, Option, None, Some, is_some, refl, sym, ap, ◌∙◌, inl, inr, arith, subst}
use Rattle.std.proofs.Math.Nat.{mul-div-le, mul-le-mul_left}
use Rattle.std.specs.declared.cmp.Ordering.{Ordering}
use Rattle.std.specs.FinMap as finite
use Rattle.mt_codec.proofs.Again.{field_again}
use Rattle.mt_rowfile.specs.declared.layout.Head.{Head}
use Rattle.mt_rowfile.specs.declared.layout.Head.TheVariants.{Catalogue, Conventional, Chunk}
use Rattle.mt_rowfile.specs.declared.layout.Layout.{Layout}
use Rattle.mt_rowfile.specs.declared.slot.SlotRow.{SlotRow}
use Rattle.mt_rowfile.specs.Fields.{AreKinds, AreSpelled}
use Rattle.mt_rowfile.specs.Layouts.{IsHeadOf, IsLayout, IsOfRows, body_width, head_width, slot_width, slots_per_page}
use Rattle.mt_rowfile.specs.Slots.{FitsLayout, HasNumbers, IsBody, IsMark, IsReadable, IsSlot, IsUsed, slot_bytes, slot_of}
use Rattle.mt_rowfile.proofs.Reading.{slot_again, slot_is_slot}
use Rattle.mt_physplan.specs.declared.change.Change.{Change}
use Rattle.mt_tables.specs.Rows.{IsReadableSlot, KnownLayouts, layout_of, sizes_of, width_by}
use Rattle.mt_tables.specs.Tables.{overwritten}
use Rattle.mt_staging.proofs.Lists.{once}

-- a test for what is there
none_once : (b c : Bool) → c ≡ true → once (b && not c) ≡ 0
none_once true c e = ap (λ d. once (not d)) e
none_once false c e = refl

one_once : (b c : Bool) → c ≡ false → once (b && not c) ≡ once b
one_once true c e = ap (λ d. once (not d)) e
one_once false c e = refl

never_once : (b : Bool) → once (b && false) ≡ 0
never_once true = refl
never_once false = refl

-- no key is new where one is there, and one is where none is
pub none_new : {K V : Type 0} {R : K → K → Ordering} (m : finite.FinMap R V) (k : K) (v : V) (b : Bool) → finite.get m k ≡ Some v → once (b && not (finite.contains_key m k)) ≡ 0
none_new m k v b found = none_once b (finite.contains_key m k) (ap is_some found)

pub one_new : {K V : Type 0} {R : K → K → Ordering} (m : finite.FinMap R V) (k : K) (b : Bool) → finite.get m k ≡ None → once (b && not (finite.contains_key m k)) ≡ once b
one_new m k b none = one_once b (finite.contains_key m k) (ap is_some none)

pub never_new : (b : Bool) → once (b && false) ≡ 0
never_new b = never_once b

-- the width of the slots of a table, by its layout
pub width_is : (known : KnownLayouts) (table : ℕ) (layout : Layout) → layout_of known table ≡ Some layout → (sizes_of known).width table ≡ slot_width layout
width_is known table layout found = ap width_by found

-- slots that a page has room for are not long
pub width_small : (layout : Layout) → 1 ≤ slots_per_page layout → slot_width layout ≤ 4088
width_small layout some =
    let h = mul-div-le 4088 (slot_width layout) in
    let one : slot_width layout * 1 ≤ slot_width layout * slots_per_page layout = mul-le-mul_left (slot_width layout) some in
    omega arith

-- what is written for a slot of a row
module _ (layout : Layout) (slot : SlotRow) (rows : IsOfRows layout.head) (kinds : AreKinds layout.kinds) (fits : FitsLayout layout slot) (numbers : HasNumbers slot) where
  pub read_again : slot_of layout (slot_bytes layout slot) ≡ slot
  read_again = slot_again field_again layout.head layout.kinds slot rows kinds fits numbers

  pub is_slot : IsSlot layout (slot_bytes layout slot)
  is_slot = slot_is_slot field_again layout.head layout.kinds slot rows kinds fits

-- a slot can be read by the layout that is known
pub readable_by : (known : KnownLayouts) (table : ℕ) (layout : Layout) (bytes : List ℕ) → layout_of known table ≡ Some layout → IsSlot layout bytes → IsReadableSlot known (table, bytes)
readable_by known table layout bytes found is = subst (λ f. IfSome f (λ layout. IsSlot layout bytes)) (sym found) is

pub slot_by : (known : KnownLayouts) (table : ℕ) (layout : Layout) (bytes : List ℕ) → layout_of known table ≡ Some layout → IsReadableSlot known (table, bytes) → IsSlot layout bytes
slot_by known table layout bytes found is = subst (λ f. IfSome f (λ layout. IsSlot layout bytes)) found is

same_length : (x : ℕ) (bytes : List ℕ) → 1 ≤ length bytes → length (overwritten (x ∷ []) bytes) ≡ length bytes
same_length x [] some = absurd (omega arith)
same_length x (b ∷ bytes) some = refl

head_some : (layout : Layout) → 1 ≤ slot_width layout
head_some layout = by layout.head
  where
    by : (head : Head) → 1 ≤ slot_width (record { head = head; kinds = layout.kinds })
    by (Catalogue table) = omega arith
    by Conventional = omega arith
    by Chunk = omega arith

pub width_some : (layout : Layout) → 1 ≤ slot_width layout
width_some layout = head_some layout

-- a slot whose mark is taken away can be read
pub emptied_readable : (layout : Layout) (bytes : List ℕ) → IsSlot layout bytes → IsSlot layout (overwritten (0 ∷ []) bytes)
emptied_readable layout bytes is = record {
  size = (let w = head_some layout in let s = is.size in same_length 0 bytes (omega arith) ∙ is.size);
  free_or_used = inl refl;
}

-- and one with another mark
pub marked_readable : (layout : Layout) (mark : ℕ) (bytes : List ℕ) → layout.head ≡ Conventional → IsMark Conventional mark → (slice_index bytes 0 ≡ 0 → ⊥) → IsSlot layout bytes → IsSlot layout (overwritten (mark ∷ []) bytes)
marked_readable layout mark [] head is used slot = absurd (let w = head_some layout in let s = slot.size in omega arith)
marked_readable layout mark (first ∷ rest) head is used slot = record {
  size = slot.size;
  free_or_used = by slot.free_or_used;
}
  where
    still : (h : Head) → h ≡ Conventional → IsReadable layout h (first ∷ rest) → IsReadable layout h (mark ∷ rest)
    still (Catalogue table) e r = cc
    still Conventional e r = r
    still Chunk e r = cc

    by : ◌⊎◌ (first ≡ 0) (IsUsed layout (first ∷ rest)) → ◌⊎◌ (mark ≡ 0) (IsUsed layout (mark ∷ rest))
    by (inl e) = absurd (used e)
    by (inr u) = inr (record { mark = subst (λ h. IsMark h mark) (sym head) is; readable = still layout.head head u.readable })

-- the width of a slot of the catalogue
pub catalogue_width : (layout : Layout) (table : ℕ) → IsLayout layout → layout.head ≡ Catalogue table → slot_width layout ≡ 1 + body_width table
catalogue_width layout table sound head = by layout.head head sound.head_fits
  where
    by : (h : Head) → h ≡ Catalogue table → IsHeadOf h layout.kinds → slot_width (record { head = h; kinds = layout.kinds }) ≡ 1 + body_width table
    by h e fits =
        let all : IsHeadOf (Catalogue table) layout.kinds = subst (λ x. IsHeadOf x layout.kinds) e fits in
        ap (λ x. slot_width (record { head = x; kinds = layout.kinds })) e
        ∙ ap (λ ks. slot_width (record { head = Catalogue table; kinds = ks })) all.2 ∙ omega arith

pub body_small : (table : ℕ) → body_width table ≤ 44
body_small table = by (table == 8) (table == 9) (table == 10) (table == 11)
  where
    by : (a b c d : Bool) → cond a 40 (cond b 44 (cond c 8 (cond d 34 16))) ≤ 44
    by true b c d = omega arith
    by false true c d = omega arith
    by false false true d = omega arith
    by false false false true = omega arith
    by false false false false = omega arith

-- a slot of the catalogue in use
pub body_readable : (layout : Layout) (table : ℕ) (body : List ℕ) → IsLayout layout → layout.head ≡ Catalogue table → length body ≡ body_width table → IsBody table body → IsSlot layout (1 ∷ body)
body_readable layout table body sound head size readable = record {
  size = (let w = catalogue_width layout table sound head in omega (arith, w, size));
  free_or_used = inr (record { mark = subst (λ h. IsMark h 1) (sym head) refl; readable = subst (λ h. IsReadable layout h (1 ∷ body)) (sym head) readable });
}
