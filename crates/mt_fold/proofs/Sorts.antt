-- Which fields of a chunk are integers, and which texts.
use Rattle.std.proofs.Common.{◌≡◌, ◌≢◌, ℕ, zero, suc, ◌+◌, ◌<◌, ◌≤◌, List, ◌++◌, length, Option, Some, None, replicate, slice_get, count_by, true, not, nat_eq, nat_lt, Decides, get_or, refl, sym, ap, subst, ◌∙◌, arith}
use Rattle.std.proofs.lemmas.Bool.{ltb-true, lt-ltb, eq-eqb, false≢true}
use Rattle.std.proofs.lemmas.Option.{slice_get_read}
use Rattle.mt_codec.specs.declared.field.FieldKind.{FieldKind}
use Rattle.mt_codec.specs.declared.field.FieldKind.TheVariants.{Int, Text}
use Rattle.mt_fold.specs.declared.shape.Shape.{Shape}
use Rattle.mt_fold.specs.declared.shape.Shape.TheVariants.{C1, C2, C3, C4, C5, C6}
use Rattle.mt_fold.specs.Clauses.{IsNext, kind_at}
use Rattle.mt_fold.specs.Shapes.{fields_of, same_sort}

-- How many integers a chunk has.
abbrev pub numbers_of : Shape → ℕ
numbers_of shape = count_by (same_sort Int) (fields_of shape)

-- What stands at a field of a chunk that has so many integers and, with the texts behind them, so many
-- fields.
pub data Stands (numbers width field : ℕ) (found : Option FieldKind) : Type 0 where
  number : field < numbers → field < width → found ≡ Some Int → Stands numbers width field found
  text : numbers ≤ field → field < width → found ≡ Some (Text 120) → Stands numbers width field found
  nothing : numbers ≤ field → width ≤ field → found ≡ None → Stands numbers width field found

-- one more integer in front
behind_number : (numbers width field : ℕ) (found : Option FieldKind) → Stands numbers width field found → Stands (suc numbers) (suc width) (suc field) found
behind_number numbers width field found (number below within is) = number (omega arith) (omega arith) is
behind_number numbers width field found (text behind within is) = text (omega arith) (omega arith) is
behind_number numbers width field found (nothing behind past is) = nothing (omega arith) (omega arith) is

-- one more text in front, where there is no integer
behind_text : (width field : ℕ) (found : Option FieldKind) → Stands 0 width field found → Stands 0 (suc width) (suc field) found
behind_text width field found (number below within is) = absurd (omega arith)
behind_text width field found (text behind within is) = text (omega arith) (omega arith) is
behind_text width field found (nothing behind past is) = nothing (omega arith) (omega arith) is

texts_stand : (texts field : ℕ) → Stands 0 texts field (slice_get (replicate texts (Text 120)) field)
texts_stand zero field = nothing (omega arith) (omega arith) refl
texts_stand (suc texts) zero = text (omega arith) (omega arith) refl
texts_stand (suc texts) (suc field) = behind_text texts field _ (texts_stand texts field)

-- the same number of fields, in other words
wide : {numbers field : ℕ} {found : Option FieldKind} (width other : ℕ) → width ≡ other → Stands numbers width field found → Stands numbers other field found
wide {numbers} {field} {found} width other same stands = subst (λ w. Stands numbers w field found) same stands

fields_stand : (numbers texts field : ℕ) → Stands numbers (numbers + texts) field (slice_get (replicate numbers Int ++ replicate texts (Text 120)) field)
fields_stand zero texts field = wide texts (0 + texts) (omega arith) (texts_stand texts field)
fields_stand (suc numbers) texts zero = number (omega arith) (omega arith) refl
fields_stand (suc numbers) texts (suc field) = wide (suc (numbers + texts)) (suc numbers + texts) (omega arith) (behind_number numbers (numbers + texts) field _ (fields_stand numbers texts field))

-- what stands at each field of a chunk
pub stands_at : (shape : Shape) (field : ℕ) → Stands (numbers_of shape) (length (fields_of shape)) field (slice_get (fields_of shape) field)
stands_at C1 field = fields_stand 1 0 field
stands_at C2 field = fields_stand 0 1 field
stands_at C3 field = fields_stand 1 1 field
stands_at C4 field = fields_stand 4 0 field
stands_at C5 field = fields_stand 2 2 field
stands_at C6 field = fields_stand 4 4 field

-- the integers
pub is_number : (numbers width field : ℕ) (found : Option FieldKind) → Stands numbers width field found → field < numbers → found ≡ Some Int
is_number numbers width field found (number below within is) in_numbers = is
is_number numbers width field found (text behind within is) in_numbers = absurd (omega arith)
is_number numbers width field found (nothing behind past is) in_numbers = absurd (omega arith)

pub number_below : (numbers width field : ℕ) (found : Option FieldKind) → Stands numbers width field found → found ≡ Some Int → field < numbers
number_below numbers width field found (number below within is) found_is = below
number_below numbers width field found (text behind within is) found_is = cc
number_below numbers width field found (nothing behind past is) found_is = cc

-- the texts
pub is_text : (numbers width field : ℕ) (found : Option FieldKind) → Stands numbers width field found → numbers ≤ field → field < width → found ≡ Some (Text 120)
is_text numbers width field found (number below within is) behind_numbers in_width = absurd (omega arith)
is_text numbers width field found (text behind within is) behind_numbers in_width = is
is_text numbers width field found (nothing behind past is) behind_numbers in_width = absurd (omega arith)

pub text_behind : (numbers width field : ℕ) (found : Option FieldKind) → Stands numbers width field found → found ≡ Some (Text 120) → (numbers ≤ field) × (field < width)
text_behind numbers width field found (number below within is) found_is = cc
text_behind numbers width field found (text behind within is) found_is = (behind, within)
text_behind numbers width field found (nothing behind past is) found_is = cc

pub is_next : (numbers width before : ℕ) (found next : Option FieldKind) → Stands numbers width before found → Stands numbers width (before + 1) next → before + 1 ≢ numbers → before + 1 < width
    → (kind : FieldKind) × (found ≡ Some kind) × (next ≡ Some kind)
is_next numbers width before found next (number below within is) (number next_below next_within next_is) other inside = (Int, is, next_is)
is_next numbers width before found next (number below within is) (text next_behind next_within next_is) other inside = absurd (omega arith)
is_next numbers width before found next (number below within is) (nothing next_behind next_past next_is) other inside = absurd (omega arith)
is_next numbers width before found next (text behind within is) (number next_below next_within next_is) other inside = absurd (omega arith)
is_next numbers width before found next (text behind within is) (text next_behind next_within next_is) other inside = (Text 120, is, next_is)
is_next numbers width before found next (text behind within is) (nothing next_behind next_past next_is) other inside = absurd (omega arith)
is_next numbers width before found next (nothing behind past is) stands other inside = absurd (omega arith)

pub next_inside : (numbers width before : ℕ) (found next : Option FieldKind) (kind : FieldKind) → Stands numbers width before found → Stands numbers width (before + 1) next → found ≡ Some kind
    → next ≡ Some kind → (before + 1 ≢ numbers) × (before + 1 < width)
next_inside numbers width before found next kind (number below within is) (number next_below next_within next_is) found_is is_next = (omega arith, next_within)
next_inside numbers width before found next kind (number below within is) (text next_behind next_within next_is) found_is is_next = cc
next_inside numbers width before found next kind (number below within is) (nothing next_behind next_past next_is) found_is is_next = cc
next_inside numbers width before found next kind (text behind within is) (number next_below next_within next_is) found_is is_next = cc
next_inside numbers width before found next kind (text behind within is) (text next_behind next_within next_is) found_is is_next = (omega arith, next_within)
next_inside numbers width before found next kind (text behind within is) (nothing next_behind next_past next_is) found_is is_next = cc
next_inside numbers width before found next kind (nothing behind past is) stands found_is is_next = cc

-- a field between two of one kind is of that kind
pub between : (numbers width first field last : ℕ) (found_first found found_last : Option FieldKind) (kind : FieldKind) → Stands numbers width first found_first → Stands numbers width field found
    → Stands numbers width last found_last → first ≤ field → field ≤ last → found_first ≡ Some kind → found_last ≡ Some kind → found ≡ Some kind
between numbers width first field last ff f fl kind (number b1 w1 e1) (number b2 w2 e2) s3 le1 le2 is1 is3 = cc
between numbers width first field last ff f fl kind (number b1 w1 e1) (text b2 w2 e2) (number b3 w3 e3) le1 le2 is1 is3 = absurd (omega arith)
between numbers width first field last ff f fl kind (number b1 w1 e1) (text b2 w2 e2) (text b3 w3 e3) le1 le2 is1 is3 = cc
between numbers width first field last ff f fl kind (number b1 w1 e1) (text b2 w2 e2) (nothing b3 w3 e3) le1 le2 is1 is3 = cc
between numbers width first field last ff f fl kind (text b1 w1 e1) (text b2 w2 e2) s3 le1 le2 is1 is3 = cc
between numbers width first field last ff f fl kind (text b1 w1 e1) (number b2 w2 e2) s3 le1 le2 is1 is3 = absurd (omega arith)
between numbers width first field last ff f fl kind s1 (nothing b2 w2 e2) (number b3 w3 e3) le1 le2 is1 is3 = absurd (omega arith)
between numbers width first field last ff f fl kind s1 (nothing b2 w2 e2) (text b3 w3 e3) le1 le2 is1 is3 = absurd (omega arith)
between numbers width first field last ff f fl kind s1 (nothing b2 w2 e2) (nothing b3 w3 e3) le1 le2 is1 is3 = cc
between numbers width first field last ff f fl kind (nothing b1 w1 e1) s2 s3 le1 le2 is1 is3 = cc

-- the chunk that a look-up found
pub chunk_found : (shapes : List Shape) (sought chunk : ℕ) (shape : Shape) → sought ≡ chunk → true ≡ nat_lt sought (length shapes) → shape ≡ get_or shapes sought shape
    → slice_get shapes chunk ≡ Some shape
chunk_found shapes sought chunk shape same below read =
    subst (λ k. slice_get shapes k ≡ Some shape) same (slice_get_read shapes (length shapes) sought shape refl (ltb-true sought (length shapes) (sym below)) read)

kind_at_shape : (shapes : List Shape) (chunk field : ℕ) (shape : Shape) → slice_get shapes chunk ≡ Some shape → kind_at shapes chunk field ≡ slice_get (fields_of shape) field
kind_at_shape shapes chunk field shape is = rw is

-- the tests of a field before one of its sort
pub next_decided : (shapes : List Shape) (chunk before width : ℕ) (shape : Shape) → slice_get shapes chunk ≡ Some shape → width ≡ length (fields_of shape) → before + 1 ≢ numbers_of shape
    → Decides (nat_lt (before + 1) width) (IsNext shapes chunk before)
next_decided shapes chunk before width shape chunk_is width_is other =
    let first = stands_at shape before in
    let second = stands_at shape (before + 1) in
    let read_first = kind_at_shape shapes chunk before shape chunk_is in
    let read_second = kind_at_shape shapes chunk (before + 1) shape chunk_is in (
      λ less.
          let inside : before + 1 < length (fields_of shape) = omega (arith, ltb-true (before + 1) width less) in
          let next = is_next _ _ before _ _ first second other inside in
          (next.0, read_first ∙ next.1, read_second ∙ next.2),
      λ next.
          let inside = next_inside _ _ before _ _ next.0 first second (sym read_first ∙ next.1) (sym read_second ∙ next.2) in
          lt-ltb (before + 1) width (omega (arith, inside.1)),
    )

pub not_next : (shapes : List Shape) (chunk before numbers : ℕ) (shape : Shape) → slice_get shapes chunk ≡ Some shape → numbers ≡ numbers_of shape → before + 1 ≡ numbers
    → Decides (not (nat_eq (before + 1) numbers)) (IsNext shapes chunk before)
not_next shapes chunk before numbers shape chunk_is numbers_is same =
    let first = stands_at shape before in
    let second = stands_at shape (before + 1) in
    let read_first = kind_at_shape shapes chunk before shape chunk_is in
    let read_second = kind_at_shape shapes chunk (before + 1) shape chunk_is in
    let equal : nat_eq (before + 1) numbers ≡ true = eq-eqb (before + 1) numbers same in (
      λ other. absurd (false≢true (sym (ap not equal) ∙ other)),
      λ next. absurd ((next_inside _ _ before _ _ next.0 first second (sym read_first ∙ next.1) (sym read_second ∙ next.2)).0 (same ∙ numbers_is)),
    )
