-- Which fields are taken, and the clauses of a valid fold in the words of its tests.
use Rattle.std.proofs.Common.{◌≡◌, ℕ, zero, suc, ◌+◌, ◌-◌, ◌<◌, ◌≤◌, List, [], ◌∷◌, length, take, get_or, Option, Some, None, slice_get, option_and_then, refl, sym, ap, ◌∙◌, subst, subst₂, below_more, inl, inr, arith}
use Rattle.std.proofs.lemmas.Option.{get_or_from_slice_get, slice_get-get_or}
use Rattle.std.proofs.lemmas.Bool.{cases_order}
use Rattle.mt_codec.specs.declared.field.FieldKind.{FieldKind}
use Rattle.mt_tree.specs.declared.schema.Column.{Column}
use Rattle.mt_fold.specs.declared.fold.Fold.{Fold}
use Rattle.mt_fold.specs.declared.fold.Place.{Place}
use Rattle.mt_fold.specs.declared.fold.Place.TheVariants.{Conv, Field}
use Rattle.mt_fold.specs.declared.shape.Shape.{Shape}
use Rattle.mt_fold.specs.Clauses.{AreApart, AreChunks, AreFields, AreFirst, ArePlaced, IsTaken, kind_at}
use Rattle.mt_fold.specs.Folds.{IsField, IsUsed, IsValidFold}
use Rattle.mt_fold.specs.Shapes.{chunk_kind, fields_of}
use Rattle.mt_fold.proofs.Sorts.{between, stands_at}

-- no field holds two of the first so many columns
abbrev pub ApartBelow : List Place → ℕ → Type 0
ApartBelow places n = (a b chunk field : ℕ) → a < n → b < n → slice_get places a ≡ Some (Field chunk field) → slice_get places b ≡ Some (Field chunk field) → a ≡ b

-- a member of a front, and one of the whole list
pub in_whole : {X : Type 0} (xs : List X) (n i : ℕ) (x : X) → slice_get (take n xs) i ≡ Some x → (i < n) × (slice_get xs i ≡ Some x)
in_whole [] zero i x is = cc
in_whole [] (suc n) i x is = cc
in_whole (y ∷ xs) zero i x is = cc
in_whole (y ∷ xs) (suc n) zero x is = (omega arith, is)
in_whole (y ∷ xs) (suc n) (suc i) x is = let rest = in_whole xs n i x is in (omega arith, rest.1)

pub in_front : {X : Type 0} (xs : List X) (n i : ℕ) (x : X) → i < n → slice_get xs i ≡ Some x → slice_get (take n xs) i ≡ Some x
in_front xs zero i x below is = absurd (omega arith)
in_front [] (suc n) i x below is = cc
in_front (y ∷ xs) (suc n) zero x below is = is
in_front (y ∷ xs) (suc n) (suc i) x below is = in_front xs n i x (omega arith) is

-- one more column, which lies in a field that none before it takes
pub apart_more : (places : List Place) (n : ℕ) → ((chunk field : ℕ) → slice_get places n ≡ Some (Field chunk field) → IsTaken (take n places) chunk field → ⊥) → ApartBelow places n
    → ApartBelow places (n + 1)
apart_more places n free apart a b chunk field below_a below_b at_a at_b = elim (cases_order a b) as (λ _. a ≡ b) [
  | inl same ↦ same
  | inr (inl less) ↦ later a b less below_b at_a at_b
  | inr (inr less) ↦ sym (later b a less below_a at_b at_a)
] where
  later : (a b : ℕ) → a < b → b < n + 1 → slice_get places a ≡ Some (Field chunk field) → slice_get places b ≡ Some (Field chunk field) → a ≡ b
  later a b less below_b at_a at_b = elim (cases_order b n) as (λ _. a ≡ b) [
    | inl same ↦ absurd (free chunk field (subst (λ k. slice_get places k ≡ Some (Field chunk field)) same at_b) (a, in_front places n a _ (omega arith) at_a))
    | inr (inl below) ↦ apart a b chunk field (omega arith) below at_a at_b
    | inr (inr above) ↦ absurd (omega arith)
  ]

-- a column in a field that one before it takes
pub not_apart : (places : List Place) (n chunk field : ℕ) → slice_get places n ≡ Some (Field chunk field) → IsTaken (take n places) chunk field → AreApart places → ⊥
not_apart places n chunk field is taken apart =
    let front = in_whole places n taken.0 (Field chunk field) taken.1 in
    let same : taken.0 ≡ n = apart taken.0 n chunk field front.1 is in
    omega (arith, front.0)

-- the place at an index, as a look-up gives it
pub place_found : (places : List Place) (n chunk field : ℕ) → n < length places → get_or places n Conv ≡ Field chunk field → slice_get places n ≡ Some (Field chunk field)
place_found places n chunk field below is = slice_get-get_or places n Conv below ∙ ap Some is

pub at_same_field : (places : List Place) (n chunk field other there : ℕ) (P : ℕ → ℕ → Type 0) → slice_get places n ≡ Some (Field chunk field) → get_or places n Conv ≡ Field other there → P chunk field
    → P other there
at_same_field places n chunk field other there P found is holds =
    let read : get_or places n Conv ≡ Field chunk field = get_or_from_slice_get places n (Field chunk field) Conv found in
    let same_chunk : chunk ≡ other = cc in
    let same_field : field ≡ there = cc in
    subst₂ P same_chunk same_field holds

pub not_conv : (places : List Place) (n chunk field : ℕ) → slice_get places n ≡ Some (Field chunk field) → get_or places n Conv ≡ Conv → ⊥
not_conv places n chunk field found is =
    let read : get_or places n Conv ≡ Field chunk field = get_or_from_slice_get places n (Field chunk field) Conv found in
    cc

-- the first so many columns lie in fields of their kinds, if in chunks
abbrev pub FitBelow : List Shape → List Place → List Column → ℕ → Type 0
FitBelow shapes places columns n =
    (position : ℕ) → position < n → (column : Column) (chunk field : ℕ) → slice_get columns position ≡ Some column → slice_get places position ≡ Some (Field chunk field)
    → kind_at shapes chunk field ≡ Some (chunk_kind column.kind)

pub fit_more : (shapes : List Shape) (places : List Place) (columns : List Column) (n more : ℕ) (place : Place) (column : Column) → more ≡ n + 1 → slice_get places n ≡ Some place
    → slice_get columns n ≡ Some column → ((chunk field : ℕ) → place ≡ Field chunk field → kind_at shapes chunk field ≡ Some (chunk_kind column.kind)) → FitBelow shapes places columns n
    → FitBelow shapes places columns more
fit_more shapes places columns n more place column more_is place_is column_is fits below =
    subst (λ k. FitBelow shapes places columns k) (sym more_is) (below_more _ n below (λ other chunk field other_is field_is.
    let same_column : column ≡ other = cc in
    let same_place : place ≡ Field chunk field = cc in
    subst (λ c. kind_at shapes chunk field ≡ Some (chunk_kind c.kind)) same_column (fits chunk field same_place)))

-- a field of a chunk, by what it holds
pub kind_from_field : (fold : Fold) (chunk field : ℕ) (kind : FieldKind) → IsField fold chunk field kind → kind_at fold.shapes chunk field ≡ Some kind
kind_from_field fold chunk field kind is = rw is.chunk_is is.field_is

field_of_shape : (fold : Fold) (chunk field : ℕ) (kind : FieldKind) (found : Option Shape) → slice_get fold.shapes chunk ≡ found
    → option_and_then (λ shape. slice_get (fields_of shape) field) found ≡ Some kind → IsField fold chunk field kind
field_of_shape fold chunk field kind None chunk_is is = cc
field_of_shape fold chunk field kind (Some shape) chunk_is is = record { shape = shape; chunk_is = chunk_is; field_is = is }

pub field_from_kind : (fold : Fold) (chunk field : ℕ) (kind : FieldKind) → kind_at fold.shapes chunk field ≡ Some kind → IsField fold chunk field kind
field_from_kind fold chunk field kind is = field_of_shape fold chunk field kind (slice_get fold.shapes chunk) refl is

kind_between_in : (found : Option Shape) (first field last : ℕ) (kind : FieldKind) → first ≤ field → field ≤ last → option_and_then (λ shape. slice_get (fields_of shape) first) found ≡ Some kind
    → option_and_then (λ shape. slice_get (fields_of shape) last) found ≡ Some kind → option_and_then (λ shape. slice_get (fields_of shape) field) found ≡ Some kind
kind_between_in None first field last kind le1 le2 is1 is3 = is1
kind_between_in (Some shape) first field last kind le1 le2 is1 is3 = between _ _ first field last _ _ _ kind (stands_at shape first) (stands_at shape field) (stands_at shape last) le1 le2 is1 is3

-- where each field before a used one of its sort is used, each earlier one is
first_of_gap : (shapes : List Shape) (places : List Place) (chunk : ℕ) (kind : FieldKind) → AreFirst shapes places → (gap field earlier : ℕ) → field ≡ earlier + gap → IsTaken places chunk field
    → kind_at shapes chunk field ≡ Some kind → kind_at shapes chunk earlier ≡ Some kind → IsTaken places chunk earlier
first_of_gap shapes places chunk kind are_first zero field earlier distance taken is earlier_is =
    let same : field ≡ earlier = omega arith in
    subst (λ f. IsTaken places chunk f) same taken
first_of_gap shapes places chunk kind are_first (suc gap) field earlier distance taken is earlier_is =
    let before : ℕ = earlier + gap in
    let next : field ≡ before + 1 = omega arith in
    let next_is : kind_at shapes chunk (before + 1) ≡ Some kind = subst (λ f. kind_at shapes chunk f ≡ Some kind) next is in
    let before_is : kind_at shapes chunk before ≡ Some kind = kind_between_in (slice_get shapes chunk) earlier before (before + 1) kind (omega arith) (omega arith) earlier_is next_is in
    let before_taken = are_first taken.0 chunk field taken.1 before next (kind, before_is, next_is) in
    first_of_gap shapes places chunk kind are_first gap before earlier refl before_taken before_is earlier_is

pub first_fields_from : (fold : Fold) → AreFirst fold.shapes fold.places → (chunk field earlier : ℕ) (kind : FieldKind) → IsUsed fold chunk field → IsField fold chunk field kind → earlier < field
    → IsField fold chunk earlier kind → IsUsed fold chunk earlier
first_fields_from fold are_first chunk field earlier kind used is less earlier_is =
    first_of_gap fold.shapes fold.places chunk kind are_first (field - earlier) field earlier (omega arith) used (kind_from_field fold chunk field kind is) (kind_from_field fold chunk earlier kind earlier_is)

-- a fold that passes the tests, and one that is valid
pub valid_from : (fold : Fold) (columns : List Column) (base_len : ℕ) → ArePlaced fold.places (length columns) base_len → AreChunks fold.shapes fold.places
    → AreFields fold.shapes fold.places columns → IsValidFold fold columns base_len
valid_from fold columns base_len placed chunks fields = record {
  each_column = placed.0;
  base_columns = placed.1;
  few_chunks = chunks.0;
  each_chunk = chunks.1;
  fields = λ position column chunk field column_is place_is. field_from_kind fold chunk field (chunk_kind column.kind) (fields.0 position column chunk field column_is place_is);
  apart = fields.1;
  first_fields = first_fields_from fold fields.2;
}

pub placed_from : (fold : Fold) (columns : List Column) (base_len : ℕ) → IsValidFold fold columns base_len → ArePlaced fold.places (length columns) base_len
placed_from fold columns base_len valid = (valid.each_column, valid.base_columns)

pub chunks_from : (fold : Fold) (columns : List Column) (base_len : ℕ) → IsValidFold fold columns base_len → AreChunks fold.shapes fold.places
chunks_from fold columns base_len valid = (valid.few_chunks, valid.each_chunk)

pub fields_from : (fold : Fold) (columns : List Column) (base_len : ℕ) → IsValidFold fold columns base_len → AreFields fold.shapes fold.places columns
fields_from fold columns base_len valid = (
  λ position column chunk field column_is place_is. kind_from_field fold chunk field (chunk_kind column.kind) (valid.fields position column chunk field column_is place_is),
  valid.apart,
  λ column chunk field place_is before is next.
      let used : IsUsed fold chunk (before + 1) = (column, subst (λ f. slice_get fold.places column ≡ Some (Field chunk f)) is place_is) in
      valid.first_fields chunk (before + 1) before next.0 used (field_from_kind fold chunk (before + 1) next.0 next.2) (omega arith) (field_from_kind fold chunk before next.0 next.1),
)

-- the tests, over the lists that the fold has
abbrev pub Parts : List Shape → List Place → List Column → ℕ → Type 0
Parts shapes places columns base_len = ArePlaced places (length columns) base_len × AreChunks shapes places × AreFields shapes places columns

parts_at : (shapes other : List Shape) (places there : List Place) (columns listed : List Column) (base_len : ℕ) → shapes ≡ other → places ≡ there → columns ≡ listed
    → Parts shapes places columns base_len → Parts other there listed base_len
parts_at shapes other places there columns listed base_len same_shapes same_places same_columns parts =
    subst (λ c. Parts other there c base_len) same_columns (subst (λ p. Parts other p columns base_len) same_places (subst (λ s. Parts s places columns base_len) same_shapes parts))

pub valid_by : (fold : Fold) (columns : List Column) (base_len : ℕ) (shapes : List Shape) (places : List Place) (listed : List Column) → shapes ≡ fold.shapes → places ≡ fold.places → listed ≡ columns
    → Parts shapes places listed base_len → IsValidFold fold columns base_len
valid_by fold columns base_len shapes places listed same_shapes same_places same_columns parts =
    let its = parts_at shapes fold.shapes places fold.places listed columns base_len same_shapes same_places same_columns parts in
    valid_from fold columns base_len its.0 its.1 its.2

pub parts_by : (fold : Fold) (columns : List Column) (base_len : ℕ) (shapes : List Shape) (places : List Place) (listed : List Column) → shapes ≡ fold.shapes → places ≡ fold.places → listed ≡ columns
    → IsValidFold fold columns base_len → Parts shapes places listed base_len
parts_by fold columns base_len shapes places listed same_shapes same_places same_columns valid =
    parts_at fold.shapes shapes fold.places places columns listed base_len (sym same_shapes) (sym same_places) (sym same_columns)
    (placed_from fold columns base_len valid, chunks_from fold columns base_len valid, fields_from fold columns base_len valid)
