-- Each chunk of a cover gets a column: where one got none, the others would hold as many for less.
use Rattle.std.proofs.Common.{◌≡◌, ℕ, zero, suc, ◌+◌, ◌<◌, ◌≤◌, Bool, true, false, cond, inl, inr, List, [], ◌∷◌, ◌++◌, length, get_or, take, count_by, sum_by, Some, refl, sym, ap, ap₂, ◌∙◌, subst, append_assoc, arith}
use Rattle.std.proofs.Math.Path.{fun_ext}
use Rattle.std.proofs.lemmas.Bool.{cases_lt, cond-true, cond-false, false≢true}
use Rattle.std.proofs.lemmas.List.{get_or-append-add, get_or_append_left, length-append}
use Rattle.std.proofs.lemmas.List.FromFn.{get_or-map-range_with_len, length-map-range_with_len}
use Rattle.std.proofs.lemmas.List.Sums.{sum_by-append, sum_by-cons}
use Rattle.std.proofs.lemmas.Option.{slice_get-get_or}
use Rattle.std.specs.Prelude.{slice_get}
use Rattle.mt_codec.specs.declared.field.FieldKind.{FieldKind}
use Rattle.mt_codec.specs.declared.field.FieldKind.TheVariants.{Int, Text}
use Rattle.mt_fold.specs.declared.fold.Place.TheVariants.{Conv, Field}
use Rattle.mt_fold.specs.declared.shape.Shape.{Shape}
use Rattle.mt_fold.specs.declared.shape.Shape.TheVariants.{C1, C2, C3, C4, C5, C6}
use Rattle.mt_fold.specs.Covers.{Holds, IsCover}
use Rattle.mt_fold.specs.Extended.{FillShapes, place_taken, places_from, places_in, places_taken}
use Rattle.mt_fold.specs.Shapes.{fields_of, price, price_of, same_sort}
use Rattle.mt_fold.proofs.Thinned.{fields_for, price_positive}

-- texts are of one sort, whatever their sizes
same_texts : (size other : ℕ) → same_sort (Text size) ≡ same_sort (Text other)
same_texts size other = fun_ext each
  where
    each : (kind : FieldKind) → same_sort (Text size) kind ≡ same_sort (Text other) kind
    each Int = refl
    each (Text long) = refl

same_tests : (kind other : FieldKind) → same_sort kind other ≡ true → same_sort other ≡ same_sort kind
same_tests Int Int same = refl
same_tests Int (Text size) same = absurd (false≢true same)
same_tests (Text size) Int same = absurd (false≢true same)
same_tests (Text size) (Text other) same = same_texts other size

places_in_texts : (size other chunk : ℕ) (shape : Shape) → places_in (Text size) chunk shape ≡ places_in (Text other) chunk shape
places_in_texts size other chunk C1 = refl
places_in_texts size other chunk C2 = refl
places_in_texts size other chunk C3 = refl
places_in_texts size other chunk C4 = refl
places_in_texts size other chunk C5 = refl
places_in_texts size other chunk C6 = refl

places_from_texts : (size other chunk : ℕ) (shapes : List Shape) → places_from (Text size) chunk shapes ≡ places_from (Text other) chunk shapes
places_from_texts size other chunk [] = refl
places_from_texts size other chunk (shape ∷ shapes) = ap₂ (◌++◌) (places_in_texts size other chunk shape) (places_from_texts size other (chunk + 1) shapes)

same_places : (kind other : FieldKind) → same_sort kind other ≡ true → (chunk : ℕ) (shapes : List Shape) → places_from other chunk shapes ≡ places_from kind chunk shapes
same_places Int Int same chunk shapes = refl
same_places Int (Text size) same chunk shapes = absurd (false≢true same)
same_places (Text size) Int same chunk shapes = absurd (false≢true same)
same_places (Text size) (Text other) same chunk shapes = places_from_texts other size chunk shapes

length-places_in : (kind : FieldKind) (chunk : ℕ) (shape : Shape) → length (places_in kind chunk shape) ≡ fields_for kind shape
length-places_in Int chunk C1 = refl
length-places_in Int chunk C2 = refl
length-places_in Int chunk C3 = refl
length-places_in Int chunk C4 = refl
length-places_in Int chunk C5 = refl
length-places_in Int chunk C6 = refl
length-places_in (Text size) chunk C1 = refl
length-places_in (Text size) chunk C2 = refl
length-places_in (Text size) chunk C3 = refl
length-places_in (Text size) chunk C4 = refl
length-places_in (Text size) chunk C5 = refl
length-places_in (Text size) chunk C6 = refl

length-places_from : (kind : FieldKind) (chunk : ℕ) (shapes : List Shape) → length (places_from kind chunk shapes) ≡ sum_by (fields_for kind) shapes
length-places_from kind chunk [] = refl
length-places_from kind chunk (shape ∷ shapes) =
    length-append (places_in kind chunk shape) (places_from kind (chunk + 1) shapes)
    ∙ ap₂ (◌+◌) (length-places_in kind chunk shape) (length-places_from kind (chunk + 1) shapes) ∙ sym (sum_by-cons (fields_for kind) shape shapes)

-- the places behind those of some chunks are those of the next one
places_from-append : (kind : FieldKind) (chunk at : ℕ) (front : List Shape) (shape : Shape) (back : List Shape) → chunk + length front ≡ at
    → places_from kind chunk (front ++ shape ∷ back) ≡ places_from kind chunk front ++ (places_in kind at shape ++ places_from kind (at + 1) back)
places_from-append kind chunk at [] shape back is =
    let here : chunk ≡ at = omega arith in
    ap (λ number. places_in kind number shape ++ places_from kind (number + 1) back) here
places_from-append kind chunk at (next ∷ front) shape back is =
    ap (λ rest. places_in kind chunk next ++ rest) (places_from-append kind (chunk + 1) at front shape back (omega arith))
    ∙ sym (append_assoc (places_in kind chunk next) (places_from kind (chunk + 1) front) (places_in kind at shape ++ places_from kind (at + 1) back))

first_place : (kind : FieldKind) (chunk : ℕ) (shape : Shape) → 0 < fields_for kind shape → (field : ℕ) × (get_or (places_in kind chunk shape) 0 Conv ≡ Field chunk field)
first_place Int chunk C1 some = (0, refl)
first_place Int chunk C2 some = absurd (omega arith)
first_place Int chunk C3 some = (0, refl)
first_place Int chunk C4 some = (0, refl)
first_place Int chunk C5 some = (0, refl)
first_place Int chunk C6 some = (0, refl)
first_place (Text size) chunk C1 some = absurd (omega arith)
first_place (Text size) chunk C2 some = (0, refl)
first_place (Text size) chunk C3 some = (1, refl)
first_place (Text size) chunk C4 some = absurd (omega arith)
first_place (Text size) chunk C5 some = (2, refl)
first_place (Text size) chunk C6 some = (4, refl)

-- the element that passes a test behind so many others that do
record Passing (test : FieldKind → Bool) (kinds : List FieldKind) (before : ℕ) : Type 0 where
  place : ℕ
  within : place < length kinds
  passes : test (get_or kinds place Int) ≡ true
  counted : count_by test (take place kinds) ≡ before

behind : (test : FieldKind → Bool) (kind : FieldKind) (kinds : List FieldKind) (rest before : ℕ) → cond (test kind) 1 0 + rest ≡ before → Passing test kinds rest → Passing test (kind ∷ kinds) before
behind test kind kinds rest before is p =
    let whole = sum_by-cons (λ k. cond (test k) 1 0) kind (take p.place kinds) in
    let enough = p.counted in
    let below = p.within in
    record { place = suc p.place; within = omega arith; passes = p.passes; counted = omega arith }

next_passing : (test : FieldKind → Bool) (kinds : List FieldKind) (before : ℕ) → before < count_by test kinds → Passing test kinds before
next_passing test [] before more = absurd (omega arith)
next_passing test (kind ∷ kinds) before more = by (test kind) refl before (next_passing test kinds) (whole more)
  where
    whole : before < count_by test (kind ∷ kinds) → before < cond (test kind) 1 0 + count_by test kinds
    whole below = subst (λ count. before < count) (sum_by-cons (λ k. cond (test k) 1 0) kind kinds) below

    by : (passes : Bool) → test kind ≡ passes → (count : ℕ) → ((rest : ℕ) → rest < count_by test kinds → Passing test kinds rest) → count < cond (test kind) 1 0 + count_by test kinds → Passing test (kind ∷ kinds) count
    by true is zero next more = record { place = 0; within = omega arith; passes = is; counted = refl }
    by true is (suc count) next more =
        let one = cond-true {A = ℕ} (test kind) 1 0 is in
        behind test kind kinds count (suc count) (omega arith) (next count (omega arith))
    by false is count next more =
        let none = cond-false {A = ℕ} (test kind) 1 0 is in
        behind test kind kinds count count (omega arith) (next count (omega arith))

-- the place of a column of a sort that has so many of its sort in front
place_at : (kind : FieldKind) (kinds : List FieldKind) (before : ℕ) (shapes : List Shape) (p : Passing (same_sort kind) kinds before)
    → place_taken 0 shapes kinds p.place ≡ get_or (places_from kind 0 shapes) before Conv
place_at kind kinds before shapes p =
    ap₂ (λ places at. get_or places at Conv) (same_places kind (get_or kinds p.place Int) p.passes 0 shapes)
    (ap (λ test. count_by test (take p.place kinds)) (same_tests kind (get_or kinds p.place Int) p.passes) ∙ p.counted)

-- A chunk without which there are too few fields of a sort gets a column of it.
gets_column : (kind : FieldKind) (kinds : List FieldKind) (front : List Shape) (shape : Shape) (back : List Shape)
    → count_by (same_sort kind) kinds ≤ sum_by (fields_for kind) (front ++ shape ∷ back) → sum_by (fields_for kind) (front ++ back) < count_by (same_sort kind) kinds
    → (column field : ℕ) × (slice_get (places_taken 0 (front ++ shape ∷ back) kinds) column ≡ Some (Field (length front) field))
gets_column kind kinds front shape back enough few = (p.place, place.0, found)
  where
    before : ℕ
    before = length (places_from kind 0 front)

    fields : (before < count_by (same_sort kind) kinds) × (0 < fields_for kind shape)
    fields =
        let all = sum_by-append (fields_for kind) front (shape ∷ back) in
        let others = sum_by-append (fields_for kind) front back in
        let one = sum_by-cons (fields_for kind) shape back in
        let long = length-places_from kind 0 front in
        (omega arith, omega arith)

    p : Passing (same_sort kind) kinds before
    p = next_passing (same_sort kind) kinds before fields.0

    place : (field : ℕ) × (get_or (places_in kind (length front) shape) 0 Conv ≡ Field (length front) field)
    place = first_place kind (length front) shape fields.1

    some : 0 < length (places_in kind (length front) shape)
    some = let long = length-places_in kind (length front) shape in let more = fields.1 in omega arith

    taken : get_or (places_from kind 0 (front ++ shape ∷ back)) before Conv ≡ Field (length front) place.0
    taken =
        ap (λ places. get_or places before Conv) (places_from-append kind 0 (length front) front shape back (omega arith))
        ∙ ap (λ at. get_or (places_from kind 0 front ++ (places_in kind (length front) shape ++ places_from kind (length front + 1) back)) at Conv) same
        ∙ get_or-append-add (places_from kind 0 front) (places_in kind (length front) shape ++ places_from kind (length front + 1) back) 0 Conv
        ∙ get_or_append_left (places_in kind (length front) shape) (places_from kind (length front + 1) back) Conv 0 some
        ∙ place.1
      where
        same : before ≡ length (places_from kind 0 front) + 0
        same = omega arith

    found : slice_get (places_taken 0 (front ++ shape ∷ back) kinds) p.place ≡ Some (Field (length front) place.0)
    found =
        let below : p.place < length (places_taken 0 (front ++ shape ∷ back) kinds) = rw (length-map-range_with_len (place_taken 0 (front ++ shape ∷ back) kinds) 0 (length kinds)) p.within in
        slice_get-get_or (places_taken 0 (front ++ shape ∷ back) kinds) p.place Conv below
        ∙ ap (λ place. Some place) (get_or-map-range_with_len (place_taken 0 (front ++ shape ∷ back) kinds) 0 (length kinds) p.place p.place Conv p.within (omega arith)
        ∙ place_at kind kinds before (front ++ shape ∷ back) p ∙ taken)

-- a list at one of its elements
record Split (shapes : List Shape) (at : ℕ) : Type 0 where
  front : List Shape
  shape : Shape
  back : List Shape
  long : length front ≡ at
  whole : shapes ≡ front ++ shape ∷ back

split_at : (shapes : List Shape) (at : ℕ) → at < length shapes → Split shapes at
split_at [] at below = absurd (omega arith)
split_at (shape ∷ shapes) zero below = record { front = []; shape = shape; back = shapes; long = refl; whole = refl }
split_at (shape ∷ shapes) (suc at) below =
    let rest = split_at shapes at (omega arith) in
    record { front = shape ∷ rest.front; shape = rest.shape; back = rest.back; long = ap suc rest.long; whole = ap (λ list. shape ∷ list) rest.whole }

-- the cover of these columns
abbrev IsCoverOf : List FieldKind → List Shape → Type 0
IsCoverOf kinds shapes = IsCover (count_by (same_sort Int) kinds) (count_by (same_sort (Text 120)) kinds) shapes

chunk_gets_column : (kinds : List FieldKind) (front : List Shape) (shape : Shape) (back : List Shape) → IsCoverOf kinds (front ++ shape ∷ back)
    → (column field : ℕ) × (slice_get (places_taken 0 (front ++ shape ∷ back) kinds) column ≡ Some (Field (length front) field))
chunk_gets_column kinds front shape back cover =
    elim (cases_lt (sum_by (fields_for Int) (front ++ back)) (count_by (same_sort Int) kinds)) [
      | inl few ↦ gets_column Int kinds front shape back cover.holds.0 few
      | inr numbers ↦ elim (cases_lt (sum_by (fields_for (Text 120)) (front ++ back)) (count_by (same_sort (Text 120)) kinds)) [
        | inl few ↦ gets_column (Text 120) kinds front shape back cover.holds.1 few
        | inr texts ↦ absurd (dear (cover.cheapest (front ++ back) (numbers, texts)))
      ]
    ]
  where
    dear : price (front ++ shape ∷ back) ≤ price (front ++ back) → ⊥
    dear cheap =
        let all = sum_by-append price_of front (shape ∷ back) in
        let others = sum_by-append price_of front back in
        let one = sum_by-cons price_of shape back in
        let positive = price_positive shape in
        omega arith

has_room : (kinds : List FieldKind) (shapes : List Shape) → Holds (count_by (same_sort Int) kinds) (count_by (same_sort (Text 120)) kinds) shapes
    → (kind : FieldKind) → count_by (same_sort kind) kinds ≤ length (places_from kind 0 shapes)
has_room kinds shapes enough Int = let long = length-places_from Int 0 shapes in let numbers = enough.0 in omega arith
has_room kinds shapes enough (Text size) =
    subst (λ long. count_by (same_sort (Text size)) kinds ≤ long) (sym (length-places_from (Text size) 0 shapes))
    (subst (λ test. count_by test kinds ≤ sum_by (λ shape. count_by test (fields_of shape)) shapes) (same_texts 120 size) enough.1)

pub cover_is_filled : (kinds : List FieldKind) (shapes : List Shape) → IsCoverOf kinds shapes → FillShapes kinds shapes
cover_is_filled kinds shapes cover = record { room = has_room kinds shapes cover.holds; each_chunk = each }
  where
    each : (chunk : ℕ) → chunk < length shapes → (column field : ℕ) × (slice_get (places_taken 0 shapes kinds) column ≡ Some (Field chunk field))
    each chunk below =
        let split = split_at shapes chunk below in
        subst (λ number. (column field : ℕ) × (slice_get (places_taken 0 shapes kinds) column ≡ Some (Field number field))) split.long
        (subst (λ list. (column field : ℕ) × (slice_get (places_taken 0 list kinds) column ≡ Some (Field (length split.front) field))) (sym split.whole)
        (chunk_gets_column kinds split.front split.shape split.back (subst (IsCoverOf kinds) split.whole cover)))
