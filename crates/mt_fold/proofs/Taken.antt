-- The fields of one sort in some chunks, and those that columns take.
use Rattle.std.proofs.Common.{◌≡◌, ℕ, zero, suc, ◌+◌, ◌-◌, ◌<◌, ◌≤◌, true, false, List, [], ◌∷◌, ◌++◌, length, map, take, drop, count_by, if◌then◌else◌, Some, slice_get, slice_index_or, refl, sym, ap, subst, ◌∙◌, arith, length-append}
use Rattle.std.proofs.lemmas.List.{append_assoc, drop-drop, drop_at, get_or-drop, get_or_append_left}
use Rattle.std.proofs.lemmas.List.FromFn.{get_or-map-range_with_len, length-map-range_with_len, map-range_with_len_more}
use Rattle.std.proofs.lemmas.List.Sums.{count_by_more_no, count_by_more_yes, sum_by-take-le}
use Rattle.std.proofs.lemmas.Option.{get_or_from_slice_get, slice_get-get_or, slice_get-map, slice_get_read, slice_get_within}
use Rattle.std.specs.List.{range_with_len}
use Rattle.std.specs.Option.{option_map}
use Rattle.mt_codec.specs.declared.field.FieldKind.{FieldKind}
use Rattle.mt_codec.specs.declared.field.FieldKind.TheVariants.{Int, Text}
use Rattle.mt_tree.specs.declared.schema.Column.{Column}
use Rattle.mt_tree.specs.declared.schema.Kind.{Kind}
use Rattle.mt_fold.specs.declared.fold.Place.{Place}
use Rattle.mt_fold.specs.declared.fold.Place.TheVariants.{Conv, Field}
use Rattle.mt_fold.specs.declared.shape.Shape.{Shape}
use Rattle.mt_fold.specs.declared.shape.Shape.TheVariants.{C1, C2, C3, C4, C5, C6}
use Rattle.mt_fold.specs.Extended.{FillShapes, kinds_of, place_taken, places_from, places_in, places_taken}
use Rattle.mt_fold.specs.Free.{LieIn}
use Rattle.mt_fold.specs.Shapes.{chunk_kind, fields_of, same_sort}
use Rattle.mt_fold.proofs.Members.{Side, in_first, in_second, made, made_from, side, stands_in_first, stands_in_second}
use Rattle.mt_fold.proofs.Sorts.{numbers_of}

-- the first field of a sort in a chunk, and how many it has there
abbrev pub start_of : FieldKind → Shape → ℕ
start_of Int shape = 0
start_of (Text size) shape = numbers_of shape

abbrev pub count_of : FieldKind → Shape → ℕ
count_of kind shape = count_by (same_sort kind) (fields_of shape)

pub lie_in : (kind : FieldKind) (shape : Shape) → LieIn kind shape (start_of kind shape) (count_of kind shape)
lie_in Int C1 = record { few = omega arith; places = λ chunk. refl }
lie_in Int C2 = record { few = omega arith; places = λ chunk. refl }
lie_in Int C3 = record { few = omega arith; places = λ chunk. refl }
lie_in Int C4 = record { few = omega arith; places = λ chunk. refl }
lie_in Int C5 = record { few = omega arith; places = λ chunk. refl }
lie_in Int C6 = record { few = omega arith; places = λ chunk. refl }
lie_in (Text size) C1 = record { few = omega arith; places = λ chunk. refl }
lie_in (Text size) C2 = record { few = omega arith; places = λ chunk. refl }
lie_in (Text size) C3 = record { few = omega arith; places = λ chunk. refl }
lie_in (Text size) C4 = record { few = omega arith; places = λ chunk. refl }
lie_in (Text size) C5 = record { few = omega arith; places = λ chunk. refl }
lie_in (Text size) C6 = record { few = omega arith; places = λ chunk. refl }

length-places_in : (kind : FieldKind) (chunk start count : ℕ) (shape : Shape) → LieIn kind shape start count → length (places_in kind chunk shape) ≡ count
length-places_in kind chunk start count shape lie = ap length (lie.places chunk) ∙ length-map-range_with_len (λ i. Field chunk (start + i)) 0 count

-- the first field that is left, while the first chunk has one
pub first_left : (kind : FieldKind) (chunk taken start count : ℕ) (shape : Shape) (behind : List Shape) → LieIn kind shape start count → taken < count
    → slice_index_or (drop taken (places_from kind chunk (shape ∷ behind))) 0 Conv ≡ Field chunk (start + taken)
first_left kind chunk taken start count shape behind lie low =
    let size = length-places_in kind chunk start count shape lie in
    get_or-drop taken (places_from kind chunk (shape ∷ behind)) 0 Conv
    ∙ get_or_append_left (places_in kind chunk shape) (places_from kind (chunk + 1) behind) Conv (taken + 0) (omega (arith, size, low))
    ∙ ap (λ places. slice_index_or places (taken + 0) Conv) (lie.places chunk)
    ∙ get_or-map-range_with_len (λ i. Field chunk (start + i)) 0 count (taken + 0) taken Conv (omega arith) (omega arith)

-- past the first chunk, where all its fields are taken
pub rest_left : (kind : FieldKind) (chunk taken start count : ℕ) (shape : Shape) (behind : List Shape) → LieIn kind shape start count → count ≤ taken
    → drop (taken - count) (places_from kind (chunk + 1) behind) ≡ drop taken (places_from kind chunk (shape ∷ behind))
rest_left kind chunk taken start count shape behind lie past =
    let size = length-places_in kind chunk start count shape lie in
    let whole : count + (taken - count) ≡ taken = omega arith in
    sym (ap (drop (taken - count)) (drop_at (places_in kind chunk shape) (places_from kind (chunk + 1) behind) count size))
    ∙ drop-drop (taken - count) count (places_from kind chunk (shape ∷ behind))
    ∙ ap (λ n. drop n (places_from kind chunk (shape ∷ behind))) whole

-- how many there are does not depend on the number of the first chunk
pub as_many_places : (kind : FieldKind) (chunk other : ℕ) (shapes : List Shape) → length (places_from kind chunk shapes) ≡ length (places_from kind other shapes)
as_many_places kind chunk other [] = refl
as_many_places kind chunk other (shape ∷ shapes) =
    let here : length (places_in kind chunk shape) ≡ length (places_in kind other shape) = length-places_in kind chunk _ _ shape (lie_in kind shape) ∙ sym (length-places_in kind other _ _ shape (lie_in kind shape)) in
    let rest = as_many_places kind (chunk + 1) (other + 1) shapes in
    length-append (places_in kind chunk shape) (places_from kind (chunk + 1) shapes) ∙ (λ i. here i + rest i) ∙ sym (length-append (places_in kind other shape) (places_from kind (other + 1) shapes))

-- how many fields of a sort stand in front of a chunk
abbrev pub fields_before : FieldKind → List Shape → ℕ → ℕ
fields_before kind [] chunk = 0
fields_before kind (shape ∷ shapes) zero = 0
fields_before kind (shape ∷ shapes) (suc chunk) = count_of kind shape + fields_before kind shapes chunk

-- The field that has this rank among those of a sort: its chunk, counted from the first, and where it
-- stands there.
pub record Stands (kind : FieldKind) (number rank : ℕ) (shapes : List Shape) (place : Place) : Type 0 where
  pub at : ℕ
  pub chunk : ℕ
  pub field : ℕ
  pub shape : Shape
  pub at_is : at ≡ number + chunk
  pub place_is : place ≡ Field at field
  pub shape_is : slice_get shapes chunk ≡ Some shape
  pub behind : start_of kind shape ≤ field
  pub within : field < start_of kind shape + count_of kind shape
  pub rank_is : rank + start_of kind shape ≡ fields_before kind shapes chunk + field

next_stands : (kind : FieldKind) (number rank inner : ℕ) (shape : Shape) (shapes : List Shape) (place : Place) → rank ≡ length (places_in kind number shape) + inner → Stands kind (number + 1) inner shapes place
    → Stands kind number rank (shape ∷ shapes) place
next_stands kind number rank inner shape shapes place sum it =
    let size = length-places_in kind number _ _ shape (lie_in kind shape) in
    let at_is = it.at_is in
    let rank_is = it.rank_is in
    record {
      at = it.at;
      chunk = suc it.chunk;
      field = it.field;
      shape = it.shape;
      at_is = omega (arith, at_is);
      place_is = it.place_is;
      shape_is = it.shape_is;
      behind = it.behind;
      within = it.within;
      rank_is = omega (arith, rank_is, sum, size);
    }

first_stands : (kind : FieldKind) (number rank : ℕ) (shape : Shape) (shapes : List Shape) (place : Place) → slice_get (places_in kind number shape) rank ≡ Some place → Stands kind number rank (shape ∷ shapes) place
first_stands kind number rank shape shapes place is =
    let there = made_from (λ i. Field number (start_of kind shape + i)) (count_of kind shape) rank place (sym (ap (λ places. slice_get places rank) ((lie_in kind shape).places number)) ∙ is) in
    let low = there.0 in
    record {
      at = number;
      chunk = 0;
      field = start_of kind shape + rank;
      shape = shape;
      at_is = omega arith;
      place_is = sym there.1;
      shape_is = refl;
      behind = omega arith;
      within = omega (arith, low);
      rank_is = omega arith;
    }

-- each of the places is a field
pub stands : (kind : FieldKind) (number rank : ℕ) (shapes : List Shape) (place : Place) → slice_get (places_from kind number shapes) rank ≡ Some place → Stands kind number rank shapes place
stands kind number rank [] place is = cc
stands kind number rank (shape ∷ shapes) place is =
    by (λ inner there. stands kind (number + 1) inner shapes place there) (side (places_in kind number shape) (places_from kind (number + 1) shapes) rank place is)
  where
    by : ((inner : ℕ) → slice_get (places_from kind (number + 1) shapes) inner ≡ Some place → Stands kind (number + 1) inner shapes place) → Side (places_in kind number shape) (places_from kind (number + 1) shapes) rank place
        → Stands kind number rank (shape ∷ shapes) place
    by rest (stands_in_first low here) = first_stands kind number rank shape shapes place here
    by rest (stands_in_second inner sum there) = next_stands kind number rank inner shape shapes place sum (rest inner there)

-- each field of the sort is one of the places, with this rank
pub stands_there : (kind : FieldKind) (number : ℕ) (shapes : List Shape) (at chunk field rank : ℕ) (shape : Shape) → at ≡ number + chunk → slice_get shapes chunk ≡ Some shape → start_of kind shape ≤ field
    → field < start_of kind shape + count_of kind shape → rank + start_of kind shape ≡ fields_before kind shapes chunk + field → slice_get (places_from kind number shapes) rank ≡ Some (Field at field)
stands_there kind number [] at chunk field rank shape at_is is behind within rank_is = cc
stands_there kind number (other ∷ shapes) at zero field rank shape at_is is behind within rank_is =
    let same : other ≡ shape = cc in
    let sum : start_of kind other + rank ≡ field = subst (λ s. start_of kind s + rank ≡ field) (sym same) (omega arith) in
    let low : rank < count_of kind other = subst (λ s. rank < count_of kind s) (sym same) (omega arith) in
    let number_is : number ≡ at = omega arith in
    in_first (places_in kind number other) (places_from kind (number + 1) shapes) rank (Field at field)
    (ap (λ places. slice_get places rank) ((lie_in kind other).places number) ∙ made (λ i. Field number (start_of kind other + i)) (count_of kind other) rank low ∙ (λ i. Some (Field (number_is i) (sum i))))
stands_there kind number (other ∷ shapes) at (suc chunk) field rank shape at_is is behind within rank_is =
    let size = length-places_in kind number _ _ other (lie_in kind other) in
    in_second (places_in kind number other) (places_from kind (number + 1) shapes) rank (rank - count_of kind other) (Field at field) (omega (arith, size))
    (stands_there kind (number + 1) shapes at chunk field (rank - count_of kind other) shape (omega arith) is behind within (omega arith))

-- the same field where the first chunk has another number
pub stands_other : (kind : FieldKind) (number other rank : ℕ) (shapes : List Shape) (place : Place) (it : Stands kind number rank shapes place)
    → slice_get (places_from kind other shapes) rank ≡ Some (Field (other + it.chunk) it.field)
stands_other kind number other rank shapes place it = stands_there kind other shapes (other + it.chunk) it.chunk it.field rank it.shape refl it.shape_is it.behind it.within it.rank_is

pub own_sort : (kind : FieldKind) → same_sort kind kind ≡ true
own_sort Int = refl
own_sort (Text size) = refl

abbrev rank_of : List FieldKind → ℕ → ℕ
rank_of kinds column = count_by (same_sort (slice_index_or kinds column Int)) (take column kinds)

-- there is a field for each column
rank_within : (number column : ℕ) (shapes : List Shape) (kinds : List FieldKind) → FillShapes kinds shapes → column < length kinds → rank_of kinds column < length (places_from (slice_index_or kinds column Int) number shapes)
rank_within number column shapes kinds fill low =
    let more = count_by_more_yes (same_sort kind) kinds column Int low (own_sort kind) in
    let some = sum_by-take-le (λ k. if same_sort kind k then 1 else 0) kinds (column + 1) in
    let room = fill.room kind in
    let same = as_many_places kind number 0 shapes in
    omega (arith, more, some, room, same)
  where
    kind : FieldKind
    kind = slice_index_or kinds column Int

-- The place that a column takes: by its rank among the columns of its sort.
pub record Takes (number : ℕ) (shapes : List Shape) (kinds : List FieldKind) (column : ℕ) (place : Place) : Type 0 where
  pub kind : FieldKind
  pub kind_is : slice_get kinds column ≡ Some kind
  pub is : slice_get (places_from kind number shapes) (count_by (same_sort kind) (take column kinds)) ≡ Some place

takes_own : (number column : ℕ) (shapes : List Shape) (kinds : List FieldKind) → FillShapes kinds shapes → column < length kinds → Takes number shapes kinds column (place_taken number shapes kinds column)
takes_own number column shapes kinds fill low = record {
  kind = slice_index_or kinds column Int;
  kind_is = slice_get-get_or kinds column Int low;
  is = slice_get-get_or (places_from (slice_index_or kinds column Int) number shapes) (rank_of kinds column) Conv (rank_within number column shapes kinds fill low);
}

pub takes : (number column : ℕ) (shapes : List Shape) (kinds : List FieldKind) (place : Place) → FillShapes kinds shapes → slice_get (places_taken number shapes kinds) column ≡ Some place → Takes number shapes kinds column place
takes number column shapes kinds place fill is =
    let there = made_from (place_taken number shapes kinds) (length kinds) column place is in
    subst (Takes number shapes kinds column) there.1 (takes_own number column shapes kinds fill there.0)

pub taken_from : (number column : ℕ) (shapes : List Shape) (kinds : List FieldKind) (place : Place) → Takes number shapes kinds column place → slice_get (places_taken number shapes kinds) column ≡ Some place
taken_from number column shapes kinds place it =
    made (place_taken number shapes kinds) (length kinds) column (slice_get_within kinds column it.kind it.kind_is) ∙ ap Some (get_or_from_slice_get (places_from kind number shapes) (rank_of kinds column) place Conv own)
  where
    kind : FieldKind
    kind = slice_index_or kinds column Int

    own : slice_get (places_from kind number shapes) (rank_of kinds column) ≡ Some place
    own = subst (λ k. slice_get (places_from k number shapes) (count_by (same_sort k) (take column kinds)) ≡ Some place) (sym (get_or_from_slice_get kinds column it.kind Int it.kind_is)) it.is

-- a place in a chunk with at least this number
abbrev pub StandsBehind : ℕ → Place → Type 0
StandsBehind number Conv = ⊥
StandsBehind number (Field chunk field) = number ≤ chunk

-- each column that is put into a chunk has a place in one of the new chunks
pub taken_behind : (number column : ℕ) (shapes : List Shape) (kinds : List FieldKind) → FillShapes kinds shapes → column < length kinds → StandsBehind number (place_taken number shapes kinds column)
taken_behind number column shapes kinds fill low =
    let own = takes_own number column shapes kinds fill low in
    let it = stands own.kind number (count_by (same_sort own.kind) (take column kinds)) shapes (place_taken number shapes kinds column) own.is in
    let at_is = it.at_is in
    subst (StandsBehind number) (sym it.place_is) (omega (arith, at_is))

-- what is left of a sort before the column with this position
abbrev pub left_of : ℕ → List Shape → List FieldKind → ℕ → FieldKind → List Place
left_of number shapes kinds column kind = drop (count_by (same_sort kind) (take column kinds)) (places_from kind number shapes)

-- a column takes the first that is left of its sort
pub next_taken : (number column : ℕ) (shapes : List Shape) (kinds : List FieldKind) (kind : FieldKind) → slice_get kinds column ≡ Some kind
    → slice_index_or (left_of number shapes kinds column kind) 0 Conv ≡ place_taken number shapes kinds column
next_taken number column shapes kinds kind is =
    get_or-drop (count_by (same_sort kind) (take column kinds)) (places_from kind number shapes) 0 Conv
    ∙ ap (λ n. slice_index_or (places_from kind number shapes) n Conv) none_more
    ∙ ap (λ k. slice_index_or (places_from k number shapes) (count_by (same_sort k) (take column kinds)) Conv) (sym (get_or_from_slice_get kinds column kind Int is))
  where
    none_more : count_by (same_sort kind) (take column kinds) + 0 ≡ count_by (same_sort kind) (take column kinds)
    none_more = omega arith

-- the others of its sort are left then, and all of another sort
pub rest_of_own : (number column : ℕ) (shapes : List Shape) (kinds : List FieldKind) (kind : FieldKind) → slice_get kinds column ≡ Some kind
    → drop 1 (left_of number shapes kinds column kind) ≡ left_of number shapes kinds (column + 1) kind
rest_of_own number column shapes kinds kind is =
    drop-drop 1 (count_by (same_sort kind) (take column kinds)) (places_from kind number shapes) ∙ ap (λ n. drop n (places_from kind number shapes)) (sym more)
  where
    more : count_by (same_sort kind) (take (column + 1) kinds) ≡ count_by (same_sort kind) (take column kinds) + 1
    more = count_by_more_yes (same_sort kind) kinds column kind (slice_get_within kinds column kind is) (ap (same_sort kind) (get_or_from_slice_get kinds column kind kind is) ∙ own_sort kind)

pub rest_of_other : (number column : ℕ) (shapes : List Shape) (kinds : List FieldKind) (kind other : FieldKind) → slice_get kinds column ≡ Some kind → same_sort other kind ≡ false
    → left_of number shapes kinds column other ≡ left_of number shapes kinds (column + 1) other
rest_of_other number column shapes kinds kind other is differs = ap (λ n. drop n (places_from other number shapes)) (sym same)
  where
    same : count_by (same_sort other) (take (column + 1) kinds) ≡ count_by (same_sort other) (take column kinds)
    same = count_by_more_no (same_sort other) kinds column kind (slice_get_within kinds column kind is) (ap (same_sort other) (get_or_from_slice_get kinds column kind kind is) ∙ differs)

-- the kind of one of the columns
pub kind_known : (columns : List Column) (position : ℕ) (column : Column) (kind : Kind) → position < length columns → column ≡ slice_index_or columns position column → column.kind ≡ kind
    → slice_get (kinds_of columns) position ≡ Some (chunk_kind kind)
kind_known columns position column kind low read same =
    slice_get-map (λ c. chunk_kind c.kind) columns position ∙ ap (option_map (λ (c : Column). chunk_kind c.kind)) (slice_get_read columns (length columns) position column refl low read) ∙ ap (λ k. Some (chunk_kind k)) same

-- one more place behind those that were taken
pub placed_more : (f : ℕ → Place) (old before after : List Place) (place : Place) (count : ℕ) → before ≡ old ++ map f (range_with_len 0 count) → after ≡ before ++ place ∷ [] → place ≡ f count
    → after ≡ old ++ map f (range_with_len 0 (count + 1))
placed_more f old before after place count so_far push same =
    push ∙ (λ i. so_far i ++ same i ∷ []) ∙ append_assoc old (map f (range_with_len 0 count)) (f count ∷ []) ∙ ap (λ new. old ++ new) (sym (map-range_with_len_more f 0 count count (omega arith)))
