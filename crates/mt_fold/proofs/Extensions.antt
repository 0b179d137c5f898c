-- A valid fold with the chunks of further columns is valid.
use Rattle.std.proofs.Common.{◌≡◌, ℕ, ◌+◌, ◌-◌, ◌<◌, ◌≤◌, ◌⊎◌, inl, inr, true, List, ◌++◌, length, take, count_by, Option, Some, None, slice_get, option_and_then, refl, sym, ap, subst, ◌∙◌, arith, length-append}
use Rattle.std.proofs.lemmas.Bool.{cases_lt, cases_order}
use Rattle.std.proofs.lemmas.List.{length-map}
use Rattle.std.proofs.lemmas.List.FromFn.{length-map-range_with_len}
use Rattle.std.proofs.lemmas.Option.{same_Some, slice_get-map, slice_get_within}
use Rattle.std.specs.Option.{option_map}
use Rattle.mt_codec.specs.declared.field.FieldKind.{FieldKind}
use Rattle.mt_codec.specs.declared.field.FieldKind.TheVariants.{Text}
use Rattle.mt_tree.specs.declared.schema.Column.{Column}
use Rattle.mt_tree.specs.declared.schema.Kind.{Kind}
use Rattle.mt_tree.specs.declared.schema.Kind.TheVariants.{Integer, Varchar}
use Rattle.mt_fold.specs.declared.fold.Fold.{Fold}
use Rattle.mt_fold.specs.declared.fold.Place.{Place}
use Rattle.mt_fold.specs.declared.fold.Place.TheVariants.{Conv, Field}
use Rattle.mt_fold.specs.declared.shape.Shape.{Shape}
use Rattle.mt_fold.specs.declared.shape.Shape.TheVariants.{C1, C2, C3, C4, C5, C6}
use Rattle.mt_fold.specs.Clauses.{AreApart, AreBase, AreFirst, Fit, HasColumn, HaveColumns, IsNext, IsTaken, kind_at}
use Rattle.mt_fold.specs.Extended.{FillShapes, extended_fold, kinds_of, place_taken, places_from, places_taken}
use Rattle.mt_fold.specs.Folds.{IsValidFold}
use Rattle.mt_fold.specs.Shapes.{chunk_kind, fields_of, same_sort}
use Rattle.mt_fold.proofs.Members.{Ranked, Side, in_first, in_second, member_at, rank_less, ranked, side, stands_in_first, stands_in_second}
use Rattle.mt_fold.proofs.Sorts.{is_number, is_text, number_below, numbers_of, stands_at, text_behind}
use Rattle.mt_fold.proofs.Taken.{Stands, count_of, fields_before, own_sort, stands, stands_other, stands_there, start_of, taken_from, takes}
use Rattle.mt_fold.proofs.Uses.{fields_from, valid_from}

-- the texts of a chunk stand behind its integers
texts_behind : (size : ℕ) (shape : Shape) → numbers_of shape + count_of (Text size) shape ≡ length (fields_of shape)
texts_behind size C1 = refl
texts_behind size C2 = refl
texts_behind size C3 = refl
texts_behind size C4 = refl
texts_behind size C5 = refl
texts_behind size C6 = refl

-- the fields of a sort are those of the kind in which its columns lie
of_kind : (kind : Kind) (shape : Shape) (field : ℕ) → start_of (chunk_kind kind) shape ≤ field → field < start_of (chunk_kind kind) shape + count_of (chunk_kind kind) shape
    → slice_get (fields_of shape) field ≡ Some (chunk_kind kind)
of_kind Integer shape field behind within = is_number _ _ field _ (stands_at shape field) (omega arith)
of_kind (Varchar size) shape field behind within = let whole = texts_behind 120 shape in is_text _ _ field _ (stands_at shape field) behind (omega (arith, whole, within))

kind_within : (kind : Kind) (shape : Shape) (field : ℕ) → slice_get (fields_of shape) field ≡ Some (chunk_kind kind)
    → (start_of (chunk_kind kind) shape ≤ field) × (field < start_of (chunk_kind kind) shape + count_of (chunk_kind kind) shape)
kind_within Integer shape field is = let below = number_below _ _ field _ (stands_at shape field) is in (omega arith, omega (arith, below))
kind_within (Varchar size) shape field is = let there = text_behind _ _ field _ (stands_at shape field) is in let whole = texts_behind 120 shape in (there.0, omega (arith, whole, there.1))

kind_at_same : (shapes others : List Shape) (chunk other field : ℕ) → slice_get shapes chunk ≡ slice_get others other → kind_at shapes chunk field ≡ kind_at others other field
kind_at_same shapes others chunk other field same = ap (option_and_then (λ shape. slice_get (fields_of shape) field)) same

chunk_of_kind : (shapes : List Shape) (chunk field : ℕ) (kind : FieldKind) → kind_at shapes chunk field ≡ Some kind → chunk < length shapes
chunk_of_kind shapes chunk field kind is = by (slice_get shapes chunk) refl is
  where
    by : (found : Option Shape) → slice_get shapes chunk ≡ found → option_and_then (λ shape. slice_get (fields_of shape) field) found ≡ Some kind → chunk < length shapes
    by None none of = cc
    by (Some shape) there of = slice_get_within shapes chunk shape there

same_kind : (kind other : Kind) → same_sort (chunk_kind kind) (chunk_kind other) ≡ true → chunk_kind other ≡ chunk_kind kind
same_kind Integer Integer same = refl
same_kind Integer (Varchar size) same = cc
same_kind (Varchar size) Integer same = cc
same_kind (Varchar size) (Varchar other) same = refl

-- a field has one rank
same_rank : (shapes : List Shape) (kind other_kind : FieldKind) (chunk other_chunk : ℕ) (shape other_shape : Shape) (field rank other_rank : ℕ) → kind ≡ other_kind → chunk ≡ other_chunk → shape ≡ other_shape
    → rank + start_of kind shape ≡ fields_before kind shapes chunk + field → other_rank + start_of other_kind other_shape ≡ fields_before other_kind shapes other_chunk + field → rank ≡ other_rank
same_rank shapes kind other_kind chunk other_chunk shape other_shape field rank other_rank one_kind one_chunk one_shape is other_is =
    let start : start_of kind shape ≡ start_of other_kind other_shape = λ i. start_of (one_kind i) (one_shape i) in
    let front : fields_before kind shapes chunk ≡ fields_before other_kind shapes other_chunk = λ i. fields_before (one_kind i) shapes (one_chunk i) in
    omega (arith, start, front, is, other_is)

column_of : (columns : List Column) (position : ℕ) (kind : FieldKind) → slice_get (kinds_of columns) position ≡ Some kind → (column : Column) × (slice_get columns position ≡ Some column) × (chunk_kind column.kind ≡ kind)
column_of columns position kind is = by (slice_get columns position) refl (sym (slice_get-map (λ c. chunk_kind c.kind) columns position) ∙ is)
  where
    by : (found : Option Column) → slice_get columns position ≡ found → option_map (λ (c : Column). chunk_kind c.kind) found ≡ Some kind → (column : Column) × (slice_get columns position ≡ Some column) × (chunk_kind column.kind ≡ kind)
    by None there of = cc
    by (Some column) there of = (column, there, same_Some _ _ of)

kind_of : (columns : List Column) (position : ℕ) (column : Column) → slice_get columns position ≡ Some column → slice_get (kinds_of columns) position ≡ Some (chunk_kind column.kind)
kind_of columns position column is = slice_get-map (λ c. chunk_kind c.kind) columns position ∙ ap (option_map (λ (c : Column). chunk_kind c.kind)) is

-- An added column in that field of a chunk.
record Put (number : ℕ) (shapes : List Shape) (added : List Column) (position chunk field : ℕ) : Type 0 where
  pub column : Column
  pub inner : ℕ
  pub shape : Shape
  pub column_is : slice_get added position ≡ Some column
  pub chunk_is : chunk ≡ number + inner
  pub shape_is : slice_get shapes inner ≡ Some shape
  pub behind : start_of (chunk_kind column.kind) shape ≤ field
  pub within : field < start_of (chunk_kind column.kind) shape + count_of (chunk_kind column.kind) shape
  pub rank_is : count_by (same_sort (chunk_kind column.kind)) (take position (kinds_of added)) + start_of (chunk_kind column.kind) shape ≡ fields_before (chunk_kind column.kind) shapes inner + field

module _ (number : ℕ) (added : List Column) (shapes : List Shape) (fill : FillShapes (kinds_of added) shapes) where
  abbrev new_places : List Place
  new_places = places_taken number shapes (kinds_of added)

  put_of : (position chunk field : ℕ) (column : Column) → slice_get added position ≡ Some column
      → Stands (chunk_kind column.kind) number (count_by (same_sort (chunk_kind column.kind)) (take position (kinds_of added))) shapes (Field chunk field) → Put number shapes added position chunk field
  put_of position chunk field column is it =
      let one_chunk : chunk ≡ it.at = cc (it.place_is) in
      let one_field : field ≡ it.field = cc (it.place_is) in
      let at_is = it.at_is in
      let behind = it.behind in
      let within = it.within in
      let rank_is = it.rank_is in
      record {
        column = column;
        inner = it.chunk;
        shape = it.shape;
        column_is = is;
        chunk_is = omega (arith, one_chunk, at_is);
        shape_is = it.shape_is;
        behind = omega (arith, one_field, behind);
        within = omega (arith, one_field, within);
        rank_is = omega (arith, one_field, rank_is);
      }

  put_by : (position chunk field : ℕ) (kind : FieldKind) (column : Column) → slice_get added position ≡ Some column → chunk_kind column.kind ≡ kind
      → slice_get (places_from kind number shapes) (count_by (same_sort kind) (take position (kinds_of added))) ≡ Some (Field chunk field) → Put number shapes added position chunk field
  put_by position chunk field kind column is same there =
      put_of position chunk field column is
      (stands (chunk_kind column.kind) number (count_by (same_sort (chunk_kind column.kind)) (take position (kinds_of added))) shapes (Field chunk field)
      (subst (λ k. slice_get (places_from k number shapes) (count_by (same_sort k) (take position (kinds_of added))) ≡ Some (Field chunk field)) (sym same) there))

  put : (position chunk field : ℕ) → slice_get new_places position ≡ Some (Field chunk field) → Put number shapes added position chunk field
  put position chunk field is =
      let it = takes number position shapes (kinds_of added) (Field chunk field) fill is in
      let column = column_of added position it.kind it.kind_is in
      put_by position chunk field it.kind column.0 column.1 column.2 it.is

  none_in_base : (position : ℕ) → slice_get new_places position ≡ Some Conv → ⊥
  none_in_base position is =
      let it = takes number position shapes (kinds_of added) Conv fill is in
      let there = stands it.kind number (count_by (same_sort it.kind) (take position (kinds_of added))) shapes Conv it.is in
      cc (there.place_is)

  put_kind : (position chunk field : ℕ) (it : Put number shapes added position chunk field) → kind_at shapes it.inner field ≡ Some (chunk_kind it.column.kind)
  put_kind position chunk field it = ap (option_and_then (λ shape. slice_get (fields_of shape) field)) it.shape_is ∙ of_kind it.column.kind it.shape field it.behind it.within

  -- no two of them lie in one field
  put_order : (a b chunk field : ℕ) → Put number shapes added a chunk field → Put number shapes added b chunk field → a < b → ⊥
  put_order a b chunk field first second less =
      let kinds = kinds_of added in
      let one_chunk : first.inner ≡ second.inner = (let is = first.chunk_is in let other = second.chunk_is in omega (arith, is, other)) in
      let one_shape : first.shape ≡ second.shape = same_Some _ _ (sym first.shape_is ∙ ap (slice_get shapes) one_chunk ∙ second.shape_is) in
      let one_kind : chunk_kind first.column.kind ≡ chunk_kind second.column.kind =
      same_Some _ _ (sym (put_kind a chunk field first) ∙ ap (λ n. kind_at shapes n field) one_chunk ∙ put_kind b chunk field second) in
      let one_rank = same_rank shapes _ _ first.inner second.inner first.shape second.shape field _ _ one_kind one_chunk one_shape first.rank_is second.rank_is in
      let earlier = rank_less (same_sort (chunk_kind first.column.kind)) kinds a b (chunk_kind first.column.kind) less (kind_of added a first.column first.column_is) (own_sort (chunk_kind first.column.kind)) in
      let as_second = ap (λ k. count_by (same_sort k) (take b kinds)) one_kind in
      omega (arith, one_rank, earlier, as_second)

  put_apart : (a b chunk field : ℕ) → Put number shapes added a chunk field → Put number shapes added b chunk field → a ≡ b
  put_apart a b chunk field first second = elim (cases_order a b) as (λ _. a ≡ b) [
    | inl same ↦ same
    | inr (inl less) ↦ absurd (put_order a b chunk field first second less)
    | inr (inr less) ↦ absurd (put_order b a chunk field second first less)
  ]

  -- the field of a chunk that has a lower rank is taken too
  taken_by_rank : (position chunk field rank : ℕ) (column : Column) → slice_get (places_from (chunk_kind column.kind) number shapes) rank ≡ Some (Field chunk field)
      → Ranked (same_sort (chunk_kind column.kind)) (kinds_of added) position rank → IsTaken new_places chunk field
  taken_by_rank position chunk field rank column there it =
      let other = column_of added it.at it.member it.is in
      let one_kind : chunk_kind other.0.kind ≡ chunk_kind column.kind = same_kind column.kind other.0.kind (ap (same_sort (chunk_kind column.kind)) other.2 ∙ it.passes) in (
        it.at,
        taken_from number it.at shapes (kinds_of added) (Field chunk field) (record {
          kind = chunk_kind column.kind;
          kind_is = it.is ∙ ap Some (sym other.2 ∙ one_kind);
          is = ap (slice_get (places_from (chunk_kind column.kind) number shapes)) it.rank_is ∙ there;
        }),
      )

  -- and so is the field before one of them, if it is of the same kind
  before_taken : (position chunk field before : ℕ) (it : Put number shapes added position chunk field) → field ≡ before + 1 → slice_get (fields_of it.shape) before ≡ Some (chunk_kind it.column.kind) → IsTaken new_places chunk before
  before_taken position chunk field before it next is =
      let kind = chunk_kind it.column.kind in
      let inside = kind_within it.column.kind it.shape before is in
      let rank_is = it.rank_is in
      let rank : ℕ = fields_before kind shapes it.inner + (before - start_of kind it.shape) in
      let sum : rank + start_of kind it.shape ≡ fields_before kind shapes it.inner + before = omega (arith, inside.0) in
      let lower : rank < count_by (same_sort kind) (take position (kinds_of added)) = omega (arith, sum, rank_is, next) in
      let there = stands_there kind number shapes chunk it.inner before rank it.shape it.chunk_is it.shape_is inside.0 inside.1 sum in
      taken_by_rank position chunk before rank it.column there (ranked (same_sort kind) (kinds_of added) position rank lower)

module _ (fold : Fold) (columns added : List Column) (base_len : ℕ) (shapes : List Shape) (valid : IsValidFold fold columns base_len) (fill : FillShapes (kinds_of added) shapes) where
  abbrev all_shapes : List Shape
  all_shapes = fold.shapes ++ shapes

  abbrev added_places : List Place
  added_places = places_taken (length fold.shapes) shapes (kinds_of added)

  abbrev all_places : List Place
  all_places = fold.places ++ added_places

  -- an added column in that field
  abbrev IsPut : ℕ → ℕ → ℕ → Type 0
  IsPut = Put (length fold.shapes) shapes added

  put_behind : (position chunk field : ℕ) → slice_get added_places position ≡ Some (Field chunk field) → IsPut position chunk field
  put_behind = put (length fold.shapes) added shapes fill

  -- the kinds of the fields of the old chunks and of the new ones
  old_kind : (chunk field : ℕ) → chunk < length fold.shapes → kind_at all_shapes chunk field ≡ kind_at fold.shapes chunk field
  old_kind chunk field low =
      let old = member_at fold.shapes chunk low in
      kind_at_same all_shapes fold.shapes chunk chunk field (in_first fold.shapes shapes chunk old.0 old.1 ∙ sym old.1)

  new_kind : (position chunk field other : ℕ) (it : IsPut position chunk field) → kind_at all_shapes chunk other ≡ slice_get (fields_of it.shape) other
  new_kind position chunk field other it =
      ap (option_and_then (λ shape. slice_get (fields_of shape) other)) (in_second fold.shapes shapes chunk it.inner it.shape it.chunk_is it.shape_is)

  put_fits : (position chunk field : ℕ) (it : IsPut position chunk field) → kind_at all_shapes chunk field ≡ Some (chunk_kind it.column.kind)
  put_fits position chunk field it = new_kind position chunk field field it ∙ of_kind it.column.kind it.shape field it.behind it.within

  -- a column of the fold lies in one of its chunks
  old_field : (position chunk field : ℕ) → slice_get fold.places position ≡ Some (Field chunk field) → chunk < length fold.shapes
  old_field position chunk field is =
      let within = slice_get_within fold.places position (Field chunk field) is in
      let each = valid.each_column in
      let column = member_at columns position (omega (arith, within, each)) in
      chunk_of_kind fold.shapes chunk field (chunk_kind column.0.kind) ((fields_from fold columns base_len valid).0 position column.0 chunk field column.1 is)

  place_side : (position chunk field : ℕ) → slice_get all_places position ≡ Some (Field chunk field) → Side fold.places added_places position (Field chunk field)
  place_side position chunk field is = side fold.places added_places position (Field chunk field) is

  sizes : length all_places ≡ length (columns ++ added)
  sizes =
      let each = valid.each_column in
      let new = length-map-range_with_len (place_taken (length fold.shapes) shapes (kinds_of added)) 0 (length (kinds_of added)) in
      let kinds = length-map added (λ column. chunk_kind column.kind) in
      let places = length-append fold.places added_places in
      omega (arith, each, new, kinds, places, length-append columns added)

  base_columns : AreBase all_places base_len
  base_columns column is = by (side fold.places added_places column Conv is)
    where
      by : Side fold.places added_places column Conv → column < base_len
      by (stands_in_first low here) = valid.base_columns column here
      by (stands_in_second position sum there) = absurd (none_in_base (length fold.shapes) added shapes fill position there)

  -- each chunk has a column
  new_chunk : (chunk inner : ℕ) → chunk ≡ length fold.shapes + inner → (column field : ℕ) × (slice_get (places_taken 0 shapes (kinds_of added)) column ≡ Some (Field inner field)) → HasColumn all_places chunk
  new_chunk chunk inner chunk_is (column, field, is) =
      let it = takes 0 column shapes (kinds_of added) (Field inner field) fill is in
      let there = stands it.kind 0 (count_by (same_sort it.kind) (take column (kinds_of added))) shapes (Field inner field) it.is in
      let one : inner ≡ there.at = cc (there.place_is) in
      let at_is = there.at_is in
      let same : length fold.shapes + there.chunk ≡ chunk = omega (arith, one, at_is, chunk_is) in
      let moved = stands_other it.kind 0 (length fold.shapes) (count_by (same_sort it.kind) (take column (kinds_of added))) shapes (Field inner field) there in
      let taken = taken_from (length fold.shapes) column shapes (kinds_of added) (Field chunk there.field)
      (record { kind = it.kind; kind_is = it.kind_is; is = moved ∙ ap (λ n. Some (Field n there.field)) same }) in
      (there.field, (length fold.places + column, in_second fold.places added_places (length fold.places + column) column (Field chunk there.field) refl taken))

  each_chunk : HaveColumns (length all_shapes) all_places
  each_chunk chunk low = by (cases_lt chunk (length fold.shapes))
    where
      by : (chunk < length fold.shapes) ⊎ (length fold.shapes ≤ chunk) → HasColumn all_places chunk
      by (inl old) = let it = valid.each_chunk chunk old in (it.0, (it.1.0, in_first fold.places added_places it.1.0 (Field chunk it.0) it.1.1))
      by (inr new) =
          let inside : chunk - length fold.shapes < length shapes = omega (arith, low, new, length-append fold.shapes shapes) in
          new_chunk chunk (chunk - length fold.shapes) (omega arith) (fill.each_chunk (chunk - length fold.shapes) inside)

  -- each column lies in a field of its kind
  new_fits : (position chunk field : ℕ) (column : Column) → slice_get added position ≡ Some column → IsPut position chunk field → kind_at all_shapes chunk field ≡ Some (chunk_kind column.kind)
  new_fits position chunk field column is it =
      let one : it.column ≡ column = same_Some _ _ (sym it.column_is ∙ is) in
      put_fits position chunk field it ∙ ap (λ (c : Column). Some (chunk_kind c.kind)) one

  fit : Fit all_shapes all_places (columns ++ added)
  fit position column chunk field column_is place_is = by (side columns added position column column_is) (place_side position chunk field place_is)
    where
      by : Side columns added position column → Side fold.places added_places position (Field chunk field) → kind_at all_shapes chunk field ≡ Some (chunk_kind column.kind)
      by (stands_in_first low here) (stands_in_first below old) =
          old_kind chunk field (old_field position chunk field old) ∙ (fields_from fold columns base_len valid).0 position column chunk field here old
      by (stands_in_first low here) (stands_in_second inner sum new) = let each = valid.each_column in absurd (omega (arith, each))
      by (stands_in_second other added_sum there) (stands_in_first below old) = let each = valid.each_column in absurd (omega (arith, each))
      by (stands_in_second other added_sum there) (stands_in_second inner sum new) =
          let each = valid.each_column in
          let one : other ≡ inner = omega (arith, each, added_sum, sum) in
          new_fits inner chunk field column (subst (λ k. slice_get added k ≡ Some column) one there) (put_behind inner chunk field new)

  apart : AreApart all_places
  apart a b chunk field at_a at_b = by (place_side a chunk field at_a) (place_side b chunk field at_b)
    where
      mixed : (position other : ℕ) → slice_get fold.places position ≡ Some (Field chunk field) → IsPut other chunk field → ⊥
      mixed position other old new = let low = old_field position chunk field old in let is = new.chunk_is in omega (arith, low, is)

      by : Side fold.places added_places a (Field chunk field) → Side fold.places added_places b (Field chunk field) → a ≡ b
      by (stands_in_first low here) (stands_in_first below old) = valid.apart a b chunk field here old
      by (stands_in_first low here) (stands_in_second inner sum new) = absurd (mixed a inner here (put_behind inner chunk field new))
      by (stands_in_second other other_sum there) (stands_in_first below old) = absurd (mixed b other old (put_behind other chunk field there))
      by (stands_in_second other other_sum there) (stands_in_second inner sum new) =
          let one = put_apart (length fold.shapes) added shapes fill other inner chunk field (put_behind other chunk field there) (put_behind inner chunk field new) in
          omega (arith, one, other_sum, sum)

  -- of the fields of one sort those that are taken come first
  new_first : (position chunk field before : ℕ) → IsPut position chunk field → field ≡ before + 1 → IsNext all_shapes chunk before → IsTaken all_places chunk before
  new_first position chunk field before it next (kind, before_is, next_is) =
      let one_kind : kind ≡ chunk_kind it.column.kind = same_Some _ _ (sym next_is ∙ ap (kind_at all_shapes chunk) (sym next) ∙ put_fits position chunk field it) in
      let taken = before_taken (length fold.shapes) added shapes fill position chunk field before it next (sym (new_kind position chunk field before it) ∙ before_is ∙ ap Some one_kind) in
      (length fold.places + taken.0, in_second fold.places added_places (length fold.places + taken.0) taken.0 (Field chunk before) refl taken.1)

  old_first : (column chunk field before : ℕ) → slice_get fold.places column ≡ Some (Field chunk field) → field ≡ before + 1 → IsNext all_shapes chunk before → IsTaken all_places chunk before
  old_first column chunk field before here is (kind, before_is, next_is) =
      let low = old_field column chunk field here in
      let taken = (fields_from fold columns base_len valid).2 column chunk field here before is (kind, sym (old_kind chunk before low) ∙ before_is, sym (old_kind chunk (before + 1) low) ∙ next_is) in
      (taken.0, in_first fold.places added_places taken.0 (Field chunk before) taken.1)

  first_fields : AreFirst all_shapes all_places
  first_fields column chunk field is before next sort = by (place_side column chunk field is)
    where
      by : Side fold.places added_places column (Field chunk field) → IsTaken all_places chunk before
      by (stands_in_first low here) = old_first column chunk field before here next sort
      by (stands_in_second position sum there) = new_first position chunk field before (put_behind position chunk field there) next sort

  pub extension_valid : length fold.shapes + length shapes ≤ 16 → IsValidFold (extended_fold fold (kinds_of added) shapes) (columns ++ added) base_len
  extension_valid few =
      valid_from (extended_fold fold (kinds_of added) shapes) (columns ++ added) base_len (sizes, base_columns) (omega (arith, few, length-append fold.shapes shapes), each_chunk)
      (fit, apart, first_fields)
