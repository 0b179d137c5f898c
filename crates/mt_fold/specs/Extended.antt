-- How columns are put into chunks, and a fold to which chunks are added for more columns.
use Rattle.std.specs.Prelude.{◌≡◌, ℕ, ◌+◌, ◌<◌, ◌≤◌, List, [], ◌∷◌, ◌++◌, length, map, take, filter_map, count_by, zip, if◌then◌else◌, slice_get, slice_index_or, Some, None}
use Rattle.std.specs.List.{range_with_len}
use Rattle.mt_codec.specs.declared.field.FieldKind.{FieldKind}
use Rattle.mt_codec.specs.declared.field.FieldKind.TheVariants.{Int}
use Rattle.mt_tree.specs.declared.schema.Column.{Column}
use Rattle.mt_fold.specs.declared.fold.Fold.{Fold}
use Rattle.mt_fold.specs.declared.fold.Place.{Place}
use Rattle.mt_fold.specs.declared.fold.Place.TheVariants.{Conv, Field}
use Rattle.mt_fold.specs.declared.shape.Shape.{Shape}
use Rattle.mt_fold.specs.Shapes.{chunk_kind, fields_of, same_sort}

-- the fields in which some columns lie, by their kinds
abbrev pub kinds_of : List Column → List FieldKind
kinds_of columns = map (λ column. chunk_kind column.kind) columns

-- the places of this sort in a chunk of a shape
abbrev pub places_in : FieldKind → ℕ → Shape → List Place
places_in kind chunk shape =
    filter_map (λ f. if same_sort kind f.1 then Some (Field chunk f.0) else None) (zip (range_with_len 0 (length (fields_of shape))) (fields_of shape))

-- the places of this sort in chunks of these shapes, the first of which has this number
abbrev pub places_from : FieldKind → ℕ → List Shape → List Place
places_from kind chunk [] = []
places_from kind chunk (shape ∷ shapes) = places_in kind chunk shape ++ places_from kind (chunk + 1) shapes

-- The place of one of the columns: each takes the first of its sort that no column before it took.
abbrev pub place_taken : ℕ → List Shape → List FieldKind → ℕ → Place
place_taken first shapes kinds column =
    let kind : FieldKind = slice_index_or kinds column Int in
    slice_index_or (places_from kind first shapes) (count_by (same_sort kind) (take column kinds)) Conv

-- the places of all of them
abbrev pub places_taken : ℕ → List Shape → List FieldKind → List Place
places_taken first shapes kinds = map (place_taken first shapes kinds) (range_with_len 0 (length kinds))

-- a fold with chunks of these shapes behind its own, which hold further columns of these kinds
abbrev pub extended_fold : Fold → List FieldKind → List Shape → Fold
extended_fold fold kinds shapes = record { shapes = fold.shapes ++ shapes; places = fold.places ++ places_taken (length fold.shapes) shapes kinds }

-- There is a place for each of the columns, and each chunk gets one.
pub record FillShapes (kinds : List FieldKind) (shapes : List Shape) : Type 0 where
  pub room : (kind : FieldKind) → count_by (same_sort kind) kinds ≤ length (places_from kind 0 shapes)
  pub each_chunk : (chunk : ℕ) → chunk < length shapes → (column field : ℕ) × (slice_get (places_taken 0 shapes kinds) column ≡ Some (Field chunk field))
