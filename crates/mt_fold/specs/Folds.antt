-- Folds: in which chunk and field each column of a table lies, or in its conventional row.
use Rattle.std.specs.Prelude.{◌≡◌, ℕ, ◌<◌, ◌≤◌, List, length, slice_get, slice_index_or, Some}
use Rattle.mt_codec.specs.declared.field.FieldKind.{FieldKind}
use Rattle.mt_tree.specs.declared.schema.Column.{Column}
use Rattle.mt_fold.specs.declared.fold.Fold.{Fold}
use Rattle.mt_fold.specs.declared.fold.Place.{Place}
use Rattle.mt_fold.specs.declared.fold.Place.TheVariants.{Conv, Field}
use Rattle.mt_fold.specs.declared.shape.Shape.{Shape}
use Rattle.mt_fold.specs.Shapes.{chunk_kind, fields_of}

-- the place of a column; one that the fold does not know lies in the conventional row
abbrev pub place_in : Fold → ℕ → Place
place_in fold column = slice_index_or fold.places column Conv

-- a column lies in that field
abbrev pub IsUsed : Fold → ℕ → ℕ → Type 0
IsUsed fold chunk field = (column : ℕ) × (slice_get fold.places column ≡ Some (Field chunk field))

-- A chunk of the fold has that field, and this is what it holds.
pub record IsField (fold : Fold) (chunk field : ℕ) (kind : FieldKind) : Type 0 where
  pub shape : Shape
  pub chunk_is : slice_get fold.shapes chunk ≡ Some shape
  pub field_is : slice_get (fields_of shape) field ≡ Some kind

-- A fold fits columns, the first so many of which are the base table's.
pub record IsValidFold (fold : Fold) (columns : List Column) (base_len : ℕ) : Type 0 where
  -- each column has one place
  pub each_column : length fold.places ≡ length columns
  -- only base columns lie in the conventional row
  pub base_columns : (column : ℕ) → slice_get fold.places column ≡ Some Conv → column < base_len
  pub few_chunks : length fold.shapes ≤ 16
  -- each chunk has a column
  pub each_chunk : (chunk : ℕ) → chunk < length fold.shapes → (field : ℕ) × IsUsed fold chunk field
  -- each column in a chunk lies in a field of its kind
  pub fields : (position : ℕ) (column : Column) (chunk field : ℕ) → slice_get columns position ≡ Some column → slice_get fold.places position ≡ Some (Field chunk field)
      → IsField fold chunk field (chunk_kind column.kind)
  -- no field holds two columns
  pub apart : (a b chunk field : ℕ) → slice_get fold.places a ≡ Some (Field chunk field) → slice_get fold.places b ≡ Some (Field chunk field) → a ≡ b
  -- of the fields of one sort in a chunk those that are used come first
  pub first_fields : (chunk field earlier : ℕ) (kind : FieldKind) → IsUsed fold chunk field → IsField fold chunk field kind → earlier < field → IsField fold chunk earlier kind → IsUsed fold chunk earlier
