-- The parts of what a valid fold is, each of which one test decides.
use Rattle.std.specs.Prelude.{◌≡◌, ℕ, ◌+◌, ◌<◌, ◌≤◌, List, length, slice_get, option_and_then, Option, Some}
use Rattle.mt_codec.specs.declared.field.FieldKind.{FieldKind}
use Rattle.mt_tree.specs.declared.schema.Column.{Column}
use Rattle.mt_fold.specs.declared.fold.Place.{Place}
use Rattle.mt_fold.specs.declared.fold.Place.TheVariants.{Conv, Field}
use Rattle.mt_fold.specs.declared.shape.Shape.{Shape}
use Rattle.mt_fold.specs.Shapes.{chunk_kind, fields_of}

-- what a field of a chunk holds, if there is one
abbrev pub kind_at : List Shape → ℕ → ℕ → Option FieldKind
kind_at shapes chunk field = option_and_then (λ shape. slice_get (fields_of shape) field) (slice_get shapes chunk)

-- one of the places is that field
abbrev pub IsTaken : List Place → ℕ → ℕ → Type 0
IsTaken places chunk field = (column : ℕ) × (slice_get places column ≡ Some (Field chunk field))

-- only base columns lie in the conventional row
abbrev pub AreBase : List Place → ℕ → Type 0
AreBase places base_len = (column : ℕ) → slice_get places column ≡ Some Conv → column < base_len

-- so many columns have one place each, and only base columns lie in the conventional row
abbrev pub ArePlaced : List Place → ℕ → ℕ → Type 0
ArePlaced places len base_len = (length places ≡ len) × AreBase places base_len

-- a column lies in that chunk
abbrev pub HasColumn : List Place → ℕ → Type 0
HasColumn places chunk = (field : ℕ) × IsTaken places chunk field

-- a column lies in each of so many chunks
abbrev pub HaveColumns : ℕ → List Place → Type 0
HaveColumns len places = (chunk : ℕ) → chunk < len → HasColumn places chunk

-- there are at most 16 chunks, each with a column
abbrev pub AreChunks : List Shape → List Place → Type 0
AreChunks shapes places = (length shapes ≤ 16) × HaveColumns (length shapes) places

-- each column in a chunk lies in a field of its kind
abbrev pub Fit : List Shape → List Place → List Column → Type 0
Fit shapes places columns = (position : ℕ) (column : Column) (chunk field : ℕ) → slice_get columns position ≡ Some column → slice_get places position ≡ Some (Field chunk field)
    → kind_at shapes chunk field ≡ Some (chunk_kind column.kind)

-- no field holds two columns
abbrev pub AreApart : List Place → Type 0
AreApart places = (a b chunk field : ℕ) → slice_get places a ≡ Some (Field chunk field) → slice_get places b ≡ Some (Field chunk field) → a ≡ b

-- a field of a chunk and the one behind it are of one kind
abbrev pub IsNext : List Shape → ℕ → ℕ → Type 0
IsNext shapes chunk before = (kind : FieldKind) × (kind_at shapes chunk before ≡ Some kind) × (kind_at shapes chunk (before + 1) ≡ Some kind)

-- a field is the first of its sort in its chunk, or the one before it is taken
abbrev pub Follows : List Shape → List Place → ℕ → ℕ → Type 0
Follows shapes places chunk field = (before : ℕ) → field ≡ before + 1 → IsNext shapes chunk before → IsTaken places chunk before

-- each field that is taken is the first of its sort, or the one before it is taken too
abbrev pub AreFirst : List Shape → List Place → Type 0
AreFirst shapes places = (column chunk field : ℕ) → slice_get places column ≡ Some (Field chunk field) → Follows shapes places chunk field

-- the columns in chunks lie in fields of their kinds and of their own, the first of each sort
abbrev pub AreFields : List Shape → List Place → List Column → Type 0
AreFields shapes places columns = Fit shapes places columns × AreApart places × AreFirst shapes places
