-- How a fold is printed.
use Rattle.std.specs.Prelude.{ℕ, ◌==◌, ◌&&◌, Bool, true, false, List, [], ◌∷◌, ◌++◌, codes, length, map, filter, flat_map, zip}
use Rattle.std.specs.List.{join_by, range_with_len}
use Rattle.mt_tree.specs.declared.schema.Column.{Column}
use Rattle.mt_fold.specs.declared.fold.Fold.{Fold}
use Rattle.mt_fold.specs.declared.fold.Place.{Place}
use Rattle.mt_fold.specs.declared.fold.Place.TheVariants.{Conv, Field}
use Rattle.mt_fold.specs.declared.shape.Shape.{Shape}
use Rattle.mt_fold.specs.declared.shape.Shape.TheVariants.{C1, C2, C3, C4, C5, C6}
use Rattle.mt_fold.specs.Shapes.{fields_of}

-- the name of a shape
abbrev pub shape_name : Shape → List ℕ
shape_name C1 = codes "C1"
shape_name C2 = codes "C2"
shape_name C3 = codes "C3"
shape_name C4 = codes "C4"
shape_name C5 = codes "C5"
shape_name C6 = codes "C6"

-- whether a place is this one
abbrev pub is_place : Place → Place → Bool
is_place Conv Conv = true
is_place (Field chunk field) (Field other at) = (chunk == other) && (field == at)
is_place place other = false

-- the names of the columns that lie at a place, in the order of the table
abbrev pub names_at : Fold → List Column → Place → List (List ℕ)
names_at fold columns place = map (λ c. c.1.name) (filter (λ c. is_place place c.0) (zip fold.places columns))

-- names behind a word, in brackets
abbrev pub group_text : List ℕ → List (List ℕ) → List ℕ
group_text word names = word ++ codes " (" ++ join_by (λ name. name) (codes ", ") names ++ codes ")"

-- the names of the columns of a chunk, in the order of its fields
abbrev pub chunk_names : Fold → List Column → ℕ → Shape → List (List ℕ)
chunk_names fold columns chunk shape = flat_map (λ field. names_at fold columns (Field chunk field)) (range_with_len 0 (length (fields_of shape)))

-- the part of the columns in the conventional row; there is none where no column lies there
abbrev pub conv_part : List (List ℕ) → List (List ℕ)
conv_part [] = []
conv_part (name ∷ names) = group_text (codes "CONV") (name ∷ names) ∷ []

-- the part of each chunk, in the order of their numbers
abbrev pub chunk_parts : Fold → List Column → List (List ℕ)
chunk_parts fold columns =
    map (λ c. group_text (shape_name c.1) (chunk_names fold columns c.0 c.1)) (zip (range_with_len 0 (length fold.shapes)) fold.shapes)

-- the columns in the conventional row, and then each chunk with its columns
abbrev pub fold_text : Fold → List Column → List ℕ
fold_text fold columns = join_by (λ part. part) (codes ", ") (conv_part (names_at fold columns Conv) ++ chunk_parts fold columns)
