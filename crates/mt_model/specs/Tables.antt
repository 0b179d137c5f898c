-- Columns by their names, and whether literals are of their kinds.
use Rattle.std.specs.Prelude.{ℕ, Bool, true, false, ◌&&◌, List, [], ◌∷◌, map, position, Option}
use Rattle.std.specs.Str.{bytes_eq}
use Rattle.mt_value.specs.declared.value.Value.{Value}
use Rattle.mt_value.specs.declared.value.Value.TheVariants as value
use Rattle.mt_tree.specs.declared.schema.Kind.{Kind}
use Rattle.mt_tree.specs.declared.schema.Kind.TheVariants.{Integer, Varchar}
use Rattle.mt_tree.specs.declared.schema.Column.{Column}
use Rattle.mt_tree.specs.declared.expression.Literal.{Literal}
use Rattle.mt_tree.specs.declared.expression.Literal.TheVariants.{Null, Int, Text}

-- the place of the column of that name
abbrev pub column_place : List Column → List ℕ → Option ℕ
column_place columns name = position (λ column. bytes_eq column.name name) columns

-- the names of the columns, in their order
abbrev pub column_names : List Column → List (List ℕ)
column_names columns = map (λ column. column.name) columns

-- the value that a literal writes
abbrev pub value_of : Literal → Value
value_of Null = value.Null
value_of (Int z) = value.Int z
value_of (Text text) = value.Text text

-- NULL is of every kind
abbrev pub is_of_kind : Kind → Literal → Bool
is_of_kind Integer (Text text) = false
is_of_kind (Varchar size) (Int z) = false
is_of_kind kind literal = true

-- whether there is one literal for each column, of its kind
abbrev pub fit_columns : List Column → List Literal → Bool
fit_columns [] [] = true
fit_columns (column ∷ columns) (literal ∷ literals) = is_of_kind column.kind literal && fit_columns columns literals
fit_columns [] (literal ∷ literals) = false
fit_columns (column ∷ columns) [] = false
