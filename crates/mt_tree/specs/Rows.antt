-- The rows of a table, and which lists of rows its columns refuse.
use Rattle.std.specs.Prelude.{◌≡◌, ◌+◌, Bool, true, false, not, ◌&&◌, ◌||◌, nat_le, if◌then◌else◌, List, [], ◌∷◌, ◌++◌, length, map, filter}
use Rattle.std.specs.List.{list_any}
use Rattle.std.specs.Ordering.{is_eq}
use Rattle.mt_value.specs.declared.value.Value.{Value}
use Rattle.mt_value.specs.declared.value.Value.TheVariants.{Text}
use Rattle.mt_value.specs.Order.{is_null, row_order}
use Rattle.mt_tree.specs.declared.schema.Kind.{Kind}
use Rattle.mt_tree.specs.declared.schema.Kind.TheVariants.{Varchar}
use Rattle.mt_tree.specs.declared.schema.Column.{Column}
pub use Rattle.mt_tree.specs.declared.row.MarkedRow.{MarkedRow}
pub use Rattle.mt_tree.specs.declared.row.TableContent.{TableContent}

-- a table in which no row was ever made
abbrev pub no_rows : TableContent
no_rows = record { made = 0; rows = [] }

-- the rows that are visible, in the order of insertion
abbrev pub visible_of : List MarkedRow → List MarkedRow
visible_of rows = filter (λ row. row.visible) rows

-- their values
abbrev pub visible_rows : TableContent → List (List Value)
visible_rows table = map (λ row. row.values) (visible_of table.rows)

-- the table with one visible row more at its end
abbrev pub with_row : TableContent → List Value → TableContent
with_row table values = record { made = table.made + 1; rows = table.rows ++ record { visible = true; values = values } ∷ [] }

-- whether the value is a text of more bytes than the kind allows
abbrev pub is_long : Kind → Value → Bool
is_long (Varchar size) (Text text) = not (nat_le (length text) size)
is_long kind value = false

-- whether the value is NULL where the column is NOT NULL or of the key
abbrev pub is_missing : Column → Value → Bool
is_missing column value = (column.not_null || column.key) && is_null value

-- whether this holds of some column and the value in it
abbrev pub some_value : (Column → Value → Bool) → List Column → List Value → Bool
some_value test (column ∷ columns) (value ∷ values) = test column value || some_value test columns values
some_value test columns values = false

-- the values of the key
abbrev pub key_of : List Column → List Value → List Value
key_of (column ∷ columns) (value ∷ values) = if column.key then value ∷ key_of columns values else key_of columns values
key_of columns values = []

-- whether two of the keys agree in all their values
abbrev pub has_equal_keys : List (List Value) → Bool
has_equal_keys [] = false
has_equal_keys (key ∷ keys) = list_any (λ other. is_eq (row_order key other)) keys || has_equal_keys keys

-- whether a kept row, also in the trashcan, has a text that is longer than its column
abbrev pub has_long_text : List Column → List MarkedRow → Bool
has_long_text columns rows = list_any (λ row. some_value (λ column value. is_long column.kind value) columns row.values) rows

-- whether a kept row, also in the trashcan, has NULL where none may stand
abbrev pub has_null : List Column → List MarkedRow → Bool
has_null columns rows = list_any (λ row. some_value is_missing columns row.values) rows

-- whether two visible rows have the same key, which only a table with key columns can have
abbrev pub has_duplicate_key : List Column → List MarkedRow → Bool
has_duplicate_key columns rows =
    list_any (λ column. column.key) columns && has_equal_keys (map (λ row. key_of columns row.values) (visible_of rows))

-- The rows keep what the table's columns ask: no text is too long and no value missing, also in the
-- trashcan, and no two visible rows have one key.
pub record AreSound (columns : List Column) (rows : List MarkedRow) : Type 0 where
  pub no_long_text : has_long_text columns rows ≡ false
  pub no_null : has_null columns rows ≡ false
  pub no_duplicate_key : has_duplicate_key columns rows ≡ false
