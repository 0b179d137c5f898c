-- What a tenant's statement is answered, and what it does to the tenant's database.
use Rattle.std.specs.Prelude.{ℕ, ◌+◌, ◌^◌, Bool, true, not, nat_lt, if◌then◌else◌, List, [], ◌∷◌, ◌++◌, length, map, flat_map, slice_set, slice_index_or, Option, Some, None, is_some, unwrap_or, codes, decimal}
use Rattle.std.specs.List.{list_all, join_with_byte}
use Rattle.mt_value.specs.declared.value.Value.{Value}
use Rattle.mt_value.specs.declared.value.Value.TheVariants as value
use Rattle.mt_value.specs.Printed.{value_text}
use Rattle.mt_value.specs.Sorted.{in_row_order}
use Rattle.mt_tree.specs.declared.code.Code.{Code}
use Rattle.mt_tree.specs.declared.code.Code.TheVariants.{UnknownTenant, Syntax, NotServed, NumberOutside64Bits, UnknownTable, UnknownColumn, TypesDoNotFit, TextTooLong, NullNotAllowed, DuplicateKey, QuotaFull, RowNumbersUsedUp}
use Rattle.mt_tree.specs.declared.reply.Reply.{Reply}
use Rattle.mt_tree.specs.declared.reply.Reply.TheVariants.{Text, Refused}
use Rattle.mt_tree.specs.declared.schema.Column.{Column}
use Rattle.mt_tree.specs.declared.expression.Literal.{Literal}
use Rattle.mt_tree.specs.declared.simple.SimpleStmt.{SimpleStmt}
use Rattle.mt_tree.specs.declared.simple.SimpleStmt.TheVariants.{Insert, Select}
use Rattle.mt_tree.specs.Rows.{has_duplicate_key, has_long_text, has_null}
use Rattle.mt_catalog.specs.Found.{columns_among}
use Rattle.mt_schema.specs.Refusals.{first_holding}
use Rattle.mt_schema.specs.Steps.{table_number}
use Rattle.mt_model.specs.Database.{TableContent, PrivateDatabase, no_rows, kept_rows, visible_rows, with_row}
use Rattle.mt_model.specs.Tables.{column_place, column_names, value_of, fit_columns}
use Rattle.mt_model.specs.Said.{Said, Unread, Outside, Unserved, Says}
use Rattle.mt_model.specs.Service.{View}

-- the columns of the tenant's table of a base table: its own, and then those of the extensions
abbrev pub columns_of : View → PrivateDatabase → ℕ → List Column
columns_of view database number = columns_among view.tables view.extensions number (slice_index_or database.extended number [])

-- what the table of that number holds
abbrev pub content_of : PrivateDatabase → ℕ → TableContent
content_of database number = slice_index_or database.current number no_rows

-- the table of that number with the row that literals write
abbrev pub inserted : PrivateDatabase → ℕ → List Literal → TableContent
inserted database number literals = with_row (content_of database number) (map value_of literals)

-- The tests of an INSERT of one row, in the order in which they are asked: three of them look at all
-- rows that the table would have.
abbrev pub insert_tests : List Column → PrivateDatabase → ℕ → List Literal → List (Code × Bool)
insert_tests columns database number literals =
    (TypesDoNotFit, not (fit_columns columns literals))
    ∷ (TextTooLong, has_long_text columns (inserted database number literals).rows)
    ∷ (NullNotAllowed, has_null columns (inserted database number literals).rows)
    ∷ (DuplicateKey, has_duplicate_key columns (inserted database number literals).rows)
    ∷ (QuotaFull, nat_lt database.quota (kept_rows database + 1))
    ∷ (RowNumbersUsedUp, nat_lt (2 ^ 63) ((content_of database number).made + 1)) ∷ []

-- the tests of a SELECT
abbrev pub select_tests : List Column → List (List ℕ) → List (Code × Bool)
select_tests columns names = (UnknownColumn, not (list_all (λ name. is_some (column_place columns name)) names)) ∷ []

-- the tests of a statement on the table of that number
abbrev pub tests_at : View → PrivateDatabase → SimpleStmt → ℕ → List (Code × Bool)
tests_at view database (Insert table values) number = insert_tests (columns_of view database number) database number values
tests_at view database (Select table columns) number = select_tests (columns_of view database number) columns

-- the table that a statement names
abbrev pub table_of : SimpleStmt → List ℕ
table_of (Insert table values) = table
table_of (Select table columns) = table

-- the tests of a statement; a table that is not there is refused first
abbrev pub tests_of : View → PrivateDatabase → SimpleStmt → List (Code × Bool)
tests_of view database statement =
    elim (table_number view.tables (table_of statement)) [
      | None ↦ (UnknownTable, true) ∷ []
      | Some number ↦ tests_at view database statement number
    ]

-- the first refusal, or none
abbrev pub first_refusal : View → PrivateDatabase → SimpleStmt → Option Code
first_refusal view database statement = first_holding (tests_of view database statement)

-- the number of the statement's table, where nothing is refused
abbrev pub number_of : View → SimpleStmt → ℕ
number_of view statement = unwrap_or (table_number view.tables (table_of statement)) 0

-- the places of the columns that are asked for, in the order asked; all of them for a star
abbrev pub places_of : List Column → List (List ℕ) → List ℕ
places_of columns names = map (λ name. unwrap_or (column_place columns name) 0) (if nat_lt 0 (length names) then names else column_names columns)

-- the values at these places
abbrev pub projected : List ℕ → List Value → List Value
projected places row = map (λ place. slice_index_or row place value.Null) places

-- the rows that a SELECT prints, in the order printed
abbrev pub selected : View → PrivateDatabase → ℕ → List (List ℕ) → List (List Value)
selected view database number names = in_row_order (map (projected (places_of (columns_of view database number) names)) (visible_rows (content_of database number)))

-- a line of the values, with bars between
abbrev pub row_line : List Value → List ℕ
row_line row = join_with_byte 124 (map value_text row) ++ 10 ∷ []

-- the names, the rows, and how many they are
abbrev pub select_text : List (List ℕ) → List (List Value) → List ℕ
select_text names rows = codes "columns " ++ join_with_byte 124 names ++ 10 ∷ (flat_map row_line rows ++ codes "ok " ++ decimal (length rows) ++ 10 ∷ [])

-- the names in the head of a result: those asked for, or those of all columns
abbrev pub output_names : List Column → List (List ℕ) → List (List ℕ)
output_names columns names = if nat_lt 0 (length names) then names else column_names columns

-- what a statement is answered that is not refused
abbrev pub reply_text : View → PrivateDatabase → SimpleStmt → List ℕ
reply_text view database (Insert table values) = codes "ok 1\n"
reply_text view database (Select table columns) =
    let number = number_of view (Select table columns) in
    select_text (output_names (columns_of view database number) columns) (selected view database number columns)

-- the database after a statement that is not refused
abbrev pub changed : View → PrivateDatabase → SimpleStmt → PrivateDatabase
changed view database (Insert table values) =
    let number = number_of view (Insert table values) in
    record database { current = slice_set database.current number (inserted database number values) }
changed view database (Select table columns) = database

-- the answer to a statement, for a tenant that is there
abbrev pub answer_within : View → PrivateDatabase → SimpleStmt → Reply
answer_within view database statement =
    elim (first_refusal view database statement) [
      | None ↦ Text (reply_text view database statement)
      | Some code ↦ Refused code
    ]

-- the database after a statement, for a tenant that is there: a refusal leaves it as it is
abbrev pub next_within : View → PrivateDatabase → SimpleStmt → PrivateDatabase
next_within view database statement =
    elim (first_refusal view database statement) [
      | None ↦ changed view database statement
      | Some code ↦ database
    ]

-- the answer to what a line says, for a tenant that is there
abbrev pub answer_said : View → PrivateDatabase → Said SimpleStmt → Reply
answer_said view database Unread = Refused Syntax
answer_said view database Outside = Refused NumberOutside64Bits
answer_said view database Unserved = Refused NotServed
answer_said view database (Says statement) = answer_within view database statement

-- the database after what a line says, for a tenant that is there
abbrev pub next_said : View → PrivateDatabase → Said SimpleStmt → PrivateDatabase
next_said view database Unread = database
next_said view database Outside = database
next_said view database Unserved = database
next_said view database (Says statement) = next_within view database statement

-- the answer to what a tenant's line says; there must be such a tenant
abbrev pub answer : View → Said SimpleStmt → Reply
answer view said = elim view.database [ None ↦ Refused UnknownTenant | Some database ↦ answer_said view database said ]

-- the tenant's database after the line, where there is such a tenant
abbrev pub next_database : View → Said SimpleStmt → Option PrivateDatabase
next_database view said = elim view.database [ None ↦ None | Some database ↦ Some (next_said view database said) ]

-- what the tenant sees after its line
abbrev pub next_view : View → Said SimpleStmt → View
next_view view said = record view { database = next_database view said }
