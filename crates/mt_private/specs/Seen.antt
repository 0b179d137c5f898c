-- What a tenant sees of what is kept, and how an INSERT changes it.
use Rattle.std.specs.Prelude.{◌≡◌, ℕ, ◌+◌, ◌≤◌, ◌^◌, nat_lt, Bool, true, List, [], ◌∷◌, ◌++◌, length, map, slice_get, slice_index_or, sum_by, unwrap_or, None, Some, Result, Ok, Err}
use Rattle.std.specs.BTreeMap.{is_at}
use Rattle.std.specs.List.{range_with_len}
use Rattle.std.specs.Map.{lookup}
use Rattle.std.specs.Ordering.{nat_cmp}
use Rattle.mt_value.specs.declared.value.Value.{Value}
use Rattle.mt_tree.specs.declared.code.Code.{Code}
use Rattle.mt_tree.specs.declared.code.Code.TheVariants.{TextTooLong, NullNotAllowed, DuplicateKey, QuotaFull, RowNumbersUsedUp}
use Rattle.mt_tree.specs.declared.expression.Literal.{Literal}
use Rattle.mt_tree.specs.declared.row.MarkedRow.{MarkedRow}
use Rattle.mt_tree.specs.declared.schema.Column.{Column}
use Rattle.mt_tree.specs.declared.simple.SimpleStmt.TheVariants.{Insert}
use Rattle.mt_tree.specs.Rows.{has_duplicate_key, has_long_text, has_null}
use Rattle.mt_catalog.specs.declared.state.TenantEntry.{TenantEntry}
use Rattle.mt_catalog.specs.declared.state.TenantTable.{TenantTable}
use Rattle.mt_catalog.specs.State.{State, extended_columns}
use Rattle.mt_schema.specs.Steps.{table_number}
use Rattle.mt_model.specs.Answer.{first_refusal}
use Rattle.mt_model.specs.Database.{PrivateDatabase}
use Rattle.mt_model.specs.Parts.{database_of, rows_inserted}
use Rattle.mt_model.specs.Service.{View}
use Rattle.mt_model.specs.Tables.{value_of}
use Rattle.mt_private.specs.Kept.{IsKeptTable, TableRows, rows_in}

-- the lists of a tenant
abbrev pub lists_of : TableRows → ℕ → List (List MarkedRow)
lists_of entries tenant = unwrap_or (lookup (is_at (nat_cmp tenant)) entries) []

-- the rows of a table among a tenant's lists
abbrev pub list_at : List (List MarkedRow) → ℕ → List MarkedRow
list_at lists base = slice_index_or lists base []

-- how many rows are in the first so many lists
abbrev pub kept_in : List (List MarkedRow) → ℕ → ℕ
kept_in lists count = sum_by (λ base. length (list_at lists base)) (range_with_len 0 count)

-- the database of a tenant, and what it sees
abbrev pub database_in : TenantEntry → List (List MarkedRow) → PrivateDatabase
database_in entry lists = database_of (list_at lists) entry

abbrev pub view_in : State → TenantEntry → List (List MarkedRow) → View
view_in state entry lists = record { tables = state.bases; extensions = state.extensions; database = Some (database_in entry lists) }

-- A tenant's entry and lists, as they are kept.
pub record IsSeen (state : State) (entry : TenantEntry) (lists : List (List MarkedRow)) : Type 0 where
  pub each_base : length entry.tables ≡ length state.bases
  pub tables : (base : ℕ) (table : TenantTable) → slice_get entry.tables base ≡ Some table → IsKeptTable (extended_columns state base table.extended) (list_at lists base)
  pub quota : kept_in lists (length entry.tables) ≤ entry.quota

-- the tests of a row that fits its columns and is to stand behind these rows
abbrev pub row_tests : List Column → List MarkedRow → List Value → ℕ → ℕ → ℕ → List (Code × Bool)
row_tests columns rows values quota kept made =
    let all : List MarkedRow = rows ++ record { visible = true; values = values } ∷ [] in
    (TextTooLong, has_long_text columns all)
    ∷ (NullNotAllowed, has_null columns all)
    ∷ (DuplicateKey, has_duplicate_key columns all)
    ∷ (QuotaFull, nat_lt quota (kept + 1))
    ∷ (RowNumbersUsedUp, nat_lt (2 ^ 63) (made + 1)) ∷ []

-- an INSERT is refused by this code, or this row of this table may be inserted
abbrev pub IsChecked : View → PrivateDatabase → List ℕ → List Literal → Result (ℕ × List Value) Code → Type 0
IsChecked view database table values (Err code) = first_refusal view database (Insert table values) ≡ Some code
IsChecked view database table values (Ok row) = (first_refusal view database (Insert table values) ≡ None) × (table_number view.tables table ≡ Some row.0) × (row.1 ≡ map value_of values)

-- each table has the rows that it had
abbrev pub KeepsRows : TableRows → TableRows → Type 0
KeepsRows old new = (tenant base : ℕ) → rows_in new tenant base ≡ rows_in old tenant base

-- one table has a visible row more
abbrev pub AddsRow : ℕ → ℕ → List Value → TableRows → TableRows → Type 0
AddsRow tenant base values old new = (number other : ℕ) → rows_in new number other ≡ rows_inserted (rows_in old) tenant base values number other
