-- What the engine keeps, and the service that it stands for.
use Rattle.std.specs.Prelude.{◌≡◌, ◌≤◌, ℕ, List, [], length, All, Some, slice_index_or, sum_by, unwrap_or}
use Rattle.std.specs.BTreeMap.{is_at}
use Rattle.std.specs.FinMap as finite
use Rattle.std.specs.List.{range_with_len}
use Rattle.std.specs.Map.{lookup}
use Rattle.std.specs.Ordering.{nat_cmp}
use Rattle.mt_tree.specs.declared.row.MarkedRow.{MarkedRow}
use Rattle.mt_tree.specs.declared.schema.Column.{Column}
use Rattle.mt_tree.specs.Rows.{AreSound}
use Rattle.mt_catalog.specs.declared.state.TenantEntry.{TenantEntry}
use Rattle.mt_catalog.specs.declared.state.TenantTable.{TenantTable}
use Rattle.mt_catalog.specs.Rules.{IsCatalogue}
use Rattle.mt_catalog.specs.State.{State, extended_columns, tenant_table}
use Rattle.mt_model.specs.Parts.{ConsistsOf, KeptRows}
use Rattle.mt_model.specs.Service.{Service}
use Rattle.mt_private.specs.declared.plain.Plain.{Plain}

-- the rows of each table by the tenant, as they are kept; a table that is not there yet has none
abbrev pub TableRows : Type 0
TableRows = List (ℕ × List (List MarkedRow))

-- the rows of a tenant's table
abbrev pub rows_in : TableRows → KeptRows
rows_in entries tenant base = slice_index_or (unwrap_or (lookup (is_at (nat_cmp tenant)) entries) []) base []

-- The rows of a table with these columns: each has a value for each column, and they keep what the
-- columns ask.
pub record IsKeptTable (columns : List Column) (rows : List MarkedRow) : Type 0 where
  pub whole : All (λ row. length row.values ≡ length columns) rows
  pub sound : AreSound columns rows

-- A catalogue and rows that stand for a service, so that the tests of one row need not look at the
-- others' texts, and no count outgrows a quota.
pub record AreKept (state : State) (entries : TableRows) (service : Service) : Type 0 where
  pub rules : IsCatalogue state
  pub consists : ConsistsOf service state (rows_in entries)
  pub tables : (tenant base : ℕ) (table : TenantTable) → tenant_table state tenant base ≡ Some table → IsKeptTable (extended_columns state base table.extended) (rows_in entries tenant base)
  pub quotas : (tenant : ℕ) (entry : TenantEntry) → finite.get state.tenants tenant ≡ Some entry → sum_by (λ base. length (rows_in entries tenant base)) (range_with_len 0 (length state.bases)) ≤ entry.quota

-- the engine stands for this service
abbrev pub IsKept : Plain → Service → Type 0
IsKept plain service = AreKept plain.catalog plain.rows.entries service
