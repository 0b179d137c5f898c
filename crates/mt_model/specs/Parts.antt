-- The service as a catalogue and the rows of each tenant's tables.
use Rattle.std.specs.Prelude.{◌≡◌, ℕ, ◌+◌, ◌==◌, ◌&&◌, if◌then◌else◌, true, List, [], ◌∷◌, ◌++◌, length, map, slice_get, slice_set, Option, None, Some}
use Rattle.std.specs.FinMap as finite
use Rattle.mt_value.specs.declared.value.Value.{Value}
use Rattle.mt_tree.specs.declared.command.AdminCmd.{AdminCmd}
use Rattle.mt_tree.specs.declared.command.AdminCmd.TheVariants.{CreateTenant, Extend, SetQuota}
use Rattle.mt_catalog.specs.declared.state.Extension.{Extension}
use Rattle.mt_catalog.specs.declared.state.TenantEntry.{TenantEntry}
use Rattle.mt_catalog.specs.declared.state.TenantTable.{TenantTable}
use Rattle.mt_catalog.specs.State.{State, tenant_table}
use Rattle.mt_schema.specs.Steps as steps
use Rattle.mt_model.specs.Command.{numbered_extension}
use Rattle.mt_model.specs.Database.{Content, MarkedRow, PrivateDatabase, TableContent, with_nulls}
use Rattle.mt_model.specs.Service.{IsInStep, Service, Tenant, catalogue_of}

-- the rows of each tenant's table of each base table, visible and in the trashcan
abbrev pub KeptRows : Type 0
KeptRows = ℕ → ℕ → List MarkedRow

-- The tables of a database hold these rows, and no transaction is open.
pub record HoldsRows (rows : ℕ → List MarkedRow) (database : PrivateDatabase) : Type 0 where
  pub rows_are : (base : ℕ) (content : TableContent) → slice_get database.current base ≡ Some content → content.rows ≡ rows base
  pub none_open : database.saved ≡ None

-- A service with this catalogue, whose tables hold these rows. Its use counts may be any.
pub record ConsistsOf (service : Service) (state : State) (rows : KeptRows) : Type 0 where
  pub in_step : IsInStep service
  pub catalogue : catalogue_of service ≡ state
  pub databases : (number : ℕ) (tenant : Tenant) → finite.get service.tenants number ≡ Some tenant → HoldsRows (rows number) tenant.database
  pub elsewhere : (number base : ℕ) → tenant_table state number base ≡ None → rows number base ≡ []

-- the rows in which those of one table are changed
abbrev pub rows_with : KeptRows → ℕ → ℕ → (List MarkedRow → List MarkedRow) → KeptRows
rows_with rows tenant base change number other = if number == tenant && other == base then change (rows number other) else rows number other

-- the rows with those of an extension's table wider
abbrev pub rows_extended : KeptRows → ℕ → Option (ℕ × Extension) → KeptRows
rows_extended rows tenant None = rows
rows_extended rows tenant (Some found) = rows_with rows tenant found.1.base (map (with_nulls (length found.1.columns)))

-- The rows after a schema step: EXTEND puts NULL for each new column into each row of the table.
abbrev pub rows_after : State → AdminCmd → KeptRows → KeptRows
rows_after state (Extend tenant name) rows = rows_extended rows tenant (numbered_extension state.extensions name)
rows_after state command rows = rows

-- the tenant that a step names
abbrev pub named_tenant : AdminCmd → ℕ
named_tenant (CreateTenant tenant quota) = tenant
named_tenant (Extend tenant name) = tenant
named_tenant (SetQuota tenant quota) = tenant
named_tenant command = 0

-- the table once a further row was made
abbrev pub one_more_made : TenantTable → TenantTable
one_more_made table = record { made = table.made + 1; extended = table.extended; placement = table.placement }

-- the catalogue once a further row of a table was made
abbrev pub made_one : State → ℕ → ℕ → State
made_one state tenant base = steps.with_tenant state tenant (steps.with_table base one_more_made)

-- the rows with a visible one more at the end of a table
abbrev pub rows_inserted : KeptRows → ℕ → ℕ → List Value → KeptRows
rows_inserted rows tenant base values = rows_with rows tenant base (λ kept. kept ++ record { visible = true; values = values } ∷ [])

-- what tables hold from that number on
abbrev pub contents_from : (ℕ → List MarkedRow) → ℕ → List TenantTable → Content
contents_from rows base [] = []
contents_from rows base (table ∷ tables) = record { made = table.made; rows = rows base } ∷ contents_from rows (base + 1) tables

-- The database of a tenant of which this is kept, with these rows.
abbrev pub database_of : (ℕ → List MarkedRow) → TenantEntry → PrivateDatabase
database_of rows entry = record {
  quota = entry.quota;
  extended = map (λ table. table.extended) entry.tables;
  current = contents_from rows 0 entry.tables;
  saved = None;
}

-- the database in which one table holds that
abbrev pub with_content : PrivateDatabase → ℕ → TableContent → PrivateDatabase
with_content database base content = record database { current = slice_set database.current base content }
