-- The catalogue as a value: the base tables and extensions in the order of their creation, and what is
-- kept of each tenant.
use Rattle.std.specs.Prelude.{ℕ, List, [], ◌++◌, flat_map, slice_get, Option, None, Some}
use Rattle.std.specs.Ordering.{nat_cmp}
use Rattle.std.specs.FinMap as finite
use Rattle.mt_tree.specs.declared.schema.Column.{Column}
use Rattle.mt_tree.specs.declared.schema.Table.{Table}
use Rattle.mt_catalog.specs.declared.state.Extension.{Extension}
use Rattle.mt_catalog.specs.declared.state.TenantEntry.{TenantEntry}
use Rattle.mt_catalog.specs.declared.state.TenantTable.{TenantTable}

-- Base tables and extensions at their numbers from 0 on, and what is kept of each tenant by its number.
pub record State : Type 0 where
  -- the base tables, each with its own columns alone
  pub bases : List Table
  pub extensions : List Extension
  pub tenants : finite.FinMap nat_cmp TenantEntry

-- the catalogue of an empty disk
unfoldable pub empty_state : State
empty_state = record { bases = []; extensions = []; tenants = finite.empty }

-- the columns of a base table; none where it is not there
abbrev pub base_columns : Option Table → List Column
base_columns None = []
base_columns (Some table) = table.columns

-- the columns of an extension; none where it is not there
abbrev pub extension_columns : Option Extension → List Column
extension_columns None = []
extension_columns (Some extension) = extension.columns

-- the columns of a base table, and then those of these extensions in their order
abbrev pub extended_columns : State → ℕ → List ℕ → List Column
extended_columns state base extensions =
    base_columns (slice_get state.bases base) ++ flat_map (λ extension. extension_columns (slice_get state.extensions extension)) extensions

-- the table of that base table that the tenant has
abbrev pub table_in : ℕ → Option TenantEntry → Option TenantTable
table_in base None = None
table_in base (Some entry) = slice_get entry.tables base

-- the table of a tenant
abbrev pub tenant_table : State → ℕ → ℕ → Option TenantTable
tenant_table state tenant base = table_in base (finite.get state.tenants tenant)
