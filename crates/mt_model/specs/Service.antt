-- The service: what the database is for all its tenants together, and what one tenant sees of it.
use Rattle.std.specs.Prelude.{◌≡◌, ℕ, List, [], ◌∷◌, length, Option, Some, None, option_map}
use Rattle.std.specs.Ordering.{nat_cmp}
use Rattle.std.specs.FinMap as finite
use Rattle.std.specs.FinMap.{FinMap}
use Rattle.mt_tree.specs.declared.schema.Table.{Table}
use Rattle.mt_fold.specs.declared.fold.Placement.{Placement}
use Rattle.mt_catalog.specs.declared.state.Extension.{Extension}
use Rattle.mt_catalog.specs.declared.state.TenantEntry.{TenantEntry}
use Rattle.mt_catalog.specs.declared.state.TenantTable.{TenantTable}
use Rattle.mt_catalog.specs.State.{State}
use Rattle.mt_schema.specs.Steps.{in_each}
use Rattle.mt_model.specs.Database.{Content, PrivateDatabase, kept_rows}

-- A tenant: its private database and, for each base table, how the rows lie on the disk and how often
-- each column was used.
pub record Tenant : Type 0 where
  pub database : PrivateDatabase
  pub placements : List Placement
  pub used : List (List ℕ)

-- what all tenants share, and each tenant by its number
pub record Service : Type 0 where
  -- the base tables, in the order in which they were made
  pub tables : List Table
  -- the extensions, in the order in which they were made
  pub extensions : List Extension
  pub tenants : FinMap nat_cmp Tenant

-- what one tenant sees: base tables and extensions, and its own database where it is a tenant
pub record View : Type 0 where
  pub tables : List Table
  pub extensions : List Extension
  pub database : Option PrivateDatabase

-- the service at first
unfoldable pub empty_service : Service
empty_service = record { tables = []; extensions = []; tenants = finite.empty }

-- what the tenant of that number sees
abbrev pub view_of : Service → ℕ → View
view_of service tenant = record {
  tables = service.tables;
  extensions = service.extensions;
  database = option_map (λ tenant. tenant.database) (finite.get service.tenants tenant);
}

-- the service in which a tenant that is there is changed
abbrev pub with_tenant : Service → ℕ → (Tenant → Tenant) → Service
with_tenant service tenant change =
    elim (finite.get service.tenants tenant) [
      | None ↦ service
      | Some kept ↦ record service { tenants = finite.insert service.tenants tenant (change kept) }
    ]

-- the service in which the tenant has this database, where there is one
abbrev pub put_database : Service → ℕ → Option PrivateDatabase → Service
put_database service tenant None = service
put_database service tenant (Some database) = with_tenant service tenant (λ kept. record kept { database = database })

-- how many rows are kept of a tenant
abbrev pub kept_of : Service → ℕ → ℕ
kept_of service tenant = elim (finite.get service.tenants tenant) [ None ↦ 0 | Some kept ↦ kept_rows kept.database ]

-- a tenant's tables: how many rows were made, the extensions, and how the rows lie
abbrev pub entry_tables : Content → List (List ℕ) → List Placement → List TenantTable
entry_tables (content ∷ contents) (numbers ∷ extended) (placement ∷ placements) =
    record { made = content.made; extended = numbers; placement = placement } ∷ entry_tables contents extended placements
entry_tables contents extended placements = []

-- what the catalogue keeps of a tenant
abbrev pub entry_of : Tenant → TenantEntry
entry_of tenant = record { quota = tenant.database.quota; tables = entry_tables tenant.database.current tenant.database.extended tenant.placements }

-- what the catalogue is of the service: all but its rows and use counts
abbrev pub catalogue_of : Service → State
catalogue_of service = record { bases = service.tables; extensions = service.extensions; tenants = in_each entry_of service.tenants }

-- A tenant has as many of each as there are base tables.
pub record HasEach (count : ℕ) (tenant : Tenant) : Type 0 where
  pub extended : length tenant.database.extended ≡ count
  pub current : length tenant.database.current ≡ count
  pub placements : length tenant.placements ≡ count
  pub used : length tenant.used ≡ count

-- what is kept of each tenant is in step with the base tables
abbrev pub IsInStep : Service → Type 0
IsInStep service = (number : ℕ) (tenant : Tenant) → finite.get service.tenants number ≡ Some tenant → HasEach (length service.tables) tenant
