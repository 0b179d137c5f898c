-- What a command of the administrator is answered, and what it does.
use Rattle.std.specs.Prelude.{ℕ, List, [], ◌∷◌, ◌++◌, length, map, replicate, slice_get, slice_index_or, slice_set, Option, Some, None, option_map}
use Rattle.std.specs.FinMap as finite
use Rattle.mt_tree.specs.declared.code.Code.{Code}
use Rattle.mt_tree.specs.declared.command.AdminCmd.{AdminCmd}
use Rattle.mt_tree.specs.declared.command.AdminCmd.TheVariants.{CreateTable, CreateExtension, CreateTenant, Extend, SetQuota}
use Rattle.mt_tree.specs.declared.schema.Table.{Table}
use Rattle.mt_fold.specs.declared.fold.Placement.{Placement}
use Rattle.mt_fold.specs.declared.fold.Placement.TheVariants.{Settled}
use Rattle.mt_catalog.specs.declared.state.Extension.{Extension}
use Rattle.mt_schema.specs.Refusals.{step_refusal}
use Rattle.mt_schema.specs.Steps.{defined_extension, defined_table, extended_placement, extension_number, in_each, new_placement}
use Rattle.mt_model.specs.Database.{new_database, with_extension, with_quota, with_table}
use Rattle.mt_model.specs.Service.{Service, Tenant, View, catalogue_of, kept_of, with_tenant}

-- the first refusal of a command, or none
abbrev pub command_refusal : Service → AdminCmd → Option Code
command_refusal service command = step_refusal (catalogue_of service) (kept_of service) command

-- no column of a table was used yet
abbrev pub unused : Table → List ℕ
unused table = replicate (length table.columns) 0

-- a tenant with one more table
abbrev pub with_new_table : Table → Tenant → Tenant
with_new_table table tenant = record {
  database = with_table tenant.database;
  placements = tenant.placements ++ new_placement table ∷ [];
  used = tenant.used ++ unused table ∷ [];
}

-- a tenant without a row
abbrev pub new_tenant : List Table → ℕ → Tenant
new_tenant tables quota = record { database = new_database tables quota; placements = map new_placement tables; used = map unused tables }

-- a fold without columns
abbrev pub no_placement : Placement
no_placement = Settled 0 (record { shapes = []; places = [] })

-- A tenant with an extension: its columns are NULL in each row of their table, lie in the cheapest
-- chunks, and were not used yet.
abbrev pub extended_tenant : ℕ → Extension → Tenant → Tenant
extended_tenant number extension tenant = record {
  database = with_extension number extension tenant.database;
  placements = slice_set tenant.placements extension.base (extended_placement extension.columns (slice_index_or tenant.placements extension.base no_placement));
  used = slice_set tenant.used extension.base (slice_index_or tenant.used extension.base [] ++ replicate (length extension.columns) 0);
}

-- the extension of that name, with its number
abbrev pub numbered_extension : List Extension → List ℕ → Option (ℕ × Extension)
numbered_extension extensions name =
    elim (extension_number extensions name) [ None ↦ None | Some number ↦ option_map (λ extension. (number, extension)) (slice_get extensions number) ]

-- the service after a command that is not refused
abbrev pub applied : Service → AdminCmd → Service
applied service (CreateTable name columns key) = record service {
  tables = service.tables ++ defined_table name columns key ∷ [];
  tenants = in_each (with_new_table (defined_table name columns key)) service.tenants;
}
applied service (CreateExtension name base columns) = record service { extensions = service.extensions ++ defined_extension service.tables name base columns ∷ [] }
applied service (CreateTenant tenant quota) = record service { tenants = finite.insert service.tenants tenant (new_tenant service.tables quota) }
applied service (Extend tenant name) =
    elim (numbered_extension service.extensions name) [ None ↦ service | Some found ↦ with_tenant service tenant (extended_tenant found.0 found.1) ]
applied service (SetQuota tenant quota) = with_tenant service tenant (λ kept. record kept { database = with_quota quota kept.database })
applied service command = service

-- what a tenant sees after an accepted command that bears on it
abbrev pub applied_view : View → AdminCmd → View
applied_view view (CreateTable name columns key) = record view {
  tables = view.tables ++ defined_table name columns key ∷ [];
  database = option_map with_table view.database;
}
applied_view view (CreateExtension name base columns) = record view { extensions = view.extensions ++ defined_extension view.tables name base columns ∷ [] }
applied_view view (CreateTenant tenant quota) = record view { database = Some (new_database view.tables quota) }
applied_view view (Extend tenant name) =
    elim (numbered_extension view.extensions name) [ None ↦ view | Some found ↦ record view { database = option_map (with_extension found.0 found.1) view.database } ]
applied_view view (SetQuota tenant quota) = record view { database = option_map (with_quota quota) view.database }
applied_view view command = view
