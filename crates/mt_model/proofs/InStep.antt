-- What is kept of each tenant stays in step with the base tables.
use Rattle.std.proofs.Common.{◌≡◌, ℕ, ◌+◌, ◌==◌, Bool, true, false, cond, List, [], ◌∷◌, ◌++◌, length, Option, Some, None, refl, sym, ap, ◌∙◌, subst}
use Rattle.std.specs.Prelude.{option_map}
use Rattle.std.specs.FinMap as finite
use Rattle.std.proofs.lemmas.List.{length-append, length-map, length-set}
use Rattle.mt_tree.specs.declared.schema.Table.{Table}
use Rattle.mt_tree.specs.declared.command.AdminCmd.{AdminCmd}
use Rattle.mt_tree.specs.declared.command.AdminCmd.TheVariants.{CreateTable, CreateExtension, CreateTenant, Extend, SetQuota}
use Rattle.mt_catalog.specs.declared.state.Extension.{Extension}
use Rattle.mt_schema.specs.Steps.{defined_table, in_each, new_placement}
use Rattle.mt_schema.proofs.Maps.{get-in_each, get-insert}
use Rattle.mt_model.specs.Command.{applied, extended_tenant, new_tenant, numbered_extension, unused, with_new_table}
use Rattle.mt_model.specs.Database.{no_rows, with_quota}
use Rattle.mt_model.specs.Laws.{changed_where, service_with, with_database, with_tenant-kept}
use Rattle.mt_model.specs.Service.{HasEach, IsInStep, Service, Tenant, with_tenant}

-- one member more
length-pushed : {A : Type 0} (xs : List A) (x : A) (count : ℕ) → length xs ≡ count → length (xs ++ x ∷ []) ≡ count + 1
length-pushed xs x count e = length-append xs (x ∷ []) ∙ ap (λ n. n + 1) e

-- a tenant with one table more
table-each : (count : ℕ) (table : Table) (kept : Tenant) → HasEach count kept → HasEach (count + 1) (with_new_table table kept)
table-each count table kept each = record {
  extended = length-pushed kept.database.extended [] count each.extended;
  current = length-pushed kept.database.current no_rows count each.current;
  placements = length-pushed kept.placements (new_placement table) count each.placements;
  used = length-pushed kept.used (unused table) count each.used;
}

-- a new tenant
new-each : (tables : List Table) (quota : ℕ) → HasEach (length tables) (new_tenant tables quota)
new-each tables quota = record {
  extended = length-map tables _;
  current = length-map tables _;
  placements = length-map tables _;
  used = length-map tables _;
}

-- a tenant with an extension
extended-each : (count number : ℕ) (extension : Extension) (kept : Tenant) → HasEach count kept → HasEach count (extended_tenant number extension kept)
extended-each count number extension kept each = record {
  extended = length-set kept.database.extended extension.base _ ∙ each.extended;
  current = length-set kept.database.current extension.base _ ∙ each.current;
  placements = length-set kept.placements extension.base _ ∙ each.placements;
  used = length-set kept.used extension.base _ ∙ each.used;
}

-- a tenant with another quota
quota-each : (count quota : ℕ) (kept : Tenant) → HasEach count kept → HasEach count (with_database (with_quota quota kept.database) kept)
quota-each count quota kept each = record { extended = each.extended; current = each.current; placements = each.placements; used = each.used }

-- once a tenant was put that is in step
put-in_step : (service : Service) (at : ℕ) (kept : Tenant) → HasEach (length service.tables) kept → IsInStep service → IsInStep (service_with service.tables service.extensions (finite.insert service.tenants at kept))
put-in_step service at kept each in_step number tenant there = by (number == at) (sym (get-insert service.tenants at kept number) ∙ there)
  where
    by : (here : Bool) → cond here (Some kept) (finite.get service.tenants number) ≡ Some tenant → HasEach (length service.tables) tenant
    by true same = let it : kept ≡ tenant = cc in subst (HasEach (length service.tables)) it each
    by false other = in_step number tenant other

-- once a tenant was changed so that it stays in step
pub changed-in_step : (service : Service) (tenant : ℕ) (change : Tenant → Tenant) → ((kept : Tenant) → HasEach (length service.tables) kept → HasEach (length service.tables) (change kept)) → IsInStep service → IsInStep (with_tenant service tenant change)
changed-in_step service tenant change stays in_step =
    subst IsInStep (sym (with_tenant-kept service tenant change (finite.get service.tenants tenant) refl)) (by (finite.get service.tenants tenant) refl)
  where
    by : (kept : Option Tenant) → finite.get service.tenants tenant ≡ kept → IsInStep (changed_where service tenant change kept)
    by None e = in_step
    by (Some kept) e = put-in_step service tenant (change kept) (stays kept (in_step tenant kept e)) in_step

-- once a table was made
table-in_step : (service : Service) (table : Table) → IsInStep service → IsInStep (service_with (service.tables ++ table ∷ []) service.extensions (in_each (with_new_table table) service.tenants))
table-in_step service table in_step number tenant there = by (finite.get service.tenants number) refl (sym (get-in_each (with_new_table table) service.tenants number) ∙ there)
  where
    by : (kept : Option Tenant) → finite.get service.tenants number ≡ kept → option_map (with_new_table table) kept ≡ Some tenant → HasEach (length (service.tables ++ table ∷ [])) tenant
    by None e same = absurd (cc)
    by (Some kept) e same =
        let it : with_new_table table kept ≡ tenant = cc in
        let each = table-each (length service.tables) table kept (in_step number kept e) in
        subst (HasEach (length (service.tables ++ table ∷ []))) it (subst (λ (count : ℕ). HasEach count (with_new_table table kept)) (sym (length-pushed service.tables table (length service.tables) refl)) each)

-- once a tenant's table was extended
extended-in_step : (service : Service) (tenant : ℕ) (name : List ℕ) → IsInStep service → IsInStep (applied service (Extend tenant name))
extended-in_step service tenant name in_step = by (numbered_extension service.extensions name)
  where
    by : (found : Option (ℕ × Extension)) → IsInStep (elim found [ None ↦ service | Some found ↦ with_tenant service tenant (extended_tenant found.0 found.1) ])
    by None = in_step
    by (Some found) = changed-in_step service tenant (extended_tenant found.0 found.1) (extended-each (length service.tables) found.0 found.1) in_step

-- once a command was done
pub applied-in_step : (service : Service) (command : AdminCmd) → IsInStep service → IsInStep (applied service command)
applied-in_step service (CreateTable name columns key) in_step = table-in_step service (defined_table name columns key) in_step
applied-in_step service (CreateExtension name base columns) in_step = in_step
applied-in_step service (CreateTenant tenant quota) in_step = put-in_step service tenant (new_tenant service.tables quota) (new-each service.tables quota) in_step
applied-in_step service (Extend tenant name) in_step = extended-in_step service tenant name in_step
applied-in_step service (SetQuota tenant quota) in_step =
    changed-in_step service tenant (λ kept. with_database (with_quota quota kept.database) kept) (quota-each (length service.tables) quota) in_step
applied-in_step service command in_step = in_step
