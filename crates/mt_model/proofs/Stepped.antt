-- What a schema step makes of the service's catalogue is what it makes of a catalogue alone.
use Rattle.std.proofs.Common.{◌≡◌, ℕ, zero, suc, ◌==◌, Bool, true, false, cond, List, [], ◌∷◌, ◌++◌, length, map, Option, Some, None, refl, sym, ap, ◌∙◌, arith}
use Rattle.std.specs.Prelude.{option_map, slice_get, slice_index_or, slice_set}
use Rattle.std.specs.Ordering.{nat_cmp}
use Rattle.std.specs.Cmp.{nat_cmp_total}
use Rattle.std.specs.FinMap as finite
use Rattle.mt_tree.specs.declared.schema.Column.{Column}
use Rattle.mt_tree.specs.declared.schema.Table.{Table}
use Rattle.mt_tree.specs.declared.command.AdminCmd.{AdminCmd}
use Rattle.mt_tree.specs.declared.command.AdminCmd.TheVariants.{CreateTable, CreateExtension, CreateTenant, Extend, SetQuota}
use Rattle.mt_fold.specs.declared.fold.Placement.{Placement}
use Rattle.mt_catalog.specs.declared.state.Extension.{Extension}
use Rattle.mt_catalog.specs.declared.state.TenantEntry.{TenantEntry}
use Rattle.mt_catalog.specs.declared.state.TenantTable.{TenantTable}
use Rattle.mt_catalog.specs.State.{State}
use Rattle.mt_schema.specs.Steps as steps
use Rattle.mt_schema.specs.Steps.{defined_table, extended_placement, extended_state, extension_number, in_each, new_placement, new_table, stepped}
use Rattle.mt_schema.proofs.Maps.{get-in_each, get-insert}
use Rattle.mt_model.specs.Command.{applied, extended_tenant, new_tenant, no_placement, with_new_table}
use Rattle.mt_model.specs.Database.{Content, TableContent, no_rows, widened, with_quota}
use Rattle.mt_model.specs.Laws.{changed_where, with_database, with_tenant-kept}
use Rattle.mt_model.specs.Service.{HasEach, IsInStep, Service, Tenant, catalogue_of, entry_of, entry_tables, with_tenant}

-- the catalogue of these base tables, extensions and tenants
abbrev state_with : List Table → List Extension → finite.FinMap nat_cmp TenantEntry → State
state_with bases extensions tenants = record { bases = bases; extensions = extensions; tenants = tenants }

-- a tenant's table with what it holds, its extensions and its placement
abbrev pub table_with : TableContent → List ℕ → Placement → TenantTable
table_with content numbers placement = record { made = content.made; extended = numbers; placement = placement }

-- the tables of a tenant with one table more
tables-pushed : (contents : Content) (extended : List (List ℕ)) (placements : List Placement) (content : TableContent) (numbers : List ℕ) (placement : Placement) → length extended ≡ length contents → length placements ≡ length contents →
    entry_tables (contents ++ content ∷ []) (extended ++ numbers ∷ []) (placements ++ placement ∷ []) ≡ entry_tables contents extended placements ++ table_with content numbers placement ∷ []
tables-pushed [] [] [] content numbers placement e f = refl
tables-pushed [] [] (p ∷ ps) content numbers placement e f = absurd (omega (arith, f))
tables-pushed [] (n ∷ ns) placements content numbers placement e f = absurd (omega (arith, e))
tables-pushed (c ∷ cs) [] placements content numbers placement e f = absurd (omega (arith, e))
tables-pushed (c ∷ cs) (n ∷ ns) [] content numbers placement e f = absurd (omega (arith, f))
tables-pushed (c ∷ cs) (n ∷ ns) (p ∷ ps) content numbers placement e f =
    ap (λ (tables : List TenantTable). table_with c n p ∷ tables) (tables-pushed cs ns ps content numbers placement (omega (arith, e)) (omega (arith, f)))

-- the tables of a new tenant
tables-new : (tables : List Table) → entry_tables (map (λ table. no_rows) tables) (map (λ table. []) tables) (map new_placement tables) ≡ map new_table tables
tables-new [] = refl
tables-new (table ∷ tables) = ap (λ (others : List TenantTable). new_table table ∷ others) (tables-new tables)

-- tables of which that of a number is changed, where it is there
abbrev pub tables_with : ℕ → (TenantTable → TenantTable) → List TenantTable → Option TenantTable → List TenantTable
tables_with base change tables None = tables
tables_with base change tables (Some table) = slice_set tables base (change table)

-- the first table stays where another is changed
pub tables_with-behind : (base : ℕ) (change : TenantTable → TenantTable) (first : TenantTable) (tables : List TenantTable) (found : Option TenantTable) → tables_with (suc base) change (first ∷ tables) found ≡ first ∷ tables_with base change tables found
tables_with-behind base change first tables None = refl
tables_with-behind base change first tables (Some table) = refl

-- a tenant of this quota and these tables
abbrev pub tenant_with : ℕ → List TenantTable → TenantEntry
tenant_with quota tables = record { quota = quota; tables = tables }

-- a tenant whose table is changed is the same tenant with such tables
pub entry_with : (base : ℕ) (change : TenantTable → TenantTable) (quota : ℕ) (tables : List TenantTable) → steps.with_table base change (tenant_with quota tables) ≡ tenant_with quota (tables_with base change tables (slice_get tables base))
entry_with base change quota tables = by (slice_get tables base)
  where
    by : (found : Option TenantTable) → (elim found [ None ↦ tenant_with quota tables | Some table ↦ tenant_with quota (slice_set tables base (change table)) ]) ≡ tenant_with quota (tables_with base change tables found)
    by None = refl
    by (Some table) = refl

-- the tables of a tenant with an extension
tables-extended : (base number : ℕ) (added : List Column) (contents : Content) (extended : List (List ℕ)) (placements : List Placement) →
    let tables : List TenantTable = entry_tables contents extended placements in
    entry_tables (slice_set contents base (widened (length added) (slice_index_or contents base no_rows))) (slice_set extended base (slice_index_or extended base [] ++ number ∷ []))
    (slice_set placements base (extended_placement added (slice_index_or placements base no_placement)))
    ≡ tables_with base (steps.with_extension number added) tables (slice_get tables base)
tables-extended base number added [] extended placements = refl
tables-extended zero number added (c ∷ cs) [] placements = refl
tables-extended (suc base) number added (c ∷ cs) [] placements = refl
tables-extended zero number added (c ∷ cs) (n ∷ ns) [] = refl
tables-extended (suc base) number added (c ∷ cs) (n ∷ ns) [] = refl
tables-extended zero number added (c ∷ cs) (n ∷ ns) (p ∷ ps) = refl
tables-extended (suc base) number added (c ∷ cs) (n ∷ ns) (p ∷ ps) =
    let tables : List TenantTable = entry_tables cs ns ps in
    ap (λ (others : List TenantTable). table_with c n p ∷ others) (tables-extended base number added cs ns ps)
    ∙ sym (tables_with-behind base (steps.with_extension number added) (table_with c n p) tables (slice_get tables base))

-- what the catalogue keeps of a tenant with one table more
entry-table : (count : ℕ) (table : Table) (kept : Tenant) → HasEach count kept → entry_of (with_new_table table kept) ≡ steps.with_new_table table (entry_of kept)
entry-table count table kept each =
    ap (tenant_with kept.database.quota)
    (tables-pushed kept.database.current kept.database.extended kept.placements no_rows [] (new_placement table) (each.extended ∙ sym each.current) (each.placements ∙ sym each.current))

-- and of one with an extension
entry-extended : (number : ℕ) (extension : Extension) (kept : Tenant) → entry_of (extended_tenant number extension kept) ≡ steps.with_table extension.base (steps.with_extension number extension.columns) (entry_of kept)
entry-extended number extension kept =
    let tables : List TenantTable = entry_tables kept.database.current kept.database.extended kept.placements in
    ap (tenant_with kept.database.quota)
    (tables-extended extension.base number extension.columns kept.database.current kept.database.extended kept.placements)
    ∙ sym (entry_with extension.base (steps.with_extension number extension.columns) kept.database.quota tables)

-- once a tenant was put
entries-put : (tenants : finite.FinMap nat_cmp Tenant) (at : ℕ) (kept : Tenant) → in_each entry_of (finite.insert tenants at kept) ≡ finite.insert (in_each entry_of tenants) at (entry_of kept)
entries-put tenants at kept = finite.same_map nat_cmp_total finite.nat_cmp-IsAntisymmetric (in_each entry_of (finite.insert tenants at kept)) (finite.insert (in_each entry_of tenants) at (entry_of kept)) there
  where
    by : (number : ℕ) (here : Bool) → option_map entry_of (cond here (Some kept) (finite.get tenants number)) ≡ cond here (Some (entry_of kept)) (option_map entry_of (finite.get tenants number))
    by number true = refl
    by number false = refl

    there : (number : ℕ) → finite.get (in_each entry_of (finite.insert tenants at kept)) number ≡ finite.get (finite.insert (in_each entry_of tenants) at (entry_of kept)) number
    there number =
        get-in_each entry_of (finite.insert tenants at kept) number
        ∙ ap (option_map entry_of) (get-insert tenants at kept number)
        ∙ by number (number == at)
        ∙ sym (ap (λ (found : Option TenantEntry). cond (number == at) (Some (entry_of kept)) found) (get-in_each entry_of tenants number))
        ∙ sym (get-insert (in_each entry_of tenants) at (entry_of kept) number)

-- once a table was made
entries-table : (service : Service) (table : Table) → IsInStep service → in_each entry_of (in_each (with_new_table table) service.tenants) ≡ in_each (steps.with_new_table table) (in_each entry_of service.tenants)
entries-table service table in_step = finite.same_map nat_cmp_total finite.nat_cmp-IsAntisymmetric (in_each entry_of (in_each (with_new_table table) service.tenants)) (in_each (steps.with_new_table table) (in_each entry_of service.tenants)) there
  where
    by : (number : ℕ) (kept : Option Tenant) → finite.get service.tenants number ≡ kept → option_map entry_of (option_map (with_new_table table) kept) ≡ option_map (steps.with_new_table table) (option_map entry_of kept)
    by number None e = refl
    by number (Some kept) e = ap Some (entry-table (length service.tables) table kept (in_step number kept e))

    there : (number : ℕ) → finite.get (in_each entry_of (in_each (with_new_table table) service.tenants)) number ≡ finite.get (in_each (steps.with_new_table table) (in_each entry_of service.tenants)) number
    there number =
        get-in_each entry_of (in_each (with_new_table table) service.tenants) number
        ∙ ap (option_map entry_of) (get-in_each (with_new_table table) service.tenants number)
        ∙ by number (finite.get service.tenants number) refl
        ∙ sym (ap (option_map (steps.with_new_table table)) (get-in_each entry_of service.tenants number))
        ∙ sym (get-in_each (steps.with_new_table table) (in_each entry_of service.tenants) number)

-- the catalogue in which a tenant is changed, where this is kept of it
abbrev pub entry_where : State → ℕ → (TenantEntry → TenantEntry) → Option TenantEntry → State
entry_where state tenant change None = state
entry_where state tenant change (Some entry) = state_with state.bases state.extensions (finite.insert state.tenants tenant (change entry))

pub entry-kept : (state : State) (tenant : ℕ) (change : TenantEntry → TenantEntry) (entry : Option TenantEntry) → finite.get state.tenants tenant ≡ entry → steps.with_tenant state tenant change ≡ entry_where state tenant change entry
entry-kept state tenant change entry e = by (finite.get state.tenants tenant) ∙ ap (entry_where state tenant change) e
  where
    by : (found : Option TenantEntry) → (elim found [ None ↦ state | Some entry ↦ record { bases = state.bases; extensions = state.extensions; tenants = finite.insert state.tenants tenant (change entry) } ]) ≡ entry_where state tenant change found
    by None = refl
    by (Some entry) = refl

-- the same change of a tenant in the service and in its catalogue
pub catalogue-changed : (service : Service) (tenant : ℕ) (change : Tenant → Tenant) (other : TenantEntry → TenantEntry) → ((kept : Tenant) → finite.get service.tenants tenant ≡ Some kept → entry_of (change kept) ≡ other (entry_of kept)) → catalogue_of (with_tenant service tenant change) ≡ steps.with_tenant (catalogue_of service) tenant other
catalogue-changed service tenant change other same =
    ap catalogue_of (with_tenant-kept service tenant change (finite.get service.tenants tenant) refl)
    ∙ by (finite.get service.tenants tenant) refl
    ∙ sym (entry-kept (catalogue_of service) tenant other (option_map entry_of (finite.get service.tenants tenant)) (get-in_each entry_of service.tenants tenant))
  where
    by : (kept : Option Tenant) → finite.get service.tenants tenant ≡ kept → catalogue_of (changed_where service tenant change kept) ≡ entry_where (catalogue_of service) tenant other (option_map entry_of kept)
    by None e = refl
    by (Some kept) e =
        ap (state_with service.tables service.extensions)
        (entries-put service.tenants tenant (change kept) ∙ ap (finite.insert (in_each entry_of service.tenants) tenant) (same kept e))

-- once a tenant's table was extended
catalogue-extended : (service : Service) (tenant : ℕ) (name : List ℕ) → catalogue_of (applied service (Extend tenant name)) ≡ stepped (catalogue_of service) (Extend tenant name)
catalogue-extended service tenant name = by (extension_number service.extensions name)
  where
    extended : Option (ℕ × Extension) → Service
    extended found = elim found [ None ↦ service | Some found ↦ with_tenant service tenant (extended_tenant found.0 found.1) ]

    state : State
    state = catalogue_of service

    at : (number : ℕ) (found : Option Extension) → catalogue_of (extended (option_map (λ extension. (number, extension)) found))
        ≡ (elim found [ None ↦ state | Some extension ↦ steps.with_tenant state tenant (steps.with_table extension.base (steps.with_extension number extension.columns)) ])
    at number None = refl
    at number (Some extension) = catalogue-changed service tenant (extended_tenant number extension) (steps.with_table extension.base (steps.with_extension number extension.columns)) (λ kept there. entry-extended number extension kept)

    by : (found : Option ℕ) → catalogue_of (extended (elim found [ None ↦ None | Some number ↦ option_map (λ extension. (number, extension)) (slice_get service.extensions number) ])) ≡ extended_state (catalogue_of service) tenant found
    by None = refl
    by (Some number) = at number (slice_get service.extensions number)

-- once a command was done
pub catalogue-applied : (service : Service) (command : AdminCmd) → IsInStep service → catalogue_of (applied service command) ≡ stepped (catalogue_of service) command
catalogue-applied service (CreateTable name columns key) in_step =
    let table : Table = defined_table name columns key in
    ap (state_with (service.tables ++ table ∷ []) service.extensions) (entries-table service table in_step)
catalogue-applied service (CreateExtension name base columns) in_step = refl
catalogue-applied service (CreateTenant tenant quota) in_step =
    ap (state_with service.tables service.extensions)
    (entries-put service.tenants tenant (new_tenant service.tables quota)
    ∙ ap (λ (tables : List TenantTable). finite.insert (in_each entry_of service.tenants) tenant (tenant_with quota tables)) (tables-new service.tables))
catalogue-applied service (Extend tenant name) in_step = catalogue-extended service tenant name
catalogue-applied service (SetQuota tenant quota) in_step =
    catalogue-changed service tenant (λ kept. with_database (with_quota quota kept.database) kept) (λ entry. tenant_with quota entry.tables) (λ kept there. refl)
catalogue-applied service command in_step = refl
