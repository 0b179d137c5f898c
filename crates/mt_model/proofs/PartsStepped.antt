-- A schema step makes of the catalogue and the rows what it makes of them alone.
use Rattle.std.proofs.Common.{◌≡◌, ℕ, zero, suc, ◌==◌, ◌&&◌, Bool, true, false, cond, if◌then◌else◌, ◌⊎◌, inl, inr, ⊎_elim, List, [], ◌∷◌, ◌++◌, length, map, drop, is_some, Option, Some, None, refl, sym, ap, ◌∙◌, subst, eqb-true}
use Rattle.std.specs.Prelude.{option_map, slice_get, slice_index_or}
use Rattle.std.specs.FinMap as finite
use Rattle.std.proofs.lemmas.Option.{get_or_from_slice_get, slice_get-map}
use Rattle.mt_tree.specs.declared.code.Code.{Code}
use Rattle.mt_tree.specs.declared.code.Code.TheVariants.{NameExists}
use Rattle.mt_tree.specs.declared.command.AdminCmd.{AdminCmd}
use Rattle.mt_tree.specs.declared.command.AdminCmd.TheVariants.{CreateTable, CreateTenant, Extend, SetQuota}
use Rattle.mt_tree.specs.declared.command.Def.{Def}
use Rattle.mt_tree.specs.declared.schema.Table.{Table}
use Rattle.mt_fold.specs.declared.fold.Placement.{Placement}
use Rattle.mt_catalog.specs.declared.state.Extension.{Extension}
use Rattle.mt_catalog.specs.declared.state.TenantEntry.{TenantEntry}
use Rattle.mt_catalog.specs.State.{State, table_in, tenant_table}
use Rattle.mt_schema.specs.Refusals.{first_holding, tenant_tests}
use Rattle.mt_schema.specs.Steps as steps
use Rattle.mt_schema.specs.Steps.{defined_table, extended_state, extension_number, in_each, new_table, stepped}
use Rattle.mt_schema.proofs.Maps.{get-in_each, get-insert}
use Rattle.mt_model.specs.Command.{applied, command_refusal, extended_tenant, new_tenant, numbered_extension, with_new_table}
use Rattle.mt_model.specs.Database.{Content, MarkedRow, PrivateDatabase, TableContent, at_table, in_saved, new_database, no_rows, widened, with_extension, with_nulls, with_quota, with_table}
use Rattle.mt_model.specs.Laws.{service_with, with_database}
use Rattle.mt_model.specs.Parts.{ConsistsOf, HoldsRows, KeptRows, rows_after, rows_extended, rows_with}
use Rattle.mt_model.specs.Service.{Service, Tenant, catalogue_of, entry_of, entry_tables, with_tenant}
use Rattle.mt_model.proofs.InStep.{applied-in_step}
use Rattle.mt_model.proofs.PartsChanged.{EachHolds, at_base, changed-holds, none-changed, none-table, put-holds, rows-other, rows-own, set-hold}
use Rattle.mt_model.proofs.PartsTold.{entry-told}
use Rattle.mt_model.proofs.Stepped.{catalogue-applied}

-- A table that is not there has no rows.
abbrev NoneElsewhere : State → KeptRows → Type 0
NoneElsewhere state rows = (number base : ℕ) → tenant_table state number base ≡ None → rows number base ≡ []

-- what is found in a list with one more at its end was there, or is that one
get-pushed : {A : Type 0} (xs : List A) (x : A) (i : ℕ) (y : A) → slice_get (xs ++ x ∷ []) i ≡ Some y → (slice_get xs i ≡ Some y) ⊎ ((slice_get xs i ≡ None) × (x ≡ y))
get-pushed [] x zero y e = inr (refl, cc)
get-pushed [] x (suc i) y e = absurd (let nothing : None ≡ Some y = e in cc)
get-pushed (z ∷ zs) x zero y e = inl e
get-pushed (z ∷ zs) x (suc i) y e = get-pushed zs x i y e

-- nothing is found there where nothing is with one more
none-pushed : {A : Type 0} (xs : List A) (x : A) (i : ℕ) → slice_get (xs ++ x ∷ []) i ≡ None → slice_get xs i ≡ None
none-pushed [] x i e = refl
none-pushed (z ∷ zs) x zero e = e
none-pushed (z ∷ zs) x (suc i) e = none-pushed zs x i e

-- the catalogue has no table where nothing is held
tables-past : (contents : Content) (extended : List (List ℕ)) (placements : List Placement) (base : ℕ) → slice_get contents base ≡ None → slice_get (entry_tables contents extended placements) base ≡ None
tables-past [] extended placements base e = refl
tables-past (c ∷ cs) [] placements base e = refl
tables-past (c ∷ cs) (n ∷ ns) [] base e = refl
tables-past (c ∷ cs) (n ∷ ns) (p ∷ ps) zero e = absurd (let nothing : Some c ≡ None = e in cc)
tables-past (c ∷ cs) (n ∷ ns) (p ∷ ps) (suc base) e = tables-past cs ns ps base e

-- the rows of a tenant's table that is not there
past-rows : (service : Service) (state : State) (rows : KeptRows) → ConsistsOf service state rows → (number base : ℕ) (kept : Tenant) → finite.get service.tenants number ≡ Some kept → slice_get kept.database.current base ≡ None → rows number base ≡ []
past-rows service state rows parts number base kept there none =
    parts.elsewhere number base
    (ap (table_in base) (entry-told service state number parts.catalogue ∙ ap (option_map entry_of) there)
    ∙ tables-past kept.database.current kept.database.extended kept.placements base none)

-- a tenant's tables with one more, of which there are no rows
table-holds : (rows : ℕ → List MarkedRow) (database : PrivateDatabase) → HoldsRows rows database → ((base : ℕ) → slice_get database.current base ≡ None → rows base ≡ []) → HoldsRows rows (with_table database)
table-holds rows database holds past = record {
  rows_are = λ base content there.
      ⊎_elim (λ (old : slice_get database.current base ≡ Some content). holds.rows_are base content old)
      (λ (new : (slice_get database.current base ≡ None) × (no_rows ≡ content)). ap (λ (content : TableContent). content.rows) (sym new.1) ∙ sym (past base new.0))
      (get-pushed database.current no_rows base content there);
  none_open = ap (option_map (in_saved (λ content. content ++ no_rows ∷ []))) holds.none_open;
}

-- once a table was made
table-each : (service : Service) (state : State) (rows : KeptRows) (table : Table) → ConsistsOf service state rows → EachHolds (service_with (service.tables ++ table ∷ []) service.extensions (in_each (with_new_table table) service.tenants)) rows
table-each service state rows table parts number tenant there = by (finite.get service.tenants number) refl (sym (get-in_each (with_new_table table) service.tenants number) ∙ there)
  where
    by : (kept : Option Tenant) → finite.get service.tenants number ≡ kept → option_map (with_new_table table) kept ≡ Some tenant → HoldsRows (rows number) tenant.database
    by None e same = absurd (cc)
    by (Some kept) e same =
        let it : with_new_table table kept ≡ tenant = cc in
        subst (λ (tenant : Tenant). HoldsRows (rows number) tenant.database) it
        (table-holds (rows number) kept.database (parts.databases number kept e) (λ base none. past-rows service state rows parts number base kept e none))

table-elsewhere : (state : State) (rows : KeptRows) (name : List ℕ) (columns : List Def) (key : List (List ℕ)) → NoneElsewhere state rows → NoneElsewhere (stepped state (CreateTable name columns key)) rows
table-elsewhere state rows name columns key none number base e =
    none number base (by (finite.get state.tenants number) (ap (table_in base) (sym (get-in_each (steps.with_new_table table) state.tenants number)) ∙ e))
  where
    table : Table
    table = defined_table name columns key

    by : (entry : Option TenantEntry) → table_in base (option_map (steps.with_new_table table) entry) ≡ None → table_in base entry ≡ None
    by None f = refl
    by (Some entry) f = none-pushed entry.tables (new_table table) base f

-- what is told free by the first test is not there
free : {A : Type 0} (found : Option A) (code : Code) (tests : List (Code × Bool)) → first_holding ((code, is_some found) ∷ tests) ≡ None → found ≡ None
free None code tests e = refl
free (Some x) code tests e = absurd (cc)

-- a tenant that may be made is not there
tenant-free : (service : Service) (tenant quota : ℕ) → command_refusal service (CreateTenant tenant quota) ≡ None → finite.get (catalogue_of service).tenants tenant ≡ None
tenant-free service tenant quota accepted = free (finite.get (catalogue_of service).tenants tenant) NameExists (drop 1 (tenant_tests (catalogue_of service) tenant quota)) accepted

-- the tables of a new tenant
new-holds : (tables : List Table) (quota : ℕ) (rows : ℕ → List MarkedRow) → ((base : ℕ) → rows base ≡ []) → HoldsRows rows (new_database tables quota)
new-holds tables quota rows none = record {
  rows_are = λ base content there. by base content (slice_get tables base) (sym (slice_get-map (λ (table : Table). no_rows) tables base) ∙ there);
  none_open = refl;
}
  where
    by : (base : ℕ) (content : TableContent) (found : Option Table) → option_map (λ table. no_rows) found ≡ Some content → content.rows ≡ rows base
    by base content None e = absurd (cc)
    by base content (Some table) e =
        let it : no_rows ≡ content = cc in
        ap (λ (content : TableContent). content.rows) (sym it) ∙ sym (none base)

-- once a tenant was made
tenant-elsewhere : (state : State) (rows : KeptRows) (tenant quota : ℕ) → finite.get state.tenants tenant ≡ None → NoneElsewhere state rows → NoneElsewhere (stepped state (CreateTenant tenant quota)) rows
tenant-elsewhere state rows tenant quota absent none number base e = none number base (by (number == tenant) refl (ap (table_in base) (sym (get-insert state.tenants tenant entry number)) ∙ e))
  where
    entry : TenantEntry
    entry = record { quota = quota; tables = map new_table state.bases }

    by : (here : Bool) → (number == tenant) ≡ here → table_in base (cond here (Some entry) (finite.get state.tenants number)) ≡ None → tenant_table state number base ≡ None
    by true same f = ap (table_in base) (ap (finite.get state.tenants) (eqb-true number tenant same) ∙ absent)
    by false apart f = f

-- a database with an extension
extended-holds : (rows : ℕ → List MarkedRow) (number : ℕ) (extension : Extension) (database : PrivateDatabase) → HoldsRows rows database →
    HoldsRows (at_base extension.base (map (with_nulls (length extension.columns))) rows) (with_extension number extension database)
extended-holds rows number extension database holds =
    let count : ℕ = length extension.columns in
    record {
      rows_are = set-hold rows database.current extension.base (widened count (slice_index_or database.current extension.base no_rows)) (map (with_nulls count))
          (λ old there. ap (λ (content : TableContent). map (with_nulls count) content.rows) (get_or_from_slice_get database.current extension.base old no_rows there))
          holds.rows_are;
      none_open = ap (option_map (in_saved (at_table extension.base (widened count)))) holds.none_open;
    }

-- once a tenant's table was extended
extended-each : (service : Service) (rows : KeptRows) (tenant : ℕ) (name : List ℕ) → EachHolds service rows → EachHolds (applied service (Extend tenant name)) (rows_extended rows tenant (numbered_extension service.extensions name))
extended-each service rows tenant name hold = by (numbered_extension service.extensions name)
  where
    by : (found : Option (ℕ × Extension)) → EachHolds (elim found [ None ↦ service | Some found ↦ with_tenant service tenant (extended_tenant found.0 found.1) ]) (rows_extended rows tenant found)
    by None = hold
    by (Some found) =
        let change : List MarkedRow → List MarkedRow = map (with_nulls (length found.1.columns)) in
        changed-holds service tenant (extended_tenant found.0 found.1) rows (rows_with rows tenant found.1.base change)
        (λ kept e. subst (λ (rows : ℕ → List MarkedRow). HoldsRows rows (with_extension found.0 found.1 kept.database)) (rows-own rows tenant found.1.base change)
        (extended-holds (rows tenant) found.0 found.1 kept.database (hold tenant kept e)))
        (rows-other rows tenant found.1.base change)
        hold

-- what had no rows has none after such a change
none-with : (rows : KeptRows) (tenant base : ℕ) (change : List MarkedRow → List MarkedRow) (number other : ℕ) → change [] ≡ [] → rows number other ≡ [] → rows_with rows tenant base change number other ≡ []
none-with rows tenant base change number other empty none = by (number == tenant && other == base)
  where
    by : (here : Bool) → (if here then change (rows number other) else rows number other) ≡ []
    by true = ap change none ∙ empty
    by false = none

extended-elsewhere : (state : State) (rows : KeptRows) (tenant : ℕ) (name : List ℕ) → NoneElsewhere state rows → NoneElsewhere (stepped state (Extend tenant name)) (rows_extended rows tenant (numbered_extension state.extensions name))
extended-elsewhere state rows tenant name none = by (extension_number state.extensions name)
  where
    at : (number : ℕ) (found : Option Extension) → NoneElsewhere
        (elim found [ None ↦ state | Some extension ↦ steps.with_tenant state tenant (steps.with_table extension.base (steps.with_extension number extension.columns)) ])
        (rows_extended rows tenant (option_map (λ extension. (number, extension)) found))
    at number None = none
    at number (Some extension) = λ other base e.
        none-with rows tenant extension.base (map (with_nulls (length extension.columns))) other base refl
        (none other base
        (none-changed state tenant (steps.with_table extension.base (steps.with_extension number extension.columns)) (none-table extension.base (steps.with_extension number extension.columns)) other base e))

    by : (found : Option ℕ) → NoneElsewhere (extended_state state tenant found)
        (rows_extended rows tenant (elim found [ None ↦ None | Some number ↦ option_map (λ extension. (number, extension)) (slice_get state.extensions number) ]))
    by None = none
    by (Some number) = at number (slice_get state.extensions number)

-- a database with another quota
quota-holds : (rows : ℕ → List MarkedRow) (quota : ℕ) (database : PrivateDatabase) → HoldsRows rows database → HoldsRows rows (with_quota quota database)
quota-holds rows quota database holds = record { rows_are = holds.rows_are; none_open = holds.none_open }

-- the databases once a command was done
databases-applied : (service : Service) (rows : KeptRows) (command : AdminCmd) → ConsistsOf service (catalogue_of service) rows → command_refusal service command ≡ None → EachHolds (applied service command) (rows_after (catalogue_of service) command rows)
databases-applied service rows (CreateTable name columns key) parts accepted = table-each service (catalogue_of service) rows (defined_table name columns key) parts
databases-applied service rows (CreateTenant tenant quota) parts accepted =
    put-holds service tenant (new_tenant service.tables quota) rows
    (new-holds service.tables quota (rows tenant) (λ base. parts.elsewhere tenant base (ap (table_in base) (tenant-free service tenant quota accepted))))
    (λ number kept apart there. parts.databases number kept there)
databases-applied service rows (Extend tenant name) parts accepted = extended-each service rows tenant name parts.databases
databases-applied service rows (SetQuota tenant quota) parts accepted =
    changed-holds service tenant (λ kept. with_database (with_quota quota kept.database) kept) rows rows
    (λ kept there. quota-holds (rows tenant) quota kept.database (parts.databases tenant kept there)) (λ number apart. refl) parts.databases
databases-applied service rows command parts accepted = parts.databases

-- where there is no table then
elsewhere-applied : (service : Service) (rows : KeptRows) (command : AdminCmd) → ConsistsOf service (catalogue_of service) rows → command_refusal service command ≡ None → NoneElsewhere (stepped (catalogue_of service) command) (rows_after (catalogue_of service) command rows)
elsewhere-applied service rows (CreateTable name columns key) parts accepted = table-elsewhere (catalogue_of service) rows name columns key parts.elsewhere
elsewhere-applied service rows (CreateTenant tenant quota) parts accepted = tenant-elsewhere (catalogue_of service) rows tenant quota (tenant-free service tenant quota accepted) parts.elsewhere
elsewhere-applied service rows (Extend tenant name) parts accepted = extended-elsewhere (catalogue_of service) rows tenant name parts.elsewhere
elsewhere-applied service rows (SetQuota tenant quota) parts accepted = λ number base e.
    parts.elsewhere number base (none-changed (catalogue_of service) tenant (λ entry. record { quota = quota; tables = entry.tables }) (λ entry base none. none) number base e)
elsewhere-applied service rows command parts accepted = parts.elsewhere

-- what a service consists of after a schema step, by its own catalogue
own-applied : (service : Service) (rows : KeptRows) (command : AdminCmd) → ConsistsOf service (catalogue_of service) rows → command_refusal service command ≡ None →
    ConsistsOf (applied service command) (stepped (catalogue_of service) command) (rows_after (catalogue_of service) command rows)
own-applied service rows command parts accepted = record {
  in_step = applied-in_step service command parts.in_step;
  catalogue = catalogue-applied service command parts.in_step;
  databases = databases-applied service rows command parts accepted;
  elsewhere = elsewhere-applied service rows command parts accepted;
}

-- and by any that is the same
pub parts-applied : (service : Service) (state : State) (rows : KeptRows) (command : AdminCmd) → ConsistsOf service state rows → command_refusal service command ≡ None →
    ConsistsOf (applied service command) (stepped state command) (rows_after state command rows)
parts-applied service state rows command parts accepted =
    let own : ConsistsOf service (catalogue_of service) rows = subst (λ (state : State). ConsistsOf service state rows) (sym parts.catalogue) parts in
    subst (λ (state : State). ConsistsOf (applied service command) (stepped state command) (rows_after state command rows)) parts.catalogue (own-applied service rows command own accepted)
