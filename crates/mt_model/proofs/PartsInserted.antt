-- A row that is inserted is one more that the catalogue counts, and one more of the rows.
use Rattle.std.proofs.Common.{◌≡◌, ℕ, zero, suc, ◌+◌, ◌==◌, ◌&&◌, Bool, true, false, if◌then◌else◌, List, [], ◌∷◌, ◌++◌, length, Some, None, refl, sym, ap, ◌∙◌, subst, arith, eqb-true}
use Rattle.std.specs.Prelude.{option_map, slice_get, slice_set}
use Rattle.std.specs.FinMap as finite
use Rattle.std.proofs.lemmas.List.{length-set}
use Rattle.mt_value.specs.declared.value.Value.{Value}
use Rattle.mt_fold.specs.declared.fold.Placement.{Placement}
use Rattle.mt_catalog.specs.declared.state.TenantTable.{TenantTable}
use Rattle.mt_catalog.specs.State.{State, table_in, tenant_table}
use Rattle.mt_schema.specs.Steps as steps
use Rattle.mt_model.specs.Database.{Content, MarkedRow, PrivateDatabase, TableContent, with_row}
use Rattle.mt_model.specs.Laws.{with_database}
use Rattle.mt_model.specs.Parts.{ConsistsOf, HoldsRows, KeptRows, made_one, one_more_made, rows_inserted, with_content}
use Rattle.mt_model.specs.Service.{HasEach, Service, Tenant, catalogue_of, entry_of, entry_tables, put_database}
use Rattle.mt_model.proofs.InStep.{changed-in_step}
use Rattle.mt_model.proofs.PartsChanged.{EachHolds, at_base, changed-holds, none-changed, none-table, rows-other, rows-own, set-hold}
use Rattle.mt_model.proofs.PartsTold.{entry-told}
use Rattle.mt_model.proofs.Stepped.{catalogue-changed, entry_with, table_with, tables_with, tables_with-behind, tenant_with}

-- the catalogue's tables once a row was made of one
tables-made : (base : ℕ) (contents : Content) (extended : List (List ℕ)) (placements : List Placement) (content : TableContent) (rows : List MarkedRow) → slice_get contents base ≡ Some content →
    let tables : List TenantTable = entry_tables contents extended placements in
    entry_tables (slice_set contents base (record { made = content.made + 1; rows = rows })) extended placements ≡ tables_with base one_more_made tables (slice_get tables base)
tables-made base [] extended placements content rows e = refl
tables-made zero (c ∷ cs) [] placements content rows e = refl
tables-made (suc base) (c ∷ cs) [] placements content rows e = refl
tables-made zero (c ∷ cs) (n ∷ ns) [] content rows e = refl
tables-made (suc base) (c ∷ cs) (n ∷ ns) [] content rows e = refl
tables-made zero (c ∷ cs) (n ∷ ns) (p ∷ ps) content rows e =
    let it : content ≡ c = cc in
    ap (λ (content : TableContent). one_more_made (table_with content n p) ∷ entry_tables cs ns ps) it
tables-made (suc base) (c ∷ cs) (n ∷ ns) (p ∷ ps) content rows e =
    let tables : List TenantTable = entry_tables cs ns ps in
    ap (λ (others : List TenantTable). table_with c n p ∷ others) (tables-made base cs ns ps content rows e)
    ∙ sym (tables_with-behind base one_more_made (table_with c n p) tables (slice_get tables base))

-- what the catalogue keeps of the tenant
entry-made : (tenant : Tenant) (base : ℕ) (content : TableContent) (values : List Value) → slice_get tenant.database.current base ≡ Some content →
    entry_of (with_database (with_content tenant.database base (with_row content values)) tenant) ≡ steps.with_table base one_more_made (entry_of tenant)
entry-made tenant base content values there =
    let tables : List TenantTable = entry_tables tenant.database.current tenant.database.extended tenant.placements in
    ap (tenant_with tenant.database.quota)
    (tables-made base tenant.database.current tenant.database.extended tenant.placements content (with_row content values).rows there)
    ∙ sym (entry_with base one_more_made tenant.database.quota tables)

-- a table that the catalogue has not is not held
none-held : (contents : Content) (extended : List (List ℕ)) (placements : List Placement) (base : ℕ) → length extended ≡ length contents → length placements ≡ length contents →
    slice_get (entry_tables contents extended placements) base ≡ None → slice_get contents base ≡ None
none-held [] extended placements base e f none = refl
none-held (c ∷ cs) [] placements base e f none = absurd (omega (arith, e))
none-held (c ∷ cs) (n ∷ ns) [] base e f none = absurd (omega (arith, f))
none-held (c ∷ cs) (n ∷ ns) (p ∷ ps) zero e f none = absurd (let nothing : Some (table_with c n p) ≡ None = none in cc)
none-held (c ∷ cs) (n ∷ ns) (p ∷ ps) (suc base) e f none = none-held cs ns ps base (omega (arith, e)) (omega (arith, f)) none

-- a table's rows with a visible one more
abbrev with_one : List Value → List MarkedRow → List MarkedRow
with_one values kept = kept ++ record { visible = true; values = values } ∷ []

-- a database with the row
inserted-holds : (rows : ℕ → List MarkedRow) (database : PrivateDatabase) (base : ℕ) (content : TableContent) (values : List Value) → slice_get database.current base ≡ Some content → HoldsRows rows database →
    HoldsRows (at_base base (with_one values) rows) (with_content database base (with_row content values))
inserted-holds rows database base content values held holds = record {
  rows_are = set-hold rows database.current base (with_row content values) (with_one values) (λ old e. same old (sym held ∙ e)) holds.rows_are;
  none_open = holds.none_open;
}
  where
    same : (old : TableContent) → Some content ≡ Some old → with_one values content.rows ≡ with_one values old.rows
    same old e = let it : content ≡ old = cc in ap (λ (content : TableContent). with_one values content.rows) it

-- the databases of the service with it
inserted-each : (service : Service) (rows : KeptRows) (number base : ℕ) (tenant : Tenant) (content : TableContent) (values : List Value) → finite.get service.tenants number ≡ Some tenant → slice_get tenant.database.current base ≡ Some content →
    EachHolds service rows → EachHolds (put_database service number (Some (with_content tenant.database base (with_row content values)))) (rows_inserted rows number base values)
inserted-each service rows number base tenant content values there held hold =
    let database : PrivateDatabase = with_content tenant.database base (with_row content values) in
    changed-holds service number (with_database database) rows (rows_inserted rows number base values)
    (λ kept e. subst (λ (rows : ℕ → List MarkedRow). HoldsRows rows database) (rows-own rows number base (with_one values))
    (inserted-holds (rows number) tenant.database base content values held (hold number tenant there)))
    (rows-other rows number base (with_one values))
    hold

-- where there is no table then
inserted-elsewhere : (service : Service) (state : State) (rows : KeptRows) (number base : ℕ) (tenant : Tenant) (content : TableContent) (values : List Value) → ConsistsOf service state rows → finite.get service.tenants number ≡ Some tenant →
    slice_get tenant.database.current base ≡ Some content → (other at : ℕ) → tenant_table (made_one state number base) other at ≡ None → rows_inserted rows number base values other at ≡ []
inserted-elsewhere service state rows number base tenant content values parts there held other at none = by (other == number) (at == base) refl refl
  where
    none_before : tenant_table state other at ≡ None
    none_before = none-changed state number (steps.with_table base one_more_made) (none-table base one_more_made) other at none

    apart : other ≡ number → at ≡ base → ⊥
    apart same_tenant same_table =
        let database : PrivateDatabase = tenant.database in
        let each : HasEach (length service.tables) tenant = parts.in_step number tenant there in
        let entry : finite.get state.tenants number ≡ Some (entry_of tenant) = entry-told service state number parts.catalogue ∙ ap (option_map entry_of) there in
        let gone : slice_get (entry_tables database.current database.extended tenant.placements) base ≡ None =
        ap (table_in base) (sym entry) ∙ ap (λ (number : ℕ). tenant_table state number base) (sym same_tenant) ∙ ap (tenant_table state other) (sym same_table) ∙ none_before in
        let nothing : Some content ≡ None =
        sym held ∙ none-held database.current database.extended tenant.placements base (each.extended ∙ sym each.current) (each.placements ∙ sym each.current) gone in
        cc

    by : (own here : Bool) → (other == number) ≡ own → (at == base) ≡ here → (if own && here then with_one values (rows other at) else rows other at) ≡ []
    by true true e f = absurd (apart (eqb-true other number e) (eqb-true at base f))
    by true false e f = parts.elsewhere other at none_before
    by false here e f = parts.elsewhere other at none_before

-- the catalogue with it
catalogue-inserted : (service : Service) (number base : ℕ) (tenant : Tenant) (content : TableContent) (values : List Value) → finite.get service.tenants number ≡ Some tenant → slice_get tenant.database.current base ≡ Some content →
    catalogue_of (put_database service number (Some (with_content tenant.database base (with_row content values)))) ≡ made_one (catalogue_of service) number base
catalogue-inserted service number base tenant content values there held = catalogue-changed service number (with_database database) (steps.with_table base one_more_made) same
  where
    database : PrivateDatabase
    database = with_content tenant.database base (with_row content values)

    same : (kept : Tenant) → finite.get service.tenants number ≡ Some kept → entry_of (with_database database kept) ≡ steps.with_table base one_more_made (entry_of kept)
    same kept e =
        let found : Some tenant ≡ Some kept = sym there ∙ e in
        let it : tenant ≡ kept = cc in
        subst (λ (kept : Tenant). entry_of (with_database database kept) ≡ steps.with_table base one_more_made (entry_of kept)) it (entry-made tenant base content values held)

-- once a row was inserted
pub parts-inserted : (service : Service) (state : State) (rows : KeptRows) (number base : ℕ) (tenant : Tenant) (content : TableContent) (values : List Value) →
    ConsistsOf service state rows → finite.get service.tenants number ≡ Some tenant → slice_get tenant.database.current base ≡ Some content →
    ConsistsOf (put_database service number (Some (with_content tenant.database base (with_row content values)))) (made_one state number base) (rows_inserted rows number base values)
parts-inserted service state rows number base tenant content values parts there held =
    let database : PrivateDatabase = with_content tenant.database base (with_row content values) in
    let own : HasEach (length service.tables) tenant = parts.in_step number tenant there in
    record {
      in_step = changed-in_step service number (with_database database)
          (λ kept each. record { extended = own.extended; current = length-set tenant.database.current base (with_row content values) ∙ own.current; placements = each.placements; used = each.used })
          parts.in_step;
      catalogue = catalogue-inserted service number base tenant content values there held ∙ ap (λ (state : State). made_one state number base) parts.catalogue;
      databases = inserted-each service rows number base tenant content values there held parts.databases;
      elsewhere = inserted-elsewhere service state rows number base tenant content values parts there held;
    }
