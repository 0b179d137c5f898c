-- The rows of a service's tables where one table, or one tenant, is changed.
use Rattle.std.proofs.Common.{◌≡◌, ℕ, zero, suc, ◌==◌, ◌&&◌, Bool, true, false, cond, if◌then◌else◌, List, [], ◌∷◌, Option, Some, None, refl, sym, ap, ◌∙◌, subst, eq-eqb, eqb-true}
use Rattle.std.specs.Prelude.{option_map, slice_get, slice_set}
use Rattle.std.specs.FinMap as finite
use Rattle.std.proofs.lemmas.Bool.{eqb-false}
use Rattle.mt_catalog.specs.declared.state.TenantEntry.{TenantEntry}
use Rattle.mt_catalog.specs.declared.state.TenantTable.{TenantTable}
use Rattle.mt_catalog.specs.State.{State, table_in, tenant_table}
use Rattle.mt_schema.specs.Steps as steps
use Rattle.mt_schema.proofs.Maps.{get-insert}
use Rattle.mt_schema.proofs.Numbered.{changed_elsewhere}
use Rattle.mt_model.specs.Database.{Content, MarkedRow, TableContent}
use Rattle.mt_model.specs.Laws.{changed_where, service_with, with_tenant-kept}
use Rattle.mt_model.specs.Parts.{HoldsRows, KeptRows, rows_with}
use Rattle.mt_model.specs.Service.{Service, Tenant, with_tenant}
use Rattle.mt_model.proofs.Stepped.{entry-kept, entry_where, entry_with, tables_with}

-- what is set in a list is found where something was
get-set_same : {A : Type 0} (xs : List A) (at : ℕ) (x : A) → slice_get (slice_set xs at x) at ≡ option_map (λ y. x) (slice_get xs at)
get-set_same [] at x = refl
get-set_same (y ∷ ys) zero x = refl
get-set_same (y ∷ ys) (suc at) x = get-set_same ys at x

-- nothing is found in it where nothing was
none-set : {A : Type 0} (xs : List A) (at : ℕ) (x : A) (i : ℕ) → slice_get (slice_set xs at x) i ≡ None → slice_get xs i ≡ None
none-set [] at x i none = refl
none-set (y ∷ ys) zero x zero none = absurd (let e : Some x ≡ None = none in cc)
none-set (y ∷ ys) zero x (suc i) none = none
none-set (y ∷ ys) (suc at) x zero none = none
none-set (y ∷ ys) (suc at) x (suc i) none = none-set ys at x i none

-- The contents of tables hold these rows.
abbrev pub Hold : (ℕ → List MarkedRow) → Content → Type 0
Hold rows contents = (base : ℕ) (content : TableContent) → slice_get contents base ≡ Some content → content.rows ≡ rows base

-- the rows with those of one table changed
abbrev pub at_base : ℕ → (List MarkedRow → List MarkedRow) → (ℕ → List MarkedRow) → ℕ → List MarkedRow
at_base base change rows other = if other == base then change (rows other) else rows other

-- once one table's content was set
pub set-hold : (rows : ℕ → List MarkedRow) (contents : Content) (base : ℕ) (new : TableContent) (change : List MarkedRow → List MarkedRow) →
    ((old : TableContent) → slice_get contents base ≡ Some old → new.rows ≡ change old.rows) → Hold rows contents → Hold (at_base base change rows) (slice_set contents base new)
set-hold rows contents base new change made hold other content there = by (other == base) refl
  where
    own : other ≡ base → (old : Option TableContent) → slice_get contents base ≡ old → option_map (λ y. new) old ≡ Some content → content.rows ≡ change (rows other)
    own same None e set = absurd (cc)
    own same (Some old) e set =
        let it : new ≡ content = cc in
        ap (λ (content : TableContent). content.rows) (sym it) ∙ made old e ∙ ap change (hold base old e ∙ ap rows (sym same))

    by : (here : Bool) → (other == base) ≡ here → content.rows ≡ (if here then change (rows other) else rows other)
    by true e =
        let same : other ≡ base = eqb-true other base e in
        own same (slice_get contents base) refl (sym (get-set_same contents base new) ∙ ap (slice_get (slice_set contents base new)) (sym same) ∙ there)
    by false apart = hold other content (sym (changed_elsewhere contents base new other (eqb-false other base apart)) ∙ there)

-- the rows of the tenant one of whose tables is changed, and those of another
pub rows-own : (rows : KeptRows) (tenant base : ℕ) (change : List MarkedRow → List MarkedRow) → at_base base change (rows tenant) ≡ rows_with rows tenant base change tenant
rows-own rows tenant base change = sym (ap (λ (here : Bool). λ (other : ℕ). if here && other == base then change (rows tenant other) else rows tenant other) (eq-eqb tenant tenant refl))

pub rows-other : (rows : KeptRows) (tenant base : ℕ) (change : List MarkedRow → List MarkedRow) (number : ℕ) → (number == tenant) ≡ false → rows_with rows tenant base change number ≡ rows number
rows-other rows tenant base change number apart = ap (λ (here : Bool). λ (other : ℕ). if here && other == base then change (rows number other) else rows number other) apart

-- Each tenant's tables hold these rows, and no transaction is open.
abbrev pub EachHolds : Service → KeptRows → Type 0
EachHolds service rows = (number : ℕ) (tenant : Tenant) → finite.get service.tenants number ≡ Some tenant → HoldsRows (rows number) tenant.database

-- once a tenant was put
pub put-holds : (service : Service) (at : ℕ) (kept : Tenant) (rows : KeptRows) → HoldsRows (rows at) kept.database →
    ((number : ℕ) (tenant : Tenant) → (number == at) ≡ false → finite.get service.tenants number ≡ Some tenant → HoldsRows (rows number) tenant.database) →
    EachHolds (service_with service.tables service.extensions (finite.insert service.tenants at kept)) rows
put-holds service at kept rows own others number tenant there = by (number == at) refl (sym (get-insert service.tenants at kept number) ∙ there)
  where
    by : (here : Bool) → (number == at) ≡ here → cond here (Some kept) (finite.get service.tenants number) ≡ Some tenant → HoldsRows (rows number) tenant.database
    by true same put =
        let it : kept ≡ tenant = cc in
        let held : HoldsRows (rows number) kept.database = subst (λ (number : ℕ). HoldsRows (rows number) kept.database) (sym (eqb-true number at same)) own in
        subst (λ (tenant : Tenant). HoldsRows (rows number) tenant.database) it held
    by false apart put = others number tenant apart put

-- once a tenant was changed
pub changed-holds : (service : Service) (at : ℕ) (change : Tenant → Tenant) (rows new : KeptRows) →
    ((kept : Tenant) → finite.get service.tenants at ≡ Some kept → HoldsRows (new at) (change kept).database) → ((number : ℕ) → (number == at) ≡ false → new number ≡ rows number) →
    EachHolds service rows → EachHolds (with_tenant service at change) new
changed-holds service at change rows new own same hold =
    subst (λ (service : Service). EachHolds service new) (sym (with_tenant-kept service at change (finite.get service.tenants at) refl)) (by (finite.get service.tenants at) refl)
  where
    other : (number : ℕ) (tenant : Tenant) → (number == at) ≡ false → finite.get service.tenants number ≡ Some tenant → HoldsRows (new number) tenant.database
    other number tenant apart there = subst (λ (rows : ℕ → List MarkedRow). HoldsRows rows tenant.database) (sym (same number apart)) (hold number tenant there)

    none : finite.get service.tenants at ≡ None → (number : ℕ) (tenant : Tenant) → finite.get service.tenants number ≡ Some tenant → (here : Bool) → (number == at) ≡ here → HoldsRows (new number) tenant.database
    none e number tenant there true same =
        let nothing : None ≡ Some tenant = sym e ∙ ap (finite.get service.tenants) (sym (eqb-true number at same)) ∙ there in
        absurd (cc)
    none e number tenant there false apart = other number tenant apart there

    by : (kept : Option Tenant) → finite.get service.tenants at ≡ kept → EachHolds (changed_where service at change kept) new
    by None e = λ number tenant there. none e number tenant there (number == at) refl
    by (Some kept) e = put-holds service at (change kept) new (own kept e) other

-- a table that is not there once one of a tenant's was changed was not there before
pub none-table : (base : ℕ) (change : TenantTable → TenantTable) (entry : TenantEntry) (other : ℕ) → slice_get (steps.with_table base change entry).tables other ≡ None → slice_get entry.tables other ≡ None
none-table base change entry other none = by (slice_get entry.tables base) (ap (λ (entry : TenantEntry). slice_get entry.tables other) (sym (entry_with base change entry.quota entry.tables)) ∙ none)
  where
    by : (found : Option TenantTable) → slice_get (tables_with base change entry.tables found) other ≡ None → slice_get entry.tables other ≡ None
    by None e = e
    by (Some table) e = none-set entry.tables base (change table) other e

-- so it is with one that is not there once a tenant was changed
pub none-changed : (state : State) (at : ℕ) (change : TenantEntry → TenantEntry) → ((entry : TenantEntry) (base : ℕ) → slice_get (change entry).tables base ≡ None → slice_get entry.tables base ≡ None) →
    (number base : ℕ) → tenant_table (steps.with_tenant state at change) number base ≡ None → tenant_table state number base ≡ None
none-changed state at change stays number base none =
    by (finite.get state.tenants at) refl (ap (λ (state : State). tenant_table state number base) (sym (entry-kept state at change (finite.get state.tenants at) refl)) ∙ none)
  where
    put : (entry : TenantEntry) → finite.get state.tenants at ≡ Some entry → (here : Bool) → (number == at) ≡ here → table_in base (cond here (Some (change entry)) (finite.get state.tenants number)) ≡ None → tenant_table state number base ≡ None
    put entry e true same f = ap (table_in base) (ap (finite.get state.tenants) (eqb-true number at same) ∙ e) ∙ stays entry base f
    put entry e false apart f = f

    by : (entry : Option TenantEntry) → finite.get state.tenants at ≡ entry → tenant_table (entry_where state at change entry) number base ≡ None → tenant_table state number base ≡ None
    by None e f = f
    by (Some entry) e f = put entry e (number == at) refl (ap (table_in base) (sym (get-insert state.tenants at (change entry) number)) ∙ f)
