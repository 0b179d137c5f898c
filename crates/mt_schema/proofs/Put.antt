-- A catalogue with a tenant that was put into it.
use Rattle.std.proofs.Common.{◌≡◌, ◌≢◌, ℕ, cond, Option, None, Some, refl, ap, ◌∙◌, eq-eqb, ne_eqb}
use Rattle.std.specs.FinMap as finite
use Rattle.mt_catalog.specs.declared.state.TenantEntry.{TenantEntry}
use Rattle.mt_catalog.specs.State.{State, table_in, tenant_table}
use Rattle.mt_schema.specs.Steps.{with_tenant}
use Rattle.mt_schema.proofs.Maps.{get-insert}

-- the catalogue in which this is kept of a tenant
abbrev pub put_tenant : State → ℕ → TenantEntry → State
put_tenant state tenant entry = record { bases = state.bases; extensions = state.extensions; tenants = finite.insert state.tenants tenant entry }

-- to change a tenant that is there is to put it anew
pub with_tenant_there : (state : State) (tenant : ℕ) (change : TenantEntry → TenantEntry) (entry : TenantEntry) → finite.get state.tenants tenant ≡ Some entry → with_tenant state tenant change ≡ put_tenant state tenant (change entry)
with_tenant_there state tenant change entry there = by (finite.get state.tenants tenant) ∙ ap changed there
  where
    changed : Option TenantEntry → State
    changed o = elim o [ None ↦ state | Some e ↦ put_tenant state tenant (change e) ]

    by : (o : Option TenantEntry) → (elim o [ None ↦ state | Some e ↦ record { bases = state.bases; extensions = state.extensions; tenants = finite.insert state.tenants tenant (change e) } ]) ≡ changed o
    by None = refl
    by (Some e) = refl

module _ (state : State) (tenant : ℕ) (entry : TenantEntry) where
  pub tenant_at : (other : ℕ) → other ≢ tenant → finite.get (put_tenant state tenant entry).tenants other ≡ finite.get state.tenants other
  tenant_at other apart = get-insert state.tenants tenant entry other ∙ ap (λ here. cond here (Some entry) (finite.get state.tenants other)) (ne_eqb other tenant apart)

  pub new_tenant : finite.get (put_tenant state tenant entry).tenants tenant ≡ Some entry
  new_tenant = get-insert state.tenants tenant entry tenant ∙ ap (λ here. cond here (Some entry) (finite.get state.tenants tenant)) (eq-eqb tenant tenant refl)

  pub table_at : (other base : ℕ) → other ≢ tenant → tenant_table (put_tenant state tenant entry) other base ≡ tenant_table state other base
  table_at other base apart = ap (table_in base) (tenant_at other apart)
