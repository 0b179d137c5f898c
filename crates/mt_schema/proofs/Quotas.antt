-- The quotas of all tenants together, in two catalogues.
use Rattle.std.proofs.Common.{◌≡◌, ℕ, ◌+◌, List, Option, None, Some, refl, sym, ap, ◌∙◌, sum_by}
use Rattle.std.specs.Prelude.{nat_eq}
use Rattle.std.specs.FinMap as finite
use Rattle.std.specs.List.{IsDistinct}
use Rattle.std.specs.Map.{keys_of, values_of}
use Rattle.mt_catalog.specs.declared.state.TenantEntry.{TenantEntry}
use Rattle.mt_catalog.specs.State.{State}
use Rattle.mt_catalog.specs.Rules.{quota_total}
use Rattle.mt_catalog.proofs.Numbered.{same_sum}
use Rattle.mt_schema.specs.Refusals.{quota_of}
use Rattle.mt_schema.specs.Steps.{in_each}
use Rattle.mt_schema.proofs.Put.{put_tenant}
use Rattle.mt_schema.proofs.Totals.{measured, sum-in_each, sum-insert}

pub quotas_same : (state after : State) → after.tenants ≡ state.tenants → quota_total after ≡ quota_total state
unfolding quota_total
quotas_same state after same = ap (λ tenants. sum_by (λ entry. entry.quota) (finite.values tenants)) same

-- where each tenant is changed, but not its quota
pub quotas_kept : (state after : State) (change : TenantEntry → TenantEntry) → ((entry : TenantEntry) → (change entry).quota ≡ entry.quota) → after.tenants ≡ in_each change state.tenants → quota_total after ≡ quota_total state
unfolding quota_total
quotas_kept state after change same made =
    ap (λ tenants. sum_by (λ entry. entry.quota) (finite.values tenants)) made ∙ sum-in_each change (λ entry. entry.quota) (λ entry. entry.quota) same state.tenants

measured_quota : (o : Option TenantEntry) → measured (λ entry. entry.quota) o ≡ quota_of o
measured_quota None = refl
measured_quota (Some entry) = refl

-- where a tenant is put
pub quotas_put : (state : State) (tenant : ℕ) (entry : TenantEntry) → quota_total (put_tenant state tenant entry) + quota_of (finite.get state.tenants tenant) ≡ quota_total state + entry.quota
unfolding quota_total
quotas_put state tenant entry =
    ap (λ n. sum_by (λ e. e.quota) (finite.values (finite.insert state.tenants tenant entry)) + n) (sym (measured_quota (finite.get state.tenants tenant))) ∙ sum-insert (λ e. e.quota) state.tenants tenant entry

-- of the entries that the map of the tenants is made of
pub quotas_are : (state : State) (es : List (ℕ × TenantEntry)) → finite.from_entries es ≡ state.tenants → IsDistinct nat_eq (keys_of es) → quota_total state ≡ sum_by (λ entry. entry.quota) (values_of es)
unfolding quota_total
quotas_are state es is distinct = ap (λ tenants. sum_by (λ entry. entry.quota) (finite.values tenants)) (sym is) ∙ same_sum (λ entry. entry.quota) es distinct
