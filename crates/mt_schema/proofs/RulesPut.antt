-- A catalogue with a tenant that was put into it keeps the rules: after CREATE TENANT and SET QUOTA.
use Rattle.std.proofs.Common.{◌≡◌, ⊎_elim, ℕ, ◌+◌, ◌-◌, ◌≤◌, true, cond, map, Option, None, Some, refl, sym, ap, ◌∙◌, subst, arith}
use Rattle.std.specs.Prelude.{is_some, option_map, slice_get}
use Rattle.std.specs.Cmp.{nat_cmp_total}
use Rattle.std.specs.FinMap as finite
use Rattle.std.proofs.lemmas.Bool.{and_parts, cases_eq, leb-true, ltb-false, not-false, or_parts}
use Rattle.std.proofs.lemmas.List.{length-map}
use Rattle.std.proofs.lemmas.List.Elements.{All-weaker}
use Rattle.std.proofs.lemmas.Option.{slice_get-map}
use Rattle.mt_tree.specs.declared.command.AdminCmd.TheVariants.{CreateTenant, SetQuota}
use Rattle.mt_tree.specs.declared.schema.Table.{Table}
use Rattle.mt_catalog.specs.declared.state.TenantEntry.{TenantEntry}
use Rattle.mt_catalog.specs.declared.state.TenantTable.{TenantTable}
use Rattle.mt_catalog.specs.State.{State}
use Rattle.mt_catalog.specs.Rules.{IsBase, IsCatalogue, IsExtension, IsTenant, IsTenantTable, quota_total}
use Rattle.mt_catalog.proofs.Limits.{member_keeps}
use Rattle.mt_schema.specs.Refusals.{first_holding, is_within, quota_of, quota_tests, tenant_tests}
use Rattle.mt_schema.specs.Steps.{new_table, stepped}
use Rattle.mt_schema.proofs.Put.{new_tenant, put_tenant, tenant_at, with_tenant_there}
use Rattle.mt_schema.proofs.Quotas.{quotas_put}
use Rattle.mt_schema.proofs.Refused.{none_holds}
use Rattle.mt_schema.proofs.NewTable.{new_table_is}
use Rattle.mt_schema.proofs.Stays.{extension_stays, table_stays, tenant_stays}

-- how many tenants there are
pub len_put : (state : State) (tenant : ℕ) (entry : TenantEntry) → finite.len (put_tenant state tenant entry).tenants ≡ cond (finite.contains_key state.tenants tenant) (finite.len state.tenants) (finite.len state.tenants + 1)
len_put state tenant entry = finite.len-insert nat_cmp_total state.tenants tenant entry

module _ (state : State) (rules : IsCatalogue state) (tenant : ℕ) (entry : TenantEntry) where
  abbrev after : State
  after = put_tenant state tenant entry

  -- what a table of another tenant keeps, it keeps
  pub kept_table : (base : ℕ) (table : TenantTable) → IsTenantTable state base table → IsTenantTable after base table
  kept_table base table is = table_stays state after base refl (λ number extension e. e) table is

  pub put_keeps : IsTenant after tenant entry → finite.len after.tenants ≤ 1000 → quota_total after ≤ 1048576 → IsCatalogue after
  put_keeps is few total = record {
    few_bases = rules.few_bases;
    few_extensions = rules.few_extensions;
    few_tenants = few;
    bases = rules.bases;
    base_names = rules.base_names;
    extensions = All-weaker (IsExtension state) (IsExtension after) (λ extension of. extension_stays state after extension refl (omega arith) of) state.extensions rules.extensions;
    extension_names = rules.extension_names;
    tenants = tenants_are;
    quotas = total;
  }
    where
      at_own : (number : ℕ) (one : TenantEntry) → finite.get after.tenants number ≡ Some one → number ≡ tenant → IsTenant after number one
      at_own number one e same =
          let there : Some entry ≡ Some one = sym (new_tenant state tenant entry) ∙ sym (ap (finite.get after.tenants) same) ∙ e in
          let own : entry ≡ one = cc in
          subst (λ n. IsTenant after n one) (sym same) (subst (IsTenant after tenant) own is)

      tenants_are : (number : ℕ) (one : TenantEntry) → finite.get after.tenants number ≡ Some one → IsTenant after number one
      tenants_are number one e = ⊎_elim (at_own number one e)
          (λ apart. tenant_stays state after refl (λ base. refl) (λ n extension h. h) number one (rules.tenants number one (sym (tenant_at state tenant entry number apart) ∙ e)))
          (cases_eq number tenant)

between : (from upto n : ℕ) → is_within from upto n ≡ true → (from ≤ n) × (n ≤ upto)
between from upto n e = let both = and_parts _ _ e in (leb-true from n both.0, leb-true n upto both.1)

pub tenant_keeps : (state : State) (tenant quota : ℕ) → IsCatalogue state → first_holding (tenant_tests state tenant quota) ≡ None → IsCatalogue (stepped state (CreateTenant tenant quota))
tenant_keeps state tenant quota rules accepted =
    let fails = none_holds (tenant_tests state tenant quota) accepted in
    let limits = or_parts _ _ fails.1.0 in
    let numbers = or_parts _ _ limits.0 in
    let few = ltb-false 999 (finite.len state.tenants) numbers.0 in
    let number = between 1 4294967295 tenant (not-false _ numbers.1) in
    let quotas = between 1 65536 quota (not-false _ limits.1) in
    let sum = ltb-false 1048576 (quota_total state + quota) fails.1.1.0 in
    let size = len_put state tenant entry ∙ ap (λ b. cond b (finite.len state.tenants) (finite.len state.tenants + 1)) fails.0 in
    let total = quotas_put state tenant entry in
    let high = number.1 in
    put_keeps state rules tenant entry (record {
      number_from = number.0;
      number_upto = omega (arith, high);
      quota_from = quotas.0;
      quota_upto = quotas.1;
      each_base = length-map state.bases new_table;
      tables = λ base table there. at base table (slice_get state.bases base) refl (sym (slice_get-map new_table state.bases base) ∙ there);
    }) (omega (arith, few, size)) (omega (arith, sum, total))
  where
    entry : TenantEntry
    entry = record { quota = quota; tables = map new_table state.bases }

    at : (base : ℕ) (table : TenantTable) (o : Option Table) → slice_get state.bases base ≡ o → option_map new_table o ≡ Some table → IsTenantTable (put_tenant state tenant entry) base table
    at base table None e f = absurd (cc)
    at base table (Some of) e f =
        let same : new_table of ≡ table = cc in
        subst (IsTenantTable (put_tenant state tenant entry) base) same (new_table_is (put_tenant state tenant entry) base of e (member_keeps IsBase state.bases base of rules.bases e))

pub quota_keeps : (state : State) (kept tenant quota : ℕ) (entry : TenantEntry) → IsCatalogue state → finite.get state.tenants tenant ≡ Some entry → first_holding (quota_tests state kept tenant quota) ≡ None
    → IsCatalogue (stepped state (SetQuota tenant quota))
quota_keeps state kept tenant quota entry rules there accepted =
    let fails = none_holds (quota_tests state kept tenant quota) accepted in
    let quotas = between 1 65536 quota (not-false _ fails.1.0) in
    let sum = ltb-false 1048576 (quota_total state - quota_of (finite.get state.tenants tenant) + quota) fails.1.1.1.0 in
    let size = len_put state tenant changed ∙ ap (λ o. cond (is_some o) (finite.len state.tenants) (finite.len state.tenants + 1)) there in
    let few = rules.few_tenants in
    let total = quotas_put state tenant changed in
    let is = rules.tenants tenant entry there in
    subst IsCatalogue (sym (with_tenant_there state tenant (λ e. record { quota = quota; tables = e.tables }) entry there))
    (put_keeps state rules tenant changed (record {
      number_from = is.number_from;
      number_upto = is.number_upto;
      quota_from = quotas.0;
      quota_upto = quotas.1;
      each_base = is.each_base;
      tables = λ base table h. kept_table state rules tenant changed base table (is.tables base table h);
    }) (omega (arith, few, size)) (omega (arith, sum, total)))
  where
    changed : TenantEntry
    changed = record { quota = quota; tables = entry.tables }
