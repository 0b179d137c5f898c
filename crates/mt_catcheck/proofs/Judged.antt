-- The rules of a catalogue by the parts that one test decides each.
use Rattle.std.proofs.Common.{◌≡◌, ℕ, ◌≤◌, List, length, sym, ap, ◌∙◌, subst}
use Rattle.std.specs.Prelude.{◌↔◌, All, nat_eq, slice_get, sum_by}
use Rattle.std.specs.FinMap as finite
use Rattle.std.specs.List.{IsDistinct}
use Rattle.std.specs.Map.{keys_of, values_of}
use Rattle.std.specs.Ordering.{nat_cmp}
use Rattle.mt_tree.specs.declared.schema.Column.{Column}
use Rattle.mt_catalog.specs.declared.state.Extension.{Extension}
use Rattle.mt_catalog.specs.declared.state.TenantEntry.{TenantEntry}
use Rattle.mt_catalog.specs.declared.state.TenantTable.{TenantTable}
use Rattle.mt_catalog.specs.Clauses.{AreFewTenants, AreKept, KeepsMostRules, QuotasFit}
use Rattle.mt_catalog.specs.Rules.{IsCatalogue, IsTenant, IsTenantTable, quota_total}
use Rattle.mt_catalog.specs.State.{State, base_columns, extended_columns}
use Rattle.mt_catalog.proofs.Numbered.{as_many, each_got, got_each, same_sum}

-- the quotas of the members of a map, and of entries
abbrev quotas_in : finite.FinMap nat_cmp TenantEntry → ℕ
quotas_in tenants = sum_by (λ entry. entry.quota) (finite.values tenants)

abbrev quotas : List (ℕ × TenantEntry) → ℕ
quotas es = sum_by (λ entry. entry.quota) (values_of es)

module _ (state : State) (es : List (ℕ × TenantEntry)) (is : finite.from_entries es ≡ state.tenants) (distinct : IsDistinct nat_eq (keys_of es)) where
  counted : finite.len state.tenants ≡ length es
  counted = ap finite.len (sym is) ∙ as_many es distinct

  summed : quota_total state ≡ quotas es
  unfolding quota_total
  summed = ap (λ (tenants : finite.FinMap nat_cmp TenantEntry). quotas_in tenants) (sym is) ∙ same_sum (λ entry. entry.quota) es distinct

  -- few entries are few tenants, and their quotas those of the tenants
  pub few_tenants : ((length es ≤ 1000) × QuotasFit (values_of es)) ↔ AreFewTenants state
  few_tenants = (
    λ few. (subst (λ (n : ℕ). n ≤ 1000) (sym counted) few.0, subst (λ (n : ℕ). n ≤ 1048576) (sym summed) few.1),
    λ few. (subst (λ (n : ℕ). n ≤ 1000) counted few.0, subst (λ (n : ℕ). n ≤ 1048576) summed few.1),
  )

  -- the most rules, and those of each entry, are all
  pub all_rules : KeepsMostRules state → All (λ (entry : ℕ × TenantEntry). IsTenant state entry.0 entry.1) es → IsCatalogue state
  all_rules most each = record {
    few_bases = most.0.0;
    few_extensions = most.1.0;
    few_tenants = most.2.0;
    bases = most.0.1;
    base_names = most.0.2;
    extensions = most.1.1;
    extension_names = most.1.2;
    tenants = λ n entry got. each_got (IsTenant state) es each n entry (ap (λ (tenants : finite.FinMap nat_cmp TenantEntry). finite.get tenants n) is ∙ got);
    quotas = most.2.1;
  }

  pub each_rule : IsCatalogue state → All (λ (entry : ℕ × TenantEntry). IsTenant state entry.0 entry.1) es
  each_rule kept = got_each (IsTenant state) es distinct (λ n entry got. kept.tenants n entry (ap (λ (tenants : finite.FinMap nat_cmp TenantEntry). finite.get tenants n) (sym is) ∙ got))

pub most_rules : (state : State) → IsCatalogue state → KeepsMostRules state
most_rules state kept = ((kept.few_bases, kept.bases, kept.base_names), (kept.few_extensions, kept.extensions, kept.extension_names), (kept.few_tenants, kept.quotas))

-- a tenant's table is kept by the parts that are known of it
pub table_kept : (state : State) (base base_len : ℕ) (table : TenantTable) (columns : List Column) (extensions : List Extension) → columns ≡ extended_columns state base table.extended
    → base_len ≡ length (base_columns (slice_get state.bases base)) → extensions ≡ state.extensions → AreKept extensions base base_len table columns ↔ IsTenantTable state base table
table_kept state base base_len table columns extensions columns_are len_is extensions_are = (
  λ kept.
      let by_columns = subst (λ (of : List Column). AreKept extensions base base_len table of) columns_are kept in
      let by_length = subst (λ (n : ℕ). AreKept extensions base n table (extended_columns state base table.extended)) len_is by_columns in
      let whole = subst (λ (of : List Extension). AreKept of base (length (base_columns (slice_get state.bases base))) table (extended_columns state base table.extended)) extensions_are by_length in
      record { made = whole.0.0.0; extended = whole.0.1; few = whole.1.0; apart = whole.1.1; placement = whole.2; moves = whole.0.0.1 },
  λ rules.
      let whole : AreKept state.extensions base (length (base_columns (slice_get state.bases base))) table (extended_columns state base table.extended) = (((rules.made, rules.moves), rules.extended), (rules.few, rules.apart), rules.placement) in
      let by_extensions = subst (λ (of : List Extension). AreKept of base (length (base_columns (slice_get state.bases base))) table (extended_columns state base table.extended)) (sym extensions_are) whole in
      let by_length = subst (λ (n : ℕ). AreKept extensions base n table (extended_columns state base table.extended)) (sym len_is) by_extensions in
      subst (λ (of : List Column). AreKept extensions base base_len table of) (sym columns_are) by_length,
)
