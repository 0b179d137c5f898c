-- What is kept at first: an empty catalogue, and no row.
use Rattle.std.proofs.Common.{◌≡◌, ℕ, List, [], Some, None, refl, sym, ap, ◌∙◌, subst, arith}
use Rattle.std.specs.Ordering.{nat_cmp}
use Rattle.std.specs.Cmp.{nat_cmp_total}
use Rattle.std.specs.List.{IsDistinct}
use Rattle.std.specs.FinMap as finite
use Rattle.std.proofs.lemmas.List.{nil_from_length}
use Rattle.std.proofs.lemmas.List.Elements.{All-nil}
use Rattle.mt_tree.specs.declared.schema.Table.{Table}
use Rattle.mt_catalog.specs.declared.state.Extension.{Extension}
use Rattle.mt_catalog.specs.declared.state.TenantEntry.{TenantEntry}
use Rattle.mt_catalog.specs.Rules.{IsBase, IsCatalogue, IsExtension, quota_total}
use Rattle.mt_catalog.specs.State.{State, empty_state, table_in}
use Rattle.mt_model.specs.Parts.{ConsistsOf}
use Rattle.mt_model.specs.Service.{empty_service}
use Rattle.mt_private.specs.Kept.{AreKept, TableRows, rows_in}
use Rattle.mt_private.proofs.Keeping.{consists_same}

no_quotas : quota_total empty_state ≡ 0
unfolding empty_state quota_total
no_quotas =
    rw (nil_from_length (finite.entries (finite.empty {X = TenantEntry} {R = nat_cmp}))
    (sym (finite.len-entries (finite.empty {X = TenantEntry} {R = nat_cmp})) ∙ finite.len-empty nat_cmp TenantEntry)) refl

no_tenant : (tenant : ℕ) → finite.get empty_state.tenants tenant ≡ None
unfolding empty_state
no_tenant tenant = finite.get-empty nat_cmp tenant

empty_rules : IsCatalogue empty_state
unfolding empty_state IsDistinct
empty_rules = record {
  few_bases = omega arith;
  few_extensions = omega arith;
  few_tenants = omega (arith, finite.len-empty nat_cmp TenantEntry);
  bases = All-nil IsBase;
  base_names = tt;
  extensions = All-nil (IsExtension empty_state);
  extension_names = tt;
  tenants = λ number entry e. let none : Some entry ≡ None = sym e ∙ finite.get-empty nat_cmp number in absurd (cc);
  quotas = omega (arith, no_quotas);
}

-- the catalogue of empty lists and an empty map
pub state_is : (bases : List Table) (extensions : List Extension) (tenants : List (ℕ × TenantEntry)) → bases ≡ [] → extensions ≡ [] → tenants ≡ []
    → empty_state ≡ record { bases = bases; extensions = extensions; tenants = finite.from_entries tenants }
unfolding empty_state
state_is bases extensions tenants a b c =
    ap (λ (of : finite.FinMap nat_cmp TenantEntry). record { bases = []; extensions = []; tenants = of }) none
    ∙ ap (λ of. record { bases = []; extensions = []; tenants = finite.from_entries of }) (sym c)
    ∙ ap (λ of. record { bases = []; extensions = of; tenants = finite.from_entries tenants }) (sym b)
    ∙ ap (λ of. record { bases = of; extensions = extensions; tenants = finite.from_entries tenants }) (sym a)
  where
    none : finite.empty ≡ finite.from_entries {X = TenantEntry} {R = nat_cmp} []
    none = finite.same_map nat_cmp_total finite.nat_cmp-IsAntisymmetric finite.empty (finite.from_entries [])
        (λ number. finite.get-empty nat_cmp number ∙ sym (finite.get-from_entries nat_cmp_total [] number))

pub kept_at_first : (state : State) (entries : TableRows) → empty_state ≡ state → entries ≡ [] → ConsistsOf empty_service empty_state (λ tenant base. []) → AreKept state entries empty_service
kept_at_first state entries is none consists = subst (λ (of : State). AreKept of entries empty_service) is (record {
  rules = empty_rules;
  consists = consists_same empty_service empty_state (λ tenant base. []) (rows_in entries) (λ tenant base. ap (λ (of : TableRows). rows_in of tenant base) none) consists;
  tables = λ tenant base table there. let no : Some table ≡ None = sym there ∙ ap (table_in base) (no_tenant tenant) in absurd (cc);
  quotas = λ tenant entry there. let no : Some entry ≡ None = sym there ∙ no_tenant tenant in absurd (cc);
})
