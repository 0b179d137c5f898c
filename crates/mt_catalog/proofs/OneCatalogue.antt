-- Tenants that are found are determined, and with them catalogues.
use Rattle.std.proofs.Common.{◌≡◌, ℕ, List, length, Option, None, Some, refl, sym, ap, ◌∙◌, subst}
use Rattle.std.specs.Ordering.{nat_cmp}
use Rattle.std.specs.Cmp.{nat_cmp_total}
use Rattle.std.specs.FinMap as finite
use Rattle.mt_tree.specs.declared.schema.Table.{Table}
use Rattle.mt_fold.specs.declared.fold.Placement.{Placement}
use Rattle.mt_catslot.specs.declared.slot.Motion.{Motion}
use Rattle.mt_catslot.specs.declared.slot.Motion.TheVariants as motions
use Rattle.mt_catslot.specs.declared.slot.CatKey.TheVariants as keys
use Rattle.mt_catalog.specs.declared.state.Extension.{Extension}
use Rattle.mt_catalog.specs.declared.state.TenantEntry.{TenantEntry}
use Rattle.mt_catalog.specs.declared.state.TenantTable.{TenantTable}
use Rattle.mt_catalog.specs.State.{State}
use Rattle.mt_catalog.specs.Slots.{motion_of}
use Rattle.mt_catalog.specs.Found.{AreFoundFolds, Found, IsFound, IsFoundEntry, IsFoundTable, IsFoundTenant, columns_among, extended_found}
use Rattle.mt_catalog.proofs.OneFold.{one_placement}
use Rattle.mt_catalog.proofs.OneRelation.{one_bases, one_extensions}
use Rattle.mt_catalog.proofs.Runs.{one_run_of, same_members}

made_in : Option (ℕ × Motion) → ℕ
made_in None = 0
made_in (Some placed) = placed.0

motion_in : Option (ℕ × Motion) → Motion
motion_in None = motions.Settled 0
motion_in (Some placed) = placed.1

module _ (found : Found) (bases : List Table) (extensions : List Extension) (tenant : ℕ) where
  one_table : (base : ℕ) (a b : TenantTable) → IsFoundTable found bases extensions tenant base a → IsFoundTable found bases extensions tenant base b → a ≡ b
  unfolding made_in motion_in
  one_table base a b is other =
      let make : ℕ → List ℕ → Placement → TenantTable = λ made extended placement. record { made = made; extended = extended; placement = placement } in
      let mades : a.made ≡ b.made = ap made_in (sym is.placed ∙ other.placed) in
      let motions : motion_of a.placement ≡ motion_of b.placement = ap motion_in (sym is.placed ∙ other.placed) in
      let numbers : a.extended ≡ b.extended = one_run_of (λ position. extended_found (found (keys.Extended tenant base position))) a.extended b.extended is.extended_are other.extended_are in
      let placements : a.placement ≡ b.placement = one_placement found tenant base (length (columns_among bases extensions base b.extended)) a.placement b.placement motions
      (subst (λ (of : List ℕ). AreFoundFolds found tenant base (length (columns_among bases extensions base of)) a.placement) numbers is.folds) other.folds in
      ap (λ made. make made a.extended a.placement) mades ∙ ap (λ extended. make b.made extended a.placement) numbers ∙ ap (make b.made b.extended) placements

  one_entry : (a b : TenantEntry) → IsFoundEntry found bases extensions tenant a → IsFoundEntry found bases extensions tenant b → a ≡ b
  one_entry a b is other =
      let make : ℕ → List TenantTable → TenantEntry = λ quota tables. record { quota = quota; tables = tables } in
      let same : Some a.quota ≡ Some b.quota = sym is.quota_is ∙ other.quota_is in
      let quotas : a.quota ≡ b.quota = cc in
      let tables : a.tables ≡ b.tables = same_members a.tables b.tables (is.each_base ∙ sym other.each_base) (λ base x y e f. one_table base x y (is.tables_are base x e) (other.tables_are base y f)) in
      ap (λ quota. make quota a.tables) quotas ∙ ap (make b.quota) tables

  one_tenant : (a b : Option TenantEntry) → IsFoundTenant found bases extensions tenant a → IsFoundTenant found bases extensions tenant b → a ≡ b
  one_tenant None None is other = refl
  one_tenant None (Some b) is other = let no : Some b.quota ≡ None = sym other.quota_is ∙ is in absurd (cc)
  one_tenant (Some a) None is other = let no : Some a.quota ≡ None = sym is.quota_is ∙ other in absurd (cc)
  one_tenant (Some a) (Some b) is other = ap Some (one_entry a b is other)

-- one catalogue at most is made of what is found
pub one_found : (found : Found) (a b : State) → IsFound found a → IsFound found b → a ≡ b
one_found found a b is other =
    let make : List Table → List Extension → finite.FinMap nat_cmp TenantEntry → State = λ bases extensions tenants. record { bases = bases; extensions = extensions; tenants = tenants } in
    let bases : a.bases ≡ b.bases = one_bases found a.bases b.bases is.bases_are other.bases_are in
    let extensions : a.extensions ≡ b.extensions = one_extensions found a.extensions b.extensions is.extensions_are other.extensions_are in
    let tenants : a.tenants ≡ b.tenants = finite.same_map nat_cmp_total finite.nat_cmp-IsAntisymmetric a.tenants b.tenants (λ tenant.
    one_tenant found b.bases b.extensions tenant (finite.get a.tenants tenant) (finite.get b.tenants tenant)
    (subst (λ (of : List Extension). IsFoundTenant found b.bases of tenant (finite.get a.tenants tenant)) extensions
    (subst (λ (of : List Table). IsFoundTenant found of a.extensions tenant (finite.get a.tenants tenant)) bases (is.tenants_are tenant)))
    (other.tenants_are tenant)) in
    ap (λ bases. make bases a.extensions a.tenants) bases ∙ ap (λ extensions. make b.bases extensions a.tenants) extensions ∙ ap (make b.bases b.extensions) tenants
