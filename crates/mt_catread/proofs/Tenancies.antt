-- Tenants and tables that no catalogue has, and the map of the tenants that were found.
use Rattle.std.proofs.Common.{◌≡◌, ℕ, ◌<◌, Bool, true, false, cond, ◌||◌, List, [], ◌∷◌, length, Option, None, Some, refl, sym, ap, ◌∙◌, subst, arith, eqb-true}
use Rattle.std.specs.Prelude.{IsSome, is_some, nat_eq, option_map}
use Rattle.std.specs.List.{list_any}
use Rattle.std.specs.Map.{keys_of}
use Rattle.std.specs.Cmp.{nat_eq_equiv}
use Rattle.std.specs.FinMap as finite
use Rattle.mt_tree.specs.declared.schema.Table.{Table}
use Rattle.mt_catslot.specs.declared.slot.CatSlot.{CatSlot}
use Rattle.mt_catslot.specs.declared.slot.CatSlot.TheVariants as slots
use Rattle.mt_catslot.specs.declared.slot.CatKey.{CatKey}
use Rattle.mt_catslot.specs.declared.slot.CatKey.TheVariants as keys
use Rattle.mt_catalog.specs.declared.state.TenantEntry.{TenantEntry}
use Rattle.mt_catalog.specs.State.{table_in, tenant_table}
use Rattle.mt_catalog.specs.Slots.{placement_slot}
use Rattle.mt_catalog.specs.Found.{AreFoundBases, Found, IsOfNone, placement_found, tenant_found}
use Rattle.mt_catalog.specs.Keyed.{same_key, slot_in}
use Rattle.mt_catalog.proofs.Catalogues.{catalogue_is_found}
use Rattle.mt_catalog.proofs.OneRelation.{one_bases}
use Rattle.mt_catalog.proofs.Runs.{present}

-- a tenant without a table of a base table
pub no_placement : (found : Found) (bases : List Table) (tenant base : ℕ) → AreFoundBases found bases → IsSome (tenant_found (found (keys.Tenant tenant))) → base < length bases
    → placement_found (found (keys.Placement tenant base)) ≡ None → IsOfNone found
no_placement found bases tenant base are some within none state is =
    by (finite.get state.tenants tenant) refl (ap (λ o. is_some (tenant_found o)) (sym (is.same (keys.Tenant tenant))) ∙ some)
  where
    same : bases ≡ state.bases
    same = one_bases found bases state.bases are (catalogue_is_found found state is).bases_are

    by : (o : Option TenantEntry) → finite.get state.tenants tenant ≡ o → is_some (tenant_found (option_map (λ entry. slots.Tenant tenant entry.quota) o)) ≡ true → ⊥
    by None e s = cc
    by (Some entry) e s =
        let kept = is.rules.tenants tenant entry e in
        let size : length bases ≡ length state.bases = ap length same in
        let table = present entry.tables base (omega (arith, kept.each_base, size, within)) in
        let there : tenant_table state tenant base ≡ Some table.0 = ap (table_in base) e ∙ table.1 in
        let had = ap placement_found (is.same (keys.Placement tenant base)) ∙ ap (λ o. placement_found (placement_slot tenant base o)) there in
        let no = sym none ∙ had in cc

-- a key stands among the entries where something is found by it
pub listed : (entries : List (CatKey × CatSlot)) (key : CatKey) → list_any (same_key key) (keys_of entries) ≡ is_some (slot_in entries key)
listed [] key = refl
listed (entry ∷ entries) key = by (same_key key entry.0) (listed entries key)
  where
    by : (b : Bool) → list_any (same_key key) (keys_of entries) ≡ is_some (slot_in entries key)
        → (b || list_any (same_key key) (keys_of entries)) ≡ is_some (cond b (Some entry.1) (slot_in entries key))
    by true rest = refl
    by false rest = rest

-- a key stands among keys with one more in front
pub later_key : (key first : CatKey) (left : List CatKey) → list_any (same_key key) left ≡ true → list_any (same_key key) (first ∷ left) ≡ true
later_key key first left e = by (same_key key first)
  where
    by : (b : Bool) → (b || list_any (same_key key) left) ≡ true
    by true = refl
    by false = e

-- a map with one entry more
module _ (tenant : ℕ) (entry : TenantEntry) (old new : ℕ → Option TenantEntry) (adds : (number : ℕ) → new number ≡ cond (nat_eq tenant number) (Some entry) (old number)) where
  pub each_added : (Stands : ℕ → TenantEntry → Type 0) → Stands tenant entry → ((number : ℕ) (e : TenantEntry) → old number ≡ Some e → Stands number e)
      → (number : ℕ) (e : TenantEntry) → new number ≡ Some e → Stands number e
  each_added Stands here each number e is = by (nat_eq tenant number) refl (sym (adds number) ∙ is)
    where
      by : (b : Bool) → nat_eq tenant number ≡ b → cond b (Some entry) (old number) ≡ Some e → Stands number e
      by true same f = let equal : entry ≡ e = cc in subst (λ (n : ℕ). Stands n e) (eqb-true tenant number same) (subst (Stands tenant) equal here)
      by false same f = each number e f

  pub missing_added : (found : Found) (left : List CatKey) → ((number : ℕ) → old number ≡ None → is_some (found (keys.Tenant number)) ≡ list_any (same_key (keys.Tenant number)) (keys.Tenant tenant ∷ left))
      → (number : ℕ) → new number ≡ None → is_some (found (keys.Tenant number)) ≡ list_any (same_key (keys.Tenant number)) left
  missing_added found left missing number is = by (nat_eq tenant number) refl (sym (adds number) ∙ is)
    where
      by : (b : Bool) → nat_eq tenant number ≡ b → cond b (Some entry) (old number) ≡ None → is_some (found (keys.Tenant number)) ≡ list_any (same_key (keys.Tenant number)) left
      by true same f = absurd (cc)
      by false same f = missing number f ∙ ap (λ b. b || list_any (same_key (keys.Tenant number)) left) (nat_eq_equiv.symm number tenant ∙ same)
