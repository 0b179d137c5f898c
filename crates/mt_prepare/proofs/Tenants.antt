-- The numbers of all tenants, by the entries of their map.
use Rattle.std.proofs.Common.{◌≡◌, ℕ, false, ◌||◌, T, List, [], ◌∷◌, refl, sym, ap, ◌∙◌}
use Rattle.std.specs.Prelude.{IfOk, Result, is_some, nat_eq}
use Rattle.std.specs.Cmp.{nat_cmp_total, unsigned_tied}
use Rattle.std.specs.FinMap as finite
use Rattle.std.specs.FinMap.Entries.{below_all, find, is_some-find, is_sorted}
use Rattle.std.specs.List.{AllByRecursion as Each, IsDistinct, list_any}
use Rattle.std.specs.Map.{keys_of}
use Rattle.std.specs.Ordering.{eq_by_cmp, is_eq, nat_cmp}
use Rattle.std.proofs.lemmas.Map.Keys.{IsDistinct-cons}
use Rattle.std.proofs.lemmas.Result.{IfOk-weaker}
use Rattle.mt_tree.specs.declared.command.AdminCmd.{AdminCmd}
use Rattle.mt_catslot.specs.declared.slot.CatKey.{CatKey}
use Rattle.mt_catalog.specs.declared.state.TenantEntry.{TenantEntry}
use Rattle.mt_catalog.specs.State.{State}
use Rattle.mt_schema.specs.Changed.{AreTenants, changed_keys}
use Rattle.mt_schema.proofs.Totals.{first_of, less_is, second_of}

-- two tests that agree at each number
same_any : (n : ℕ) (numbers : List ℕ) → list_any (nat_eq n) numbers ≡ list_any (eq_by_cmp nat_cmp n) numbers
same_any n [] = refl
same_any n (number ∷ numbers) = ap (λ b. b || list_any (nat_eq n) numbers) (sym (unsigned_tied n number)) ∙ ap (λ b. eq_by_cmp nat_cmp n number || b) (same_any n numbers)

-- entries in which each tenant is found
tenants_are : (state : State) (entries : List (ℕ × TenantEntry)) → ((n : ℕ) → finite.get state.tenants n ≡ find nat_cmp n entries) → IsDistinct nat_eq (keys_of entries) → AreTenants (keys_of entries) state
tenants_are state entries found distinct = record {
  all = λ n. same_any n (keys_of entries) ∙ sym (is_some-find nat_cmp n entries) ∙ ap is_some (sym (found n));
  once = distinct;
}

-- the keys of a map's entries
pub listed_tenants : (state : State) (entries : List (ℕ × TenantEntry)) → finite.from_entries entries ≡ state.tenants → IsDistinct nat_eq (keys_of entries) → AreTenants (keys_of entries) state
listed_tenants state entries is distinct =
    tenants_are state entries (λ n. ap (λ (of : finite.FinMap nat_cmp TenantEntry). finite.get of n) (sym is) ∙ finite.get-from_entries nat_cmp_total entries n) distinct

none_distinct : IsDistinct nat_eq []
unfolding IsDistinct
none_distinct = tt

below_apart : (n : ℕ) (entries : List (ℕ × TenantEntry)) → T (below_all nat_cmp n entries) → Each (λ number. nat_eq n number ≡ false) (keys_of entries)
below_apart n [] below = tt
below_apart n (entry ∷ entries) below =
    (sym (unsigned_tied n entry.0) ∙ ap is_eq (less_is (nat_cmp n entry.0) (first_of _ _ below)), below_apart n entries (second_of _ _ below))

sorted_distinct : (entries : List (ℕ × TenantEntry)) → T (is_sorted nat_cmp entries) → IsDistinct nat_eq (keys_of entries)
sorted_distinct [] sorted = none_distinct
sorted_distinct (entry ∷ entries) sorted = IsDistinct-cons nat_eq entry.0 (keys_of entries) (below_apart entry.0 entries (first_of _ _ sorted)) (sorted_distinct entries (second_of _ _ sorted))

-- each catalogue has its tenants' numbers in their order
pub every_tenant : (state : State) → AreTenants (keys_of (finite.entries state.tenants)) state
every_tenant state = tenants_are state (finite.entries state.tenants) (finite.get-entries state.tenants) (sorted_distinct (finite.entries state.tenants) (finite.entries_sorted state.tenants))

-- keys that do not ask who the tenants are
pub of_each : {E : Type 0} (state : State) (step : AdminCmd) (result : Result (List CatKey) E) (found : List CatKey) → IfOk result (λ changed. changed ≡ found)
    → found ≡ changed_keys state (keys_of (finite.entries state.tenants)) step → IfOk result (λ changed. (tenants : List ℕ) × AreTenants tenants state × (changed ≡ changed_keys state tenants step))
of_each state step result found is same =
    IfOk-weaker result (λ (changed : List CatKey). changed ≡ found) (λ (changed : List CatKey). (tenants : List ℕ) × AreTenants tenants state × (changed ≡ changed_keys state tenants step))
    (λ changed e. (keys_of (finite.entries state.tenants), every_tenant state, e ∙ same)) is
