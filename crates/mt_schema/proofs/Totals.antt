-- How many tenants there are, and their quotas together, where each is changed or one is put.
use Rattle.std.proofs.Common.{◌≡◌, ℕ, ◌+◌, Bool, true, false, cond, ◌&&◌, T, List, [], ◌∷◌, length, map, sum_by, Ordering, Less, Equal, Greater, nat_cmp, is_eq, is_lt, Option, None, Some, refl, sym, ap, ◌∙◌, subst, arith}
use Rattle.std.specs.Cmp.{nat_cmp_total}
use Rattle.std.specs.FinMap as finite
use Rattle.std.specs.FinMap.Entries.{below_all, by_order, find, is_sorted, put}
use Rattle.std.proofs.lemmas.List.{length-map}
use Rattle.std.proofs.lemmas.List.Sums.{sum_by-cons}
use Rattle.mt_schema.specs.Steps.{in_each}

pub less_is : (order : Ordering) → T (is_lt order) → order ≡ Less
less_is Less less = refl
less_is Equal less = absurd less
less_is Greater less = absurd less

pub first_of : (a b : Bool) → T (a && b) → T a
first_of true b both = tt
first_of false b both = both

pub second_of : (a b : Bool) → T (a && b) → T b
second_of true b both = both
second_of false b both = absurd both

module _ {A B : Type 0} (change : A → B) where
  abbrev changed : List (ℕ × A) → List (ℕ × B)
  changed entries = map (λ entry. (entry.0, change entry.1)) entries

  -- the numbers stay in their order
  below-changed : (n : ℕ) (entries : List (ℕ × A)) → below_all nat_cmp n (changed entries) ≡ below_all nat_cmp n entries
  below-changed n [] = refl
  below-changed n (entry ∷ entries) = ap (λ b. is_lt (nat_cmp n entry.0) && b) (below-changed n entries)

  sorted-changed : (entries : List (ℕ × A)) → is_sorted nat_cmp (changed entries) ≡ is_sorted nat_cmp entries
  sorted-changed [] = refl
  sorted-changed (entry ∷ entries) = ap (λ b. b && is_sorted nat_cmp (changed entries)) (below-changed entry.0 entries) ∙ ap (λ b. below_all nat_cmp entry.0 entries && b) (sorted-changed entries)

  pub entries-in_each : (values : finite.FinMap nat_cmp A) → finite.entries (in_each change values) ≡ changed (finite.entries values)
  unfolding in_each
  entries-in_each values =
      let sorted = subst T (sym (sorted-changed (finite.entries values))) (finite.entries_sorted values) in
      let same = finite.same_map nat_cmp_total finite.nat_cmp-IsAntisymmetric (finite.from_entries (changed (finite.entries values))) (finite.from_sorted (changed (finite.entries values))) (λ n.
      finite.get-from_entries nat_cmp_total (changed (finite.entries values)) n ∙ sym (finite.get-from_sorted nat_cmp (changed (finite.entries values)) n sorted)) in
      ap finite.entries same ∙ finite.entries-from_sorted nat_cmp (changed (finite.entries values)) sorted

  pub len-in_each : (values : finite.FinMap nat_cmp A) → finite.len (in_each change values) ≡ finite.len values
  len-in_each values = finite.len-entries (in_each change values) ∙ ap length (entries-in_each values) ∙ length-map (finite.entries values) (λ entry. (entry.0, change entry.1)) ∙ sym (finite.len-entries values)

  module _ (measure : A → ℕ) (other : B → ℕ) (same : (value : A) → other (change value) ≡ measure value) where
    sum-changed : (entries : List (ℕ × A)) → sum_by other (map (λ entry. entry.1) (changed entries)) ≡ sum_by measure (map (λ entry. entry.1) entries)
    sum-changed [] = refl
    sum-changed (entry ∷ entries) =
        sum_by-cons other (change entry.1) (map (λ e. e.1) (changed entries)) ∙ ap (λ n. n + sum_by other (map (λ e. e.1) (changed entries))) (same entry.1)
        ∙ ap (λ n. measure entry.1 + n) (sum-changed entries) ∙ sym (sum_by-cons measure entry.1 (map (λ e. e.1) entries))

    pub sum-in_each : (values : finite.FinMap nat_cmp A) → sum_by other (finite.values (in_each change values)) ≡ sum_by measure (finite.values values)
    sum-in_each values = ap (λ entries. sum_by other (map (λ entry. entry.1) entries)) (entries-in_each values) ∙ sum-changed (finite.entries values)

module _ {A : Type 0} (measure : A → ℕ) where
  -- what is measured of a value, if there is one
  abbrev pub measured : Option A → ℕ
  measured None = 0
  measured (Some value) = measure value

  abbrev total : List (ℕ × A) → ℕ
  total entries = sum_by measure (map (λ entry. entry.1) entries)

  -- a number below all others is not found
  none_below : (n at : ℕ) → nat_cmp n at ≡ Less → (entries : List (ℕ × A)) → T (below_all nat_cmp at entries) → find nat_cmp n entries ≡ None
  none_below n at less [] below = refl
  none_below n at less (entry ∷ entries) below =
      let far = nat_cmp_total.trans n at entry.0 less (less_is (nat_cmp at entry.0) (first_of _ _ below)) in
      ap (λ order. cond (is_eq order) (Some entry.1) (find nat_cmp n entries)) far ∙ none_below n at less entries (second_of _ _ below)

  total-put : (n : ℕ) (value : A) (entries : List (ℕ × A)) → T (is_sorted nat_cmp entries) → total (put nat_cmp n value entries) + measured (find nat_cmp n entries) ≡ total entries + measure value
  total-put n value [] sorted = omega arith
  total-put n value (entry ∷ entries) sorted = by (nat_cmp n entry.0) refl (total-put n value entries (second_of _ _ sorted))
    where
      by : (order : Ordering) → nat_cmp n entry.0 ≡ order → total (put nat_cmp n value entries) + measured (find nat_cmp n entries) ≡ total entries + measure value
          → total (by_order order ((n, value) ∷ entry ∷ entries) ((entry.0, value) ∷ entries) (entry ∷ put nat_cmp n value entries)) + measured (cond (is_eq order) (Some entry.1) (find nat_cmp n entries))
          ≡ total (entry ∷ entries) + measure value
      by Less e rest =
          let none = ap measured (none_below n entry.0 e entries (first_of _ _ sorted)) in
          let one = sum_by-cons measure value (map (λ e. e.1) (entry ∷ entries)) in
          omega (arith, none, one)
      by Equal e rest =
          let one = sum_by-cons measure value (map (λ e. e.1) entries) in
          let two = sum_by-cons measure entry.1 (map (λ e. e.1) entries) in
          omega (arith, one, two)
      by Greater e rest =
          let one = sum_by-cons measure entry.1 (map (λ e. e.1) (put nat_cmp n value entries)) in
          let two = sum_by-cons measure entry.1 (map (λ e. e.1) entries) in
          omega (arith, one, two, rest)

  pub sum-insert : (values : finite.FinMap nat_cmp A) (n : ℕ) (value : A)
      → sum_by measure (finite.values (finite.insert values n value)) + measured (finite.get values n) ≡ sum_by measure (finite.values values) + measure value
  sum-insert values n value =
      let entries = finite.entries-insert nat_cmp_total values n value in
      let found = finite.get-entries values n in
      ap (λ es. total es + measured (finite.get values n)) entries
      ∙ ap (λ o. total (put nat_cmp n value (finite.entries values)) + measured o) found
      ∙ total-put n value (finite.entries values) (finite.entries_sorted values)
