-- Entries with numbers that stand once each, and the map of them.
use Rattle.std.proofs.Common.{◌≡◌, ℕ, ◌+◌, false, cond, List, [], ◌∷◌, length, Option, None, Some, refl, sym, ap, ◌∙◌, arith, eqb-true}
use Rattle.std.specs.Prelude.{All, is_some, nat_eq, sum_by}
use Rattle.std.specs.Cmp.{nat_cmp_total, nat_eq_equiv, unsigned_tied}
use Rattle.std.specs.FinMap as finite
use Rattle.std.specs.FinMap.{find, put}
use Rattle.std.specs.FinMap.Entries.{by_order}
use Rattle.std.specs.List.{AllByRecursion, Contains, IsDistinct}
use Rattle.std.specs.Map.{keys_of, lookup, values_of}
use Rattle.std.specs.Ordering.{is_eq, nat_cmp}
use Rattle.std.specs.declared.cmp.Ordering.TheVariants.{Less, Equal, Greater}
use Rattle.std.proofs.lemmas.List.{nil_from_length}
use Rattle.std.proofs.lemmas.List.Elements.{All-contains, All-contains_itself, All-weaker}
use Rattle.std.proofs.lemmas.List.Sums.{sum_by-cons}
use Rattle.std.proofs.lemmas.Map.Views.{Contains-from_lookup, lookup-from_Contains}

module _ {X : Type 0} where
  found_looked : (es : List (ℕ × X)) (q : ℕ) → find nat_cmp q es ≡ lookup (nat_eq q) es
  found_looked [] q = refl
  found_looked (e ∷ es) q = ap (λ b. cond b (Some e.1) (find nat_cmp q es)) (unsigned_tied q e.0) ∙ ap (cond (nat_eq q e.0) (Some e.1)) (found_looked es q)

  -- what the map has at a number is what a look-up among the entries finds
  pub got_looked : (es : List (ℕ × X)) (q : ℕ) → finite.get (finite.from_entries {R = nat_cmp} es) q ≡ lookup (nat_eq q) es
  got_looked es q = finite.get-from_entries nat_cmp_total es q ∙ found_looked es q

  -- what holds of each entry holds of each number that the map has, and the other way round
  pub each_got : (P : ℕ → X → Type 0) (es : List (ℕ × X)) → All (λ (e : ℕ × X). P e.0 e.1) es → (n : ℕ) (x : X) → finite.get (finite.from_entries {R = nat_cmp} es) n ≡ Some x → P n x
  each_got P es all n x e = All-contains (λ (e : ℕ × X). P e.0 e.1) es (n, x) all (Contains-from_lookup eqb-true n x es (sym (got_looked es n) ∙ e))

  pub got_each : (P : ℕ → X → Type 0) (es : List (ℕ × X)) → IsDistinct nat_eq (keys_of es) → ((n : ℕ) (x : X) → finite.get (finite.from_entries {R = nat_cmp} es) n ≡ Some x → P n x) → All (λ (e : ℕ × X). P e.0 e.1) es
  got_each P es distinct each =
      All-weaker (Contains es) (λ (e : ℕ × X). P e.0 e.1) (λ e there. each e.0 e.1 (got_looked es e.0 ∙ lookup-from_Contains nat_eq_equiv e.0 e.1 es distinct there)) es (All-contains_itself es)

  lacking : (es : List (ℕ × X)) (k : ℕ) → AllByRecursion (λ y. nat_eq k y ≡ false) (keys_of es) → lookup (nat_eq k) es ≡ None
  lacking [] k none = refl
  lacking (e ∷ es) k none = ap (λ b. cond b (Some e.1) (lookup (nat_eq k) es)) none.0 ∙ lacking es k none.1

  -- where an entry is put with a number that is new, its value is added
  put_sum : (f : X → ℕ) (k : ℕ) (v : X) (es : List (ℕ × X)) → find nat_cmp k es ≡ None → sum_by f (values_of (put nat_cmp k v es)) ≡ f v + sum_by f (values_of es)
  put_sum f k v [] none = omega (arith, sum_by-cons f v [])
  put_sum f k v (e ∷ es) none =
      elim (nat_cmp k e.0) as (λ o. cond (is_eq o) (Some e.1) (find nat_cmp k es) ≡ None → sum_by f (values_of (by_order o ((k, v) ∷ e ∷ es) ((e.0, v) ∷ es) (e ∷ put nat_cmp k v es))) ≡ f v + sum_by f (values_of (e ∷ es))) [
        | Less ↦ λ none. sum_by-cons f v (e.1 ∷ values_of es)
        | Equal ↦ λ none. absurd (cc)
        | Greater ↦ λ none. let rest = put_sum f k v es none in omega (arith, rest, sum_by-cons f e.1 (values_of (put nat_cmp k v es)), sum_by-cons f e.1 (values_of es))
      ] none

  new_number : (es : List (ℕ × X)) (k : ℕ) → AllByRecursion (λ y. nat_eq k y ≡ false) (keys_of es) → finite.get (finite.from_entries {R = nat_cmp} es) k ≡ None
  new_number es k none = got_looked es k ∙ lacking es k none

  -- the map has as many members as there are entries, and the same sum
  pub as_many : (es : List (ℕ × X)) → IsDistinct nat_eq (keys_of es) → finite.len (finite.from_entries {R = nat_cmp} es) ≡ length es
  unfolding IsDistinct
  as_many [] distinct = finite.len-empty nat_cmp X
  as_many (e ∷ es) distinct =
      let made : finite.FinMap nat_cmp X = finite.from_entries es in
      let one : finite.len (finite.insert made e.0 e.1) ≡ finite.len made + 1 = finite.len-insert nat_cmp_total made e.0 e.1 ∙ ap (λ (o : Option X). cond (is_some o) (finite.len made) (finite.len made + 1)) (new_number es e.0 distinct.0) in
      let rest : finite.len made ≡ length es = as_many es distinct.1 in
      omega (arith, one, rest)

  pub same_sum : (f : X → ℕ) (es : List (ℕ × X)) → IsDistinct nat_eq (keys_of es) → sum_by f (finite.values (finite.from_entries {R = nat_cmp} es)) ≡ sum_by f (values_of es)
  unfolding IsDistinct
  same_sum f [] distinct =
      let none : finite.FinMap nat_cmp X = finite.from_entries [] in
      ap (λ (of : List (ℕ × X)). sum_by f (values_of of)) (nil_from_length (finite.entries none) (sym (finite.len-entries none) ∙ finite.len-empty nat_cmp X))
  same_sum f (e ∷ es) distinct =
      let made : finite.FinMap nat_cmp X = finite.from_entries es in
      let absent : find nat_cmp e.0 (finite.entries made) ≡ None = sym (finite.get-entries made e.0) ∙ new_number es e.0 distinct.0 in
      let put_in : sum_by f (finite.values (finite.insert made e.0 e.1)) ≡ sum_by f (values_of (put nat_cmp e.0 e.1 (finite.entries made))) = ap (λ (of : List (ℕ × X)). sum_by f (values_of of)) (finite.entries-insert nat_cmp_total made e.0 e.1) in
      let more = put_sum f e.0 e.1 (finite.entries made) absent in
      let rest : sum_by f (finite.values made) ≡ sum_by f (values_of es) = same_sum f es distinct.1 in
      omega (arith, put_in, more, rest, sum_by-cons f e.1 (values_of es))
