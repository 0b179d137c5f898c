-- Entries in order as a finite map.
use Rattle.std.proofs.Common.{◌≡◌, ℕ, Bool, true, false, cond, List, [], ◌∷◌, Option, Some, None, filter, map, refl, sym, ap, ◌∙◌, subst, ◌&&◌}
use lib.Dec.{T}
use Rattle.std.specs.declared.cmp.Ordering.{Ordering}
use Rattle.std.specs.declared.cmp.Ordering.TheVariants.{Less, Equal, Greater}
use Rattle.std.specs.Ordering.{eq_by_cmp, is_eq, is_lt}
use Rattle.std.specs.Cmp.{IsTotalOrder}
use Rattle.std.specs.List.{AllByRecursion}
use Rattle.std.specs.List.Sorted.{IsStrictlySortedBy}
use Rattle.std.specs.Map.{keys_of, lookup}
use Rattle.std.proofs.lemmas.Cmp.{eq_by_cmp_equiv}
use Rattle.std.specs.BTreeMap.{is_at}
use Rattle.std.specs.FinMap as finite
use Rattle.std.specs.FinMap.Entries.{below_all, find, find-where_key, is_sorted, is_sorted-where_key, same_entries}

module _ {K V : Type 0} (R : K → K → Ordering) where
  below_from : (k : K) (es : List (K × V)) → AllByRecursion (λ y. R k y ≡ Less) (keys_of es) → T (below_all R k es)
  below_from k [] all = tt
  below_from k (e ∷ es) all = rw (all.0) (below_from k es all.1)

  pub sorted_from : (es : List (K × V)) → IsStrictlySortedBy R (keys_of es) → T (is_sorted R es)
  unfolding IsStrictlySortedBy
  sorted_from [] up = tt
  sorted_from (e ∷ es) up = both (below_all R e.0 es) (is_sorted R es) (below_from e.0 es up.0) (sorted_from es up.1)
    where
      both : (a b : Bool) → T a → T b → T (a && b)
      both true b p q = q
      both false b p q = absurd p

  -- the entries that pass, of a list in order, are those of its map that pass
  pub picked_entries : IsTotalOrder R → finite.IsAntisymmetric R → (p : K → Bool) (es : List (K × V)) → IsStrictlySortedBy R (keys_of es)
      → filter (λ e. p e.0) es ≡ finite.entries (finite.retain_keys (finite.from_entries {R = R} es) p)
  picked_entries o exact p es up =
      let m = finite.retain_keys (finite.from_entries {R = R} es) p in
      let alike : (q x : K) → R q x ≡ Equal → p x ≡ p q = λ q x e. ap p (sym (exact q x e)) in
      same_entries R o exact (filter (λ e. p e.0) es) (finite.entries m)
      (is_sorted-where_key R p es (sorted_from es up)) (finite.entries_sorted m)
      (λ q. find-where_key R p q (alike q) es
      ∙ ap (λ v. cond (p q) v None) (sym (finite.get-from_entries o es q))
      ∙ sym (finite.get-retain_keys (finite.from_entries {R = R} es) p q (alike q))
      ∙ finite.get-entries m q)

  -- entries in order are those of their map
  pub own_entries : IsTotalOrder R → finite.IsAntisymmetric R → (es : List (K × V)) → IsStrictlySortedBy R (keys_of es) → es ≡ finite.entries (finite.from_entries {R = R} es)
  own_entries o exact es up =
      same_entries R o exact es (finite.entries (finite.from_entries es)) (sorted_from es up) (finite.entries_sorted (finite.from_entries es))
      (λ q. sym (finite.get-from_entries o es q) ∙ finite.get-entries (finite.from_entries es) q)

  pub looked_up : (es : List (K × V)) (q : K) → find R q es ≡ lookup (is_at (R q)) es
  looked_up [] q = refl
  looked_up (e ∷ es) q = ap (cond (is_at (R q) e.0) (Some e.1)) (looked_up es q)

  -- entries that differ at one key make maps that differ there
  pub one_put : IsTotalOrder R → finite.IsAntisymmetric R → (es fs : List (K × V)) (k : K) (v : V) → ((q : K) → lookup (is_at (R q)) fs ≡ cond (is_at (R k) q) (Some v) (lookup (is_at (R q)) es))
      → finite.from_entries {R = R} fs ≡ finite.insert (finite.from_entries es) k v
  one_put o exact es fs k v h = finite.same_map o exact _ _ (λ q.
      finite.get-from_entries o fs q ∙ looked_up fs q ∙ h q ∙ ap (λ b. cond b (Some v) (lookup (is_at (R q)) es)) ((eq_by_cmp_equiv o).symm k q)
      ∙ sym (finite.get-insert o (finite.from_entries es) k v q ∙ ap (cond (eq_by_cmp R q k) (Some v)) (finite.get-from_entries o es q ∙ looked_up es q)))

  -- and entries that lack one key make the map without it
  pub one_gone : IsTotalOrder R → finite.IsAntisymmetric R → (es fs : List (K × V)) (k : K) → ((q : K) → lookup (is_at (R q)) fs ≡ cond (is_at (R k) q) None (lookup (is_at (R q)) es))
      → finite.from_entries {R = R} fs ≡ finite.remove (finite.from_entries es) k
  one_gone o exact es fs k h = finite.same_map o exact _ _ (λ q.
      finite.get-from_entries o fs q ∙ looked_up fs q ∙ h q ∙ ap (λ b. cond b None (lookup (is_at (R q)) es)) ((eq_by_cmp_equiv o).symm k q)
      ∙ sym (finite.get-remove o (finite.from_entries es) k q ∙ ap (cond (eq_by_cmp R q k) None) (finite.get-from_entries o es q ∙ looked_up es q)))
