-- A tree map whose keys are read by a function, as a finite map of what is read.
use Rattle.std.proofs.Common.{◌≡◌, ℕ, true, false, cond, List, [], ◌∷◌, map, Option, Some, None, IsSome, rules, refl, sym, ap, ◌∙◌, subst}
use Rattle.std.specs.declared.cmp.Ordering.{Ordering}
use Rattle.std.specs.declared.cmp.Ordering.TheVariants.{Less, Equal, Greater}
use Rattle.std.specs.Ordering.{eq_by_cmp, is_eq, match_ordering}
use Rattle.std.specs.Cmp.{IsTotalOrder}
use Rattle.std.specs.Map.{lookup, set_value}
use Rattle.std.specs.BTreeMap.{insert_entry, is_at}
use Rattle.std.specs.FinMap as finite
use Rattle.std.specs.FinMap.Entries.{by_order, find-put, put}
use Rattle.std.proofs.lemmas.Cmp.{eq_by_cmp_equiv}
use Rattle.std.proofs.lemmas.Map.{lookup-set_value}
use Rattle.mt_places.specs.Held.{placing}
use Rattle.mt_places.proofs.Asked.{get-entries_of, not_placed, placed}

module _ {V K X : Type 0} (R : K → K → Ordering) (f : V → K) where
  -- entries by what their keys are read as
  abbrev pub as_read : List (V × X) → List (K × X)
  as_read es = map (λ e. (f e.0, e.1)) es

  pub lookup-read : (es : List (V × X)) (q : K) → lookup (is_at (R q)) (as_read es) ≡ lookup (is_at (λ v. R q (f v))) es
  lookup-read [] q = refl
  lookup-read (e ∷ es) q = ap (cond (is_eq (R q (f e.0))) (Some e.1)) (lookup-read es q)

  pub put-read : (es : List (V × X)) (key : V) (x : X) → as_read (insert_entry (λ v w. R (f v) (f w)) es key x) ≡ put R (f key) x (as_read es)
  put-read [] key x = refl
  put-read (e ∷ es) key x =
      elim (R (f key) (f e.0)) as (λ r. as_read (match_ordering r ((key, x) ∷ e ∷ es) ((e.0, x) ∷ es) (e ∷ insert_entry (λ v w. R (f v) (f w)) es key x)) ≡ by_order r ((f key, x) ∷ as_read (e ∷ es)) ((f e.0, x) ∷ as_read es) ((f e.0, e.1) ∷ put R (f key) x (as_read es))) [
        | Less ↦ refl
        | Equal ↦ refl
        | Greater ↦ ap (λ rest. (f e.0, e.1) ∷ rest) (put-read es key x)
      ]

  pub set-read : (es : List (V × X)) (q : K) (x : X) → as_read (set_value (is_at (λ v. R q (f v))) es x) ≡ set_value (is_at (R q)) (as_read es) x
  set-read [] q x = refl
  set-read (e ∷ es) q x =
      elim (is_eq (R q (f e.0))) as (λ b. as_read (cond b ((e.0, x) ∷ es) (e ∷ set_value (is_at (λ v. R q (f v))) es x)) ≡ cond b ((f e.0, x) ∷ as_read es) ((f e.0, e.1) ∷ set_value (is_at (R q)) (as_read es) x)) [
        | true ↦ refl
        | false ↦ ap (λ rest. (f e.0, e.1) ∷ rest) (set-read es q x)
      ]

module _ {K X : Type 0} {R : K → K → Ordering} (o : IsTotalOrder R) (exact : finite.IsAntisymmetric R) where
  -- an entry put in its place is one more in the map
  pub entries-put : (es : List (K × X)) (k : K) (x : X) → finite.from_entries (put R k x es) ≡ finite.insert (finite.from_entries {R = R} es) k x
  entries-put es k x = finite.same_map o exact _ _ (λ q.
      finite.get-from_entries o (put R k x es) q ∙ find-put R o q k x es
      ∙ ap (cond (eq_by_cmp R q k) (Some x)) (sym (finite.get-from_entries o es q)) ∙ sym (finite.get-insert o (finite.from_entries es) k x q))

tie : (r : Ordering) → is_eq r ≡ true → r ≡ Equal
tie Less e = cc
tie Equal e = refl
tie Greater e = cc

module _ {V K : Type 0} {R : K → K → Ordering} (o : IsTotalOrder R) (exact : finite.IsAntisymmetric R) (f : V → K) where
  -- what is written at a key that entries have
  pub read-placed : (es fs : List (V × Option ℕ)) (key : K) (position found : Option ℕ) → lookup (is_at (λ v. R key (f v))) es ≡ Some found
      → fs ≡ set_value (is_at (λ v. R key (f v))) es position
      → finite.from_entries (as_read R f fs) ≡ placing key position (finite.from_entries {R = R} (as_read R f es))
  read-placed es fs key position found there written =
      let there_read : lookup (is_at (R key)) (as_read R f es) ≡ Some found = lookup-read R f es key ∙ there in
      let some : IsSome (lookup (is_at (R key)) (as_read R f es)) = subst (λ (o : Option (Option ℕ)). IsSome o) (sym there_read) (search rules) in
      placed o exact (as_read R f es) (as_read R f fs) key position found there_read (λ q.
      ap (λ gs. lookup (is_at (R q)) gs) (ap (as_read R f) written ∙ set-read R f es key position)
      ∙ lookup-set_value (eq_by_cmp_equiv o) (is_at (R key)) (λ x y same. ap is_eq (o.congr key x y (tie _ same))) q position (as_read R f es) some)

  -- nothing is written at one that they lack
  pub read-not_placed : (es : List (V × Option ℕ)) (key : K) (position : Option ℕ) → lookup (is_at (λ v. R key (f v))) es ≡ None
      → finite.from_entries (as_read R f es) ≡ placing key position (finite.from_entries {R = R} (as_read R f es))
  read-not_placed es key position lacks = not_placed o exact (as_read R f es) key position (lookup-read R f es key ∙ lacks)

  -- what entries have at a key
  pub read-get : (es : List (V × Option ℕ)) (key : K) → lookup (is_at (λ v. R key (f v))) es ≡ finite.get (finite.from_entries {R = R} (as_read R f es)) key
  read-get es key = sym (get-entries_of o exact (as_read R f es) key ∙ lookup-read R f es key)
