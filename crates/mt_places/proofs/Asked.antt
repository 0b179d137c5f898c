-- Keys that are asked for, and where they stand.
use Rattle.std.proofs.Common.{◌≡◌, ℕ, Bool, true, false, cond, ◌||◌, List, [], ◌∷◌, map, Option, Some, None, refl, sym, ap, ◌∙◌}
use Rattle.std.specs.List.{list_any}
use Rattle.std.specs.Option.{is_some}
use Rattle.std.specs.declared.cmp.Ordering.{Ordering}
use Rattle.std.specs.Ordering.{eq_by_cmp}
use Rattle.std.specs.Cmp.{IsTotalOrder}
use Rattle.std.specs.Map.{lookup}
use Rattle.std.specs.BTreeMap.{is_at}
use Rattle.std.specs.FinMap as finite
use Rattle.std.specs.FinMap.Entries.{find}
use Rattle.mt_physplan.proofs.Maps.{looked_up, one_put}
use Rattle.mt_places.specs.Held.{asking, placing}

either : (a b : Bool) (x y : Option (Option ℕ)) → cond b x (cond a x y) ≡ cond (a || b) x y
either true true x y = refl
either true false x y = refl
either false true x y = refl
either false false x y = refl

-- keys of which nothing was found
abbrev pub lacking : {K : Type 0} → List K → List (K × Option ℕ)
lacking keys = map (λ key. (key, None)) keys

module _ {K : Type 0} {R : K → K → Ordering} where
  pub placing_there : (key : K) (position : Option ℕ) (m : finite.FinMap R (Option ℕ)) → finite.contains_key m key ≡ true → placing key position m ≡ finite.insert m key position
  placing_there key position m there = ap (λ b. cond b (finite.insert m key position) m) there

  pub placing_nowhere : (key : K) (position : Option ℕ) (m : finite.FinMap R (Option ℕ)) → finite.contains_key m key ≡ false → placing key position m ≡ m
  placing_nowhere key position m nowhere = ap (λ b. cond b (finite.insert m key position) m) nowhere

  module _ (o : IsTotalOrder R) (exact : finite.IsAntisymmetric R) where
    get-asking : (keys : List K) (m : finite.FinMap R (Option ℕ)) (q : K) → finite.get (asking keys m) q ≡ cond (list_any (eq_by_cmp R q) keys) (Some None) (finite.get m q)
    get-asking [] m q = refl
    get-asking (k ∷ keys) m q =
        get-asking keys (finite.insert m k None) q
        ∙ ap (cond (list_any (eq_by_cmp R q) keys) (Some None)) (finite.get-insert o m k None q)
        ∙ either (eq_by_cmp R q k) (list_any (eq_by_cmp R q) keys) (Some None) (finite.get m q)

    find-lacking : (keys : List K) (q : K) → find R q (lacking keys) ≡ cond (list_any (eq_by_cmp R q) keys) (Some None) None
    find-lacking [] q = refl
    find-lacking (k ∷ keys) q =
        ap (cond (eq_by_cmp R q k) (Some None)) (find-lacking keys q)
        ∙ turned (eq_by_cmp R q k) (list_any (eq_by_cmp R q) keys)
      where
        turned : (a b : Bool) → cond a (Some None) (cond b (Some None) None) ≡ cond {A = Option (Option ℕ)} (a || b) (Some None) None
        turned true b = refl
        turned false b = refl

    -- to ask for keys in turn is to ask for all of them
    pub asking-all : (keys : List K) → asking keys (finite.empty {R = R}) ≡ finite.from_entries (lacking keys)
    asking-all keys = finite.same_map o exact _ _ (λ q.
        get-asking keys finite.empty q
        ∙ ap (cond (list_any (eq_by_cmp R q) keys) (Some None)) (finite.get-empty R q)
        ∙ sym (finite.get-from_entries o (lacking keys) q ∙ find-lacking keys q))

    -- what entries have at a key
    pub get-entries_of : (es : List (K × Option ℕ)) (q : K) → finite.get (finite.from_entries {R = R} es) q ≡ lookup (is_at (R q)) es
    get-entries_of es q = finite.get-from_entries o es q ∙ looked_up R es q

    -- what is written at a key that entries have
    pub placed : (es fs : List (K × Option ℕ)) (key : K) (position : Option ℕ) (found : Option ℕ) → lookup (is_at (R key)) es ≡ Some found
        → ((q : K) → lookup (is_at (R q)) fs ≡ cond (is_at (R key) q) (Some position) (lookup (is_at (R q)) es))
        → finite.from_entries fs ≡ placing key position (finite.from_entries {R = R} es)
    placed es fs key position found there h =
        one_put R o exact es fs key position h
        ∙ sym (placing_there key position (finite.from_entries es) (ap is_some (get-entries_of es key ∙ there)))

    -- nothing is written at one that they lack
    pub not_placed : (es : List (K × Option ℕ)) (key : K) (position : Option ℕ) → lookup (is_at (R key)) es ≡ None
        → finite.from_entries es ≡ placing key position (finite.from_entries {R = R} es)
    not_placed es key position lacks = sym (placing_nowhere key position (finite.from_entries es) (ap is_some (get-entries_of es key ∙ lacks)))
