-- A walk over slots with unique keys finds what the map of them holds.
use Rattle.std.proofs.Common.{◌≡◌, Bool, true, false, cond, List, [], ◌∷◌, Option, None, Some, refl, sym, ap, ◌∙◌, filter_map}
use Rattle.std.specs.List.{cons_option}
use Rattle.std.specs.declared.cmp.Ordering.{Ordering}
use Rattle.std.specs.Ordering.{eq_by_cmp}
use Rattle.std.specs.Cmp.{IsTotalOrder}
use Rattle.std.specs.FinMap as finite
use Rattle.std.specs.FinMap.{find}
use Rattle.mt_tables.specs.Tables.{passing, with_entries}
use Rattle.mt_tables.specs.Unique.{AreUnique, NoneSaysIts}
use Rattle.mt_tables.proofs.OneSlot.{find-tied, none_found, tied_are_one}

-- the first value that is there
abbrev or_else : {V : Type 0} → Option V → Option V → Option V
or_else None other = other
or_else (Some v) other = Some v

or_else-none : {V : Type 0} (v : Option V) → or_else v None ≡ v
or_else-none None = refl
or_else-none (Some v) = refl

none_either : {V : Type 0} (b : Bool) → ◌≡◌ {A = Option V} (cond b None None) None
none_either true = refl
none_either false = refl

-- an entry that passes is entered before those behind it
entered : {K V : Type 0} {R : K → K → Ordering} (b : Bool) (e : K × V) (es : List (K × V)) (found : finite.FinMap R V) → with_entries (cond b (e ∷ es) es) found ≡ with_entries es (cond b (finite.insert found e.0 e.1) found)
entered true e es found = refl
entered false e es found = refl

module _ {S K V : Type 0} {R : K → K → Ordering} (o : IsTotalOrder R) (exact : finite.IsAntisymmetric R) (read : S → Option (K × V)) (test : K → Bool) where
  one_more : (q : K) (e : K × V) (es : List (K × V)) (found : finite.FinMap R V) → (eq_by_cmp R q e.0 ≡ true → find R q es ≡ None)
      → or_else (cond (test q) (find R q es) None) (finite.get (cond (test e.0) (finite.insert found e.0 e.1) found) q)
      ≡ or_else (cond (test q) (cond (eq_by_cmp R q e.0) (Some e.1) (find R q es)) None) (finite.get found q)
  one_more q e es found alone = by (eq_by_cmp R q e.0) (test e.0) refl refl
    where
      by : (t b : Bool) → eq_by_cmp R q e.0 ≡ t → test e.0 ≡ b
          → or_else (cond (test q) (find R q es) None) (finite.get (cond b (finite.insert found e.0 e.1) found) q) ≡ or_else (cond (test q) (cond t (Some e.1) (find R q es)) None) (finite.get found q)
      by true true tied passes =
          let same : test q ≡ true = ap test (tied_are_one exact q e.0 tied) ∙ passes in
          rw (same, alone tied) (finite.get-insert o found e.0 e.1 q ∙ rw tied refl)
      by true false tied passes =
          let same : test q ≡ false = ap test (tied_are_one exact q e.0 tied) ∙ passes in
          rw same refl
      by false true tied passes = ap (or_else (cond (test q) (find R q es) None)) (finite.get-insert o found e.0 e.1 q ∙ rw tied refl)
      by false false tied passes = refl

  found_at : (slots : List S) (found : finite.FinMap R V) (q : K) → AreUnique R read slots
      → finite.get (with_entries (passing test (filter_map read slots)) found) q ≡ or_else (cond (test q) (find R q (filter_map read slots)) None) (finite.get found q)
  found_at [] found q unique = ap (λ v. or_else v (finite.get found q)) (sym (none_either (test q)))
  found_at (slot ∷ slots) found q unique = by (read slot) unique.0 (λ more. found_at slots more q unique.1)
    where
      by : (e : Option (K × V)) → NoneSaysIts R read e slots → ((more : finite.FinMap R V) → finite.get (with_entries (passing test (filter_map read slots)) more) q ≡ or_else (cond (test q) (find R q (filter_map read slots)) None) (finite.get more q))
          → finite.get (with_entries (passing test (cons_option e (filter_map read slots))) found) q ≡ or_else (cond (test q) (find R q (cons_option e (filter_map read slots))) None) (finite.get found q)
      by None none rest = rest found
      by (Some e) none rest = ap (λ m. finite.get m q) (entered (test e.0) e (passing test (filter_map read slots)) found)
          ∙ rest (cond (test e.0) (finite.insert found e.0 e.1) found)
          ∙ one_more q e (filter_map read slots) found (λ tied. find-tied o q e.0 tied (filter_map read slots) ∙ none_found o read e.0 slots none)

  -- a walk that begins with nothing finds the entries of the map whose keys pass
  pub walk_finds : (slots : List S) → AreUnique R read slots → with_entries (passing test (filter_map read slots)) finite.empty ≡ finite.retain_keys (finite.from_entries {R = R} (filter_map read slots)) test
  walk_finds slots unique = finite.same_map o exact _ _ (λ q.
      found_at slots finite.empty q unique ∙ ap (or_else (cond (test q) (find R q (filter_map read slots)) None)) (finite.get-empty R q)
      ∙ or_else-none (cond (test q) (find R q (filter_map read slots)) None)
      ∙ ap (λ v. cond (test q) v None) (sym (finite.get-from_entries o (filter_map read slots) q))
      ∙ sym (finite.get-retain_keys (finite.from_entries {R = R} (filter_map read slots)) test q (λ x t. ap test (sym (exact q x t)))))
