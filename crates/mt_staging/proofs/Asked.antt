-- What changes name is asked for from the start.
use Rattle.std.proofs.Common.{◌≡◌, ℕ, zero, suc, ◌<◌, Bool, true, false, cond, List, [], ◌∷◌, map, length, slice_index_or, All, Option, None, Some, is_some, refl, sym, ap, subst, ◌∙◌, arith}
use Rattle.std.specs.Prelude.{filter_map, slice_get}
use Rattle.std.specs.List.{cons_option}
use Rattle.std.specs.declared.cmp.Ordering.{Ordering}
use Rattle.std.specs.Ordering.{eq_by_cmp}
use Rattle.std.specs.Cmp.{IsTotalOrder}
use Rattle.std.specs.FinMap as finite
use Rattle.std.proofs.lemmas.Cmp.{eq_by_cmp_equiv}
use Rattle.std.proofs.lemmas.Option.{get_or_from_slice_get, slice_get_within}
use Rattle.mt_physplan.specs.declared.change.Change.{Change}
use Rattle.mt_physplan.proofs.Keys.{keys_total}
use Rattle.mt_tables.proofs.Bodies.{bodies_total}
use Rattle.mt_places.specs.Named.{body_key, row_key}
use Rattle.mt_places.specs.Places.{IsBegun, PlacesState}
use Rattle.mt_staging.specs.Group.{IsAsked}

module _ {K : Type 0} {R : K → K → Ordering} (o : IsTotalOrder R) (key_of : Change → Option K) where
  abbrev begun_with : Option K → List Change → finite.FinMap R (Option ℕ)
  begun_with named changes = finite.from_entries (map (λ key. (key, None)) (cons_option named (filter_map key_of changes)))

  -- each key that a change names is asked for at the start
  named_asked : (changes : List Change) (k : ℕ) (d : Change) (key : K) → k < length changes → key_of (slice_index_or changes k d) ≡ Some key
      → finite.contains_key (begun_with None changes) key ≡ true
  named_asked [] k d key within is = absurd (omega arith)
  named_asked (change ∷ changes) zero d key within is = by (key_of change) is
    where
      by : (named : Option K) → named ≡ Some key → finite.contains_key (begun_with named changes) key ≡ true
      by None e = absurd (cc)
      by (Some k) e =
          let same : k ≡ key = cc in
          let tied : eq_by_cmp R key k ≡ true = ap (λ x. eq_by_cmp R key x) same ∙ (eq_by_cmp_equiv o).refl key in
          ap is_some (finite.get-insert o (begun_with None changes) k None key ∙ ap (λ t. cond t (Some None) (finite.get (begun_with None changes) key)) tied)
  named_asked (change ∷ changes) (suc k) d key within is = by (key_of change) (named_asked changes k d key (omega arith) is)
    where
      by : (named : Option K) → finite.contains_key (begun_with None changes) key ≡ true → finite.contains_key (begun_with named changes) key ≡ true
      by None rest = rest
      by (Some k) rest = ap is_some (finite.get-insert o (begun_with None changes) k None key) ∙ either (eq_by_cmp R key k)
        where
          either : (t : Bool) → is_some (cond t (Some None) (finite.get (begun_with None changes) key)) ≡ true
          either true = refl
          either false = rest

-- what the changes name is asked for
pub all_asked : (changes : List Change) (begun : PlacesState) → IsBegun changes begun → All (λ change. IsAsked change begun) changes
all_asked changes begun is = λ k d within. (
  (λ key named. ap (λ rows. finite.contains_key rows key) is.rows ∙ named_asked keys_total row_key changes k d key within named),
  (λ key named. ap (λ bodies. finite.contains_key bodies key) is.bodies ∙ named_asked bodies_total body_key changes k d key within named),
)

-- what holds of each member holds of the one at a number
pub all_at : {X : Type 0} (P : X → Type 0) (xs : List X) (i : ℕ) (x : X) → All P xs → slice_get xs i ≡ Some x → P x
all_at P xs i x all is = subst P (get_or_from_slice_get xs i x x is) (all i x (slice_get_within xs i x is))
