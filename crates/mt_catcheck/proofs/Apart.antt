-- Names that stand once, told by whether each is among those behind it.
use Rattle.std.proofs.Common.{◌≡◌, ℕ, Bool, true, false, ◌||◌, List, [], ◌∷◌, ◌++◌, refl, sym, ap, subst, ◌∙◌}
use Rattle.std.specs.Prelude.{◌↔◌, bytes_eq}
use Rattle.std.specs.List.{AllByRecursion, IsDistinct, list_any}
use Rattle.mt_catalog.specs.Rules.{AreApart}

neither : (a b : Bool) → (a || b) ≡ false → (a ≡ false) × (b ≡ false)
neither true b e = absurd (cc)
neither false true e = absurd (cc)
neither false false e = (refl, refl)

no_other : (name : List ℕ) (names : List (List ℕ)) → list_any (bytes_eq name) names ≡ false → AllByRecursion (λ other. bytes_eq name other ≡ false) names
no_other name [] e = tt
no_other name (other ∷ names) e = let parts = neither (bytes_eq name other) (list_any (bytes_eq name) names) e in (parts.0, no_other name names parts.1)

others_differ : (name : List ℕ) (names : List (List ℕ)) → AllByRecursion (λ other. bytes_eq name other ≡ false) names → list_any (bytes_eq name) names ≡ false
others_differ name [] all = refl
others_differ name (other ∷ names) all = ap (λ b. b || list_any (bytes_eq name) names) all.0 ∙ others_differ name names all.1

-- no name stands twice among none
pub none_apart : AreApart []
unfolding IsDistinct
none_apart = tt

-- a name is none of those behind it
pub first_apart : (names others : List (List ℕ)) (first : List ℕ) → names ≡ first ∷ others → AreApart names → list_any (bytes_eq first) others ≡ false
unfolding IsDistinct
first_apart names others first is apart = let split : AreApart (first ∷ others) = subst (λ (of : List (List ℕ)). AreApart of) is apart in others_differ first others split.0

-- what is left decides, where the first of it is none of those behind it
pub rest_apart : {B : Type 0} (names others : List (List ℕ)) (first : List ℕ) → names ≡ first ∷ others → list_any (bytes_eq first) others ≡ false → (AreApart names ↔ B) → (AreApart others ↔ B)
unfolding IsDistinct
rest_apart names others first is differ decides = (
  λ apart. decides.0 (subst (λ (of : List (List ℕ)). AreApart of) (sym is) (no_other first others differ, apart)),
  λ whole. (subst (λ (of : List (List ℕ)). AreApart of) is (decides.1 whole)).1,
)

-- the same among two lists, of which the first has a first
any_of_both : (name : List ℕ) (names behind : List (List ℕ)) → list_any (bytes_eq name) (names ++ behind) ≡ (list_any (bytes_eq name) names || list_any (bytes_eq name) behind)
any_of_both name [] behind = refl
any_of_both name (other ∷ names) behind = ap (λ b. bytes_eq name other || b) (any_of_both name names behind) ∙ grouped (bytes_eq name other) (list_any (bytes_eq name) names) (list_any (bytes_eq name) behind)
  where
    grouped : (a b c : Bool) → (a || (b || c)) ≡ ((a || b) || c)
    grouped true b c = refl
    grouped false b c = refl

either_known : (a b : Bool) → a ≡ false → b ≡ false → (a || b) ≡ false
either_known true b e f = e
either_known false b e f = f

-- a name of neither list is of none of both
pub of_neither : (name : List ℕ) (names behind : List (List ℕ)) → list_any (bytes_eq name) names ≡ false → list_any (bytes_eq name) behind ≡ false → list_any (bytes_eq name) (names ++ behind) ≡ false
of_neither name names behind e f = any_of_both name names behind ∙ either_known (list_any (bytes_eq name) names) (list_any (bytes_eq name) behind) e f

-- and one of none of both is of neither
pub not_of_either : (name : List ℕ) (names behind : List (List ℕ)) → list_any (bytes_eq name) (names ++ behind) ≡ false → (list_any (bytes_eq name) names ≡ false) × (list_any (bytes_eq name) behind ≡ false)
not_of_either name names behind e = neither (list_any (bytes_eq name) names) (list_any (bytes_eq name) behind) (sym (any_of_both name names behind) ∙ e)
