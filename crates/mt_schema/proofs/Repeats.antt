-- Names that are looked for one after another among those in front of them.
use Rattle.std.proofs.Common.{◌≡◌, ⊎_elim, ℕ, Bool, true, false, ◌||◌, List, [], ◌∷◌, ◌++◌, refl, sym, ap, ◌∙◌}
use Rattle.std.specs.Str.{bytes_eq}
use Rattle.std.specs.List.{AllByRecursion as Each, list_any}
use Rattle.std.proofs.lemmas.Bool.{or_cases, or_left, or_right, true≢false}
use Rattle.std.proofs.lemmas.Cmp.{nat_list_eq_equiv}
use Rattle.std.proofs.lemmas.Map.Keys.{IsDistinct-head, IsDistinct-tail}
use Rattle.mt_catalog.specs.Rules.{AreApart}
use Rattle.mt_schema.specs.Refusals.{has_repeat}
use Rattle.mt_schema.specs.Steps.{has_name}

-- an equal name is behind others
behind : (names : List (List ℕ)) (name other : List ℕ) (others : List (List ℕ)) → bytes_eq name other ≡ true → has_name (names ++ other ∷ others) name ≡ true
behind [] name other others same = or_left (bytes_eq name other) (has_name others name) same
behind (n ∷ names) name other others same = or_right (bytes_eq name n) (has_name (names ++ other ∷ others) name) (behind names name other others same)

-- a name that is among those in front of it is repeated
pub repeated : (names : List (List ℕ)) (name : List ℕ) (others : List (List ℕ)) → has_name names name ≡ true → has_repeat (names ++ name ∷ others) ≡ true
repeated [] name others there = absurd (true≢false (sym there))
repeated (n ∷ names) name others there = ⊎_elim
    (λ same. or_left (has_name (names ++ name ∷ others) n) (has_repeat (names ++ name ∷ others)) (behind names n name others (nat_list_eq_equiv.symm n name ∙ same)))
    (λ later. or_right (has_name (names ++ name ∷ others) n) (has_repeat (names ++ name ∷ others)) (repeated names name others later))
    (or_cases (bytes_eq name n) (has_name names name) there)

none_equal : {A : Type 0} (test : A → Bool) (xs : List A) → Each (λ x. test x ≡ false) xs → list_any test xs ≡ false
none_equal test [] each = refl
none_equal test (x ∷ xs) each = ap (λ b. b || list_any test xs) each.0 ∙ none_equal test xs each.1

-- none of names that stand apart is repeated
pub apart_no_repeat : (names : List (List ℕ)) → AreApart names → has_repeat names ≡ false
apart_no_repeat [] apart = refl
apart_no_repeat (name ∷ names) apart =
    ap (λ b. b || has_repeat names) (none_equal (bytes_eq name) names (IsDistinct-head bytes_eq name names apart)) ∙ apart_no_repeat names (IsDistinct-tail bytes_eq name names apart)
