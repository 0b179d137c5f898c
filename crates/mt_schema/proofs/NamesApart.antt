-- Names of which none stands twice.
use Rattle.std.proofs.Common.{◌≡◌, ℕ, Bool, true, false, cond, not, List, [], ◌∷◌, ◌++◌, length, ◌<◌, ◌≤◌, ◌+◌, None, Some, refl, arith}
use Rattle.std.specs.Prelude.{is_some, nat_lt, position}
use Rattle.std.specs.List.{AllByRecursion as Each, IsDistinct, list_any, position_or_len}
use Rattle.std.specs.Str.{bytes_eq}
use Rattle.std.proofs.lemmas.Bool.{ltb-false, ltb-true, or_parts}
use Rattle.std.proofs.lemmas.Map.Keys.{IsDistinct-cons, IsDistinct-head, IsDistinct-tail}
use Rattle.mt_fold.proofs.Lists.{Each-append}
use Rattle.mt_catalog.specs.Rules.{AreApart}
use Rattle.mt_schema.specs.Refusals.{has_repeat}
use Rattle.mt_schema.specs.Steps.{has_name}

-- where a test holds of none, it fails at each
fails_at_each : {A : Type 0} (test : A → Bool) (xs : List A) → list_any test xs ≡ false → Each (λ x. test x ≡ false) xs
fails_at_each test [] e = tt
fails_at_each test (x ∷ xs) e = let parts = or_parts (test x) (list_any test xs) e in (parts.0, fails_at_each test xs parts.1)

none_apart : AreApart []
unfolding IsDistinct
none_apart = tt

-- names of which none is repeated stand apart
pub no_repeat_apart : (names : List (List ℕ)) → has_repeat names ≡ false → AreApart names
no_repeat_apart [] e = none_apart
no_repeat_apart (name ∷ names) e =
    let parts = or_parts (has_name names name) (has_repeat names) e in
    IsDistinct-cons bytes_eq name names (fails_at_each (bytes_eq name) names parts.0) (no_repeat_apart names parts.1)

-- those behind others stand apart if all do
pub apart_behind : (names others : List (List ℕ)) → AreApart (names ++ others) → AreApart others
apart_behind [] others apart = apart
apart_behind (name ∷ names) others apart = apart_behind names others (IsDistinct-tail bytes_eq name (names ++ others) apart)

-- a name that differs from those in front stands apart
pub apart_pushed : (names : List (List ℕ)) (name : List ℕ) → AreApart names → Each (λ other. bytes_eq other name ≡ false) names → AreApart (names ++ name ∷ [])
apart_pushed [] name apart each = no_repeat_apart (name ∷ []) refl
apart_pushed (first ∷ names) name apart each =
    IsDistinct-cons bytes_eq first (names ++ name ∷ [])
    (Each-append (λ other. bytes_eq first other ≡ false) names (name ∷ []) (IsDistinct-head bytes_eq first names apart) (each.0, tt))
    (apart_pushed names name (IsDistinct-tail bytes_eq first names apart) each.1)

-- a test that has no place fails at each
pub no_place : {A : Type 0} (test : A → Bool) (xs : List A) → is_some (position test xs) ≡ false → Each (λ x. test x ≡ false) xs
no_place test xs e = by (nat_lt (position_or_len test xs) (length xs)) refl e
  where
    each : {A : Type 0} (test : A → Bool) (xs : List A) → length xs ≤ position_or_len test xs → Each (λ x. test x ≡ false) xs
    each test [] low = tt
    each test (x ∷ xs) low = at (test x) refl low (each test xs)
      where
        at : (b : Bool) → test x ≡ b → length (x ∷ xs) ≤ cond (not b) (1 + position_or_len test xs) 0 → (length xs ≤ position_or_len test xs → Each (λ x. test x ≡ false) xs) → Each (λ x. test x ≡ false) (x ∷ xs)
        at true here low rest = absurd (omega (arith, low))
        at false here low rest = (here, rest (omega (arith, low)))

    by : (b : Bool) → nat_lt (position_or_len test xs) (length xs) ≡ b → is_some (cond b (Some (position_or_len test xs)) None) ≡ false → Each (λ x. test x ≡ false) xs
    by true here f = absurd (cc)
    by false here f = each test xs (ltb-false _ _ here)

-- and the place of a test that has one is within
pub place_within : {A : Type 0} (test : A → Bool) (xs : List A) (n : ℕ) → position test xs ≡ Some n → n < length xs
place_within test xs n e = by (nat_lt (position_or_len test xs) (length xs)) refl e
  where
    by : (b : Bool) → nat_lt (position_or_len test xs) (length xs) ≡ b → cond b (Some (position_or_len test xs)) None ≡ Some n → n < length xs
    by true here f = let low = ltb-true _ _ here in let same : position_or_len test xs ≡ n = cc in omega (arith, low, same)
    by false here f = absurd (cc)
