-- What stands between bars.
use Rattle.std.proofs.Common.{◌≡◌, ◌≤◌, ℕ, List, [], ◌∷◌, ◌++◌, length, map, flat_map, take, sym, ap, ◌∙◌}
use Rattle.std.proofs.lemmas.List.{append_assoc, append-nil, take_all, map-id}
use Rattle.std.specs.List.{join_with_byte}

-- each piece behind the first has the byte in front
join_with_byte-first : {X : Type 0} (c : ℕ) (f : X → List ℕ) (x : X) (xs : List X) → join_with_byte c (map f (x ∷ xs)) ≡ f x ++ flat_map (λ y. c ∷ f y) xs
join_with_byte-first c f x [] = sym (append-nil (f x))
join_with_byte-first c f x (y ∷ ys) = ap (λ more. f x ++ (c ∷ more)) (join_with_byte-first c f y ys)

-- the first piece, and then each behind it with the byte in front
pub joined : {X : Type 0} (c : ℕ) (f : X → List ℕ) (before after : List ℕ) (all others : List X) (first : X) (i : ℕ) → all ≡ first ∷ others → length others ≤ i →
    after ≡ (before ++ f first) ++ flat_map (λ x. c ∷ f x) (take i others) → after ≡ before ++ join_with_byte c (map f all)
joined c f before after all others first i split whole e =
    e ∙ ap (λ xs. (before ++ f first) ++ flat_map (λ x. c ∷ f x) xs) (take_all i others whole)
    ∙ append_assoc before (f first) (flat_map (λ x. c ∷ f x) others)
    ∙ ap (λ more. before ++ more) (sym (join_with_byte-first c f first others))
    ∙ ap (λ xs. before ++ join_with_byte c (map f xs)) (sym split)

-- the same of pieces as they are
pub joined_pieces : (c : ℕ) (before after : List ℕ) (all others : List (List ℕ)) (first : List ℕ) (i : ℕ) → all ≡ first ∷ others → length others ≤ i →
    after ≡ (before ++ first) ++ flat_map (λ x. c ∷ x) (take i others) → after ≡ before ++ join_with_byte c all
joined_pieces c before after all others first i split whole e =
    joined c (λ x. x) before after all others first i split whole e ∙ ap (λ xs. before ++ join_with_byte c xs) (map-id all)

pub ruleset appended = (append_assoc)
