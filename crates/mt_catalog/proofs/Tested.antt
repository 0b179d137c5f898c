-- Tests of the members of a list, one after another.
use Rattle.std.proofs.Common.{◌≡◌, List, ◌∷◌, sym}
use Rattle.std.specs.Prelude.{All, ◌↔◌}
use Rattle.std.proofs.lemmas.List.Elements.{All-cons, All-same, All-tail}

-- what is left decides, where the first of it keeps the rule
pub rest_decides : {A B : Type 0} (P : A → Type 0) (rest others : List A) (first : A) → rest ≡ first ∷ others → P first → (All P rest ↔ B) → (All P others ↔ B)
rest_decides P rest others first is keeps decides =
    (λ all. decides.0 (All-same P rest (first ∷ others) is (All-cons P first others keeps all)), λ whole. All-tail P first others (All-same P (first ∷ others) rest (sym is) (decides.1 whole)))
