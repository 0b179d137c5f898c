-- How a list of names or parts is printed piece by piece.
use Rattle.std.specs.Prelude.{ℕ, Bool, true, false, List, [], ◌∷◌, ◌++◌, codes, flat_map}
use Rattle.std.specs.List.{join_by}

-- Parts with a comma and a space between. Where they are not the first of their list, a comma and a
-- space stand in front too.
abbrev pub parts_text : Bool → List (List ℕ) → List ℕ
parts_text true parts = join_by (λ part. part) (codes ", ") parts
parts_text false parts = flat_map (λ part. codes ", " ++ part) parts

-- what stands in front of a part
abbrev pub separator : Bool → List ℕ
separator true = []
separator false = codes ", "

-- whether what comes behind these parts is the first of the list
abbrev pub first_behind : Bool → List (List ℕ) → Bool
first_behind first [] = first
first_behind first (part ∷ parts) = false
