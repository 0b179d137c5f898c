-- Placements: the fold, or the two folds, in which the rows of a table lie.
use Rattle.std.specs.Prelude.{ℕ, ◌+◌, ◌-◌, ◌*◌, ◌^◌, ◌<◌, ◌≤◌, ◌&&◌, nat_le, nat_lt, if◌then◌else◌, List, length}
use Rattle.mt_tree.specs.declared.schema.Column.{Column}
use Rattle.mt_fold.specs.declared.fold.Fold.{Fold}
use Rattle.mt_fold.specs.declared.fold.Placement.{Placement}
use Rattle.mt_fold.specs.declared.fold.Placement.TheVariants.{Settled, Moving}
use Rattle.mt_fold.specs.Folds.{IsValidFold}

-- a fold and its generation, which is 0 or 1
pub record Folded : Type 0 where
  pub generation : ℕ
  pub fold : Fold

-- The fold in which a Row lies. While a table moves, the rows from its frontier up to `upto` lie in the
-- old fold still, and all others in the new one.
abbrev pub folded_at : Placement → ℕ → Folded
folded_at (Settled generation fold) row = record { generation = generation; fold = fold }
folded_at (Moving generation before after frontier upto) row =
    if nat_le frontier row && nat_lt row upto then record { generation = generation; fold = before }
    else record { generation = 1 - generation; fold = after }

-- the number that a chunk of a fold has in its slots
abbrev pub chunk_number : Folded → ℕ → ℕ
chunk_number folded chunk = 16 * folded.generation + chunk

-- The generation is 0 or 1, and the column has a place in each fold.
abbrev pub HasPlace : Placement → ℕ → Type 0
HasPlace (Settled generation fold) column = (generation ≤ 1) × (column < length fold.places)
HasPlace (Moving generation before after frontier upto) column = (generation ≤ 1) × (column < length before.places) × (column < length after.places)

-- a placement of which each fold fits, and which moves rows that there are
abbrev pub IsValidPlacement : Placement → List Column → ℕ → Type 0
IsValidPlacement (Settled generation fold) columns base_len = (generation ≤ 1) × IsValidFold fold columns base_len
IsValidPlacement (Moving generation before after frontier upto) columns base_len =
    (generation ≤ 1) × IsValidFold before columns base_len × IsValidFold after columns base_len × (frontier < upto) × (upto ≤ 2 ^ 63)
