-- Worked examples of the definitions: a table with an integer id, which is a base column, and a text d
-- and an integer a of an extension, in the fold CONV (id), C2 (d), C4 (a).
use Rattle.std.proofs.Common.{◌≡◌, zero, suc, List, [], ◌∷◌, codes, true, false, refl, arith}
use Rattle.mt_codec.specs.declared.field.FieldKind.TheVariants.{Int}
use Rattle.mt_tree.specs.declared.schema.Column.{Column}
use Rattle.mt_tree.specs.declared.schema.Kind.TheVariants.{Integer, Varchar}
use Rattle.mt_fold.specs.declared.fold.Fold.{Fold}
use Rattle.mt_fold.specs.declared.fold.Place.TheVariants.{Conv, Field}
use Rattle.mt_fold.specs.declared.fold.Placement.{Placement}
use Rattle.mt_fold.specs.declared.fold.Placement.TheVariants.{Settled, Moving}
use Rattle.mt_fold.specs.declared.shape.Shape.TheVariants.{C1, C2, C3, C4, C5, C6}
use Rattle.mt_fold.specs.Folds.{IsField, IsUsed, IsValidFold, place_in}
use Rattle.mt_fold.specs.Placements.{IsValidPlacement, chunk_number, folded_at}
use Rattle.mt_fold.specs.Shapes.{price}

abbrev id : Column
id = record { name = codes "id"; kind = Integer; not_null = true; key = true }

abbrev d : Column
d = record { name = codes "d"; kind = Varchar 20; not_null = false; key = false }

abbrev a : Column
a = record { name = codes "a"; kind = Integer; not_null = false; key = false }

abbrev columns : List Column
columns = id ∷ d ∷ a ∷ []

abbrev folded : Fold
folded = record { shapes = C2 ∷ C4 ∷ []; places = Conv ∷ Field 0 0 ∷ Field 1 0 ∷ [] }

-- d is the text of chunk 0, and a column that the fold does not know lies in the conventional row
place-of-text : place_in folded 1 ≡ Field 0 0
place-of-text = refl

place-of-none : place_in folded 3 ≡ Conv
place-of-none = refl

-- the first field of chunk 1 is used, and the second is not
used : IsUsed folded 1 0
used = (2, refl)

unused : IsUsed folded 1 1 → ⊥
unused (zero, is) = cc
unused (suc zero, is) = cc
unused (suc (suc zero), is) = cc
unused (suc (suc (suc column)), is) = cc

-- chunk 1 has four integers
field : IsField folded 1 3 Int
field = record { shape = C4; chunk_is = refl; field_is = refl }

-- what chunks cost
price-of-both : price (C2 ∷ C4 ∷ []) ≡ 329
price-of-both = refl

price-of-all : price (C1 ∷ C3 ∷ C5 ∷ C6 ∷ []) ≡ 1273
price-of-all = refl

-- the fold that has no chunk is valid where all columns are the base table's, and not else
abbrev unfolded : Fold
unfolded = record { shapes = []; places = Conv ∷ Conv ∷ Conv ∷ [] }

unfolded-not_valid : IsValidFold unfolded columns 1 → ⊥
unfolded-not_valid valid = omega (arith, valid.base_columns 1 refl)

-- while rows 2 to 4 lie in the old fold, of generation 1, the others lie in the new one
abbrev moving : Placement
moving = Moving 1 unfolded folded 2 5

row-before : folded_at moving 1 ≡ record { generation = 0; fold = folded }
row-before = refl

row-first : folded_at moving 2 ≡ record { generation = 1; fold = unfolded }
row-first = refl

row-last : folded_at moving 4 ≡ record { generation = 1; fold = unfolded }
row-last = refl

row-past : folded_at moving 5 ≡ record { generation = 0; fold = folded }
row-past = refl

row-settled : folded_at (Settled 1 folded) 5 ≡ record { generation = 1; fold = folded }
row-settled = refl

-- the chunks of generation 1 have numbers of their own
number-old : chunk_number (folded_at (Settled 0 folded) 0) 1 ≡ 1
number-old = refl

number-new : chunk_number (folded_at (Settled 1 folded) 0) 1 ≡ 17
number-new = refl

-- rows move only where there are some
not-moving : IsValidPlacement (Moving 1 unfolded folded 5 5) columns 3 → ⊥
not-moving (generation, before, after, less, upto) = omega arith
