-- Worked examples: the covers of a few columns.
use Rattle.std.proofs.Common.{◌≡◌, [], ◌∷◌, refl}
use Rattle.mt_fold.specs.declared.shape.Shape.TheVariants.{C1, C3, C4}
use Rattle.mt_fold.specs.Covers.{cover_of}
use Rattle.mt_fold.specs.Shapes.{price}

-- no column needs no chunk
none : cover_of 0 0 ≡ []
none = refl

-- an integer and a text go into one chunk
one_of_each : cover_of 1 1 ≡ C3 ∷ []
one_of_each = refl

-- two integers: two chunks of one would cost 188, and one of four costs 121
two_small : price (C1 ∷ C1 ∷ []) ≡ 188
two_small = refl

one_large : price (C4 ∷ []) ≡ 121
one_large = refl

two_integers : cover_of 2 0 ≡ C4 ∷ []
two_integers = refl

-- five integers: the list of the earlier table stands first
five_integers : cover_of 5 0 ≡ C1 ∷ C4 ∷ []
five_integers = refl
