use Rattle.std.proofs.Common.{◌≡◌, ◌<◌, ℕ, slice_get, Some}
use Rattle.mt_fold.specs.declared.fold.Place.TheVariants.{Field}
use Rattle.mt_fold.proofs.validity.are_apart.Given as goal

abbrev pub invariant-loop-column : goal.invariant-loop-column
invariant-loop-column l =
    (a b chunk field : ℕ) → a < l.column → b < l.column → slice_get l.places a ≡ Some (Field chunk field) → slice_get l.places b ≡ Some (Field chunk field) → a ≡ b
