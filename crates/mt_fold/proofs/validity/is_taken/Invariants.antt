use Rattle.std.proofs.Common.{◌≡◌, ◌<◌, ℕ, slice_get, Some}
use Rattle.mt_fold.specs.declared.fold.Place.TheVariants.{Field}
use Rattle.mt_fold.proofs.validity.is_taken.Given as goal

abbrev pub invariant-loop-place : goal.invariant-loop-place
invariant-loop-place l = (column : ℕ) → column < l.place-index → slice_get l.places column ≡ Some (Field l.chunk l.field) → ⊥
