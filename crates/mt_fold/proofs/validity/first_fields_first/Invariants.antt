use Rattle.std.proofs.Common.{◌≡◌, ◌<◌, ℕ, slice_get, Some}
use Rattle.mt_fold.specs.declared.fold.Place.TheVariants.{Field}
use Rattle.mt_fold.specs.Clauses.{Follows}
use Rattle.mt_fold.proofs.validity.first_fields_first.Given as goal

abbrev pub invariant-loop-place : goal.invariant-loop-place
invariant-loop-place l = (column : ℕ) → column < l.place-index → (chunk field : ℕ) → slice_get l.places column ≡ Some (Field chunk field) → Follows l.shapes l.places chunk field
