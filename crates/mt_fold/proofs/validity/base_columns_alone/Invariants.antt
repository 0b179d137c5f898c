use Rattle.std.proofs.Common.{◌≡◌, ◌<◌, ℕ, slice_get, Some}
use Rattle.mt_fold.specs.declared.fold.Place.TheVariants.{Conv}
use Rattle.mt_fold.proofs.validity.base_columns_alone.Given as goal

abbrev pub invariant-loop-column : goal.invariant-loop-column
invariant-loop-column l = (column : ℕ) → column < l.column → slice_get l.places column ≡ Some Conv → column < l.base_len
