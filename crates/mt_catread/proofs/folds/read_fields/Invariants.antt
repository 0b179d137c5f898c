-- The fields of the columns so far.
use Rattle.std.proofs.Common.{◌≡◌, ℕ, length, Option, Some}
use Rattle.std.specs.Prelude.{slice_get}
use Rattle.mt_fold.specs.declared.shape.Shape.{Shape}
use Rattle.mt_catslot.specs.declared.slot.CatKey.TheVariants as keys
use Rattle.mt_catalog.specs.Found.{field_found}
use Rattle.mt_catalog.specs.Keyed.{slot_in}
use Rattle.mt_catread.proofs.folds.read_fields.Given as goal

abbrev pub invariant-loop-column : goal.invariant-loop-column
invariant-loop-column l = record {
  size : length l.fields ≡ l.column;
  each : (n : ℕ) (field : Option (Shape × ℕ × ℕ)) → slice_get l.fields n ≡ Some field → field_found (slot_in l.slots.entries (keys.Field l.tenant l.base l.generation n)) ≡ field;
}
