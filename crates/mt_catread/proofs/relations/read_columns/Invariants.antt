-- The columns so far were found, one at each position.
use Rattle.std.proofs.Common.{◌≡◌, ℕ, length, Some}
use Rattle.std.specs.Prelude.{slice_get}
use Rattle.mt_tree.specs.declared.schema.Column.{Column}
use Rattle.mt_catslot.specs.declared.slot.CatKey.TheVariants as keys
use Rattle.mt_catalog.specs.Found.{column_found}
use Rattle.mt_catalog.specs.Keyed.{slot_in}
use Rattle.mt_catread.proofs.relations.read_columns.Given as goal

abbrev pub invariant-loop-position : goal.invariant-loop-position
invariant-loop-position l = record {
  size : length l.columns ≡ l.position;
  each : (p : ℕ) (column : Column) → slice_get l.columns p ≡ Some column → column_found (slot_in l.slots.entries (keys.Column l.class l.number p)) ≡ Some column;
}
