-- The extensions so far were found, one at each position.
use Rattle.std.proofs.Common.{◌≡◌, ℕ, length, Some}
use Rattle.std.specs.Prelude.{slice_get}
use Rattle.mt_catslot.specs.declared.slot.CatKey.TheVariants as keys
use Rattle.mt_catalog.specs.Found.{extended_found}
use Rattle.mt_catalog.specs.Keyed.{slot_in}
use Rattle.mt_catread.proofs.tenants.read_numbers.Given as goal

abbrev pub invariant-loop-position : goal.invariant-loop-position
invariant-loop-position l = record {
  size : length l.numbers ≡ l.position;
  each : (p : ℕ) (number : ℕ) → slice_get l.numbers p ≡ Some number → extended_found (slot_in l.slots.entries (keys.Extended l.tenant l.base p)) ≡ Some number;
}
