-- The extensions so far were found, one at each number, and are narrow.
use Rattle.std.proofs.Common.{◌≡◌, ℕ, length, Some}
use Rattle.std.specs.Prelude.{slice_get}
use Rattle.mt_catalog.specs.declared.state.Extension.{Extension}
use Rattle.mt_catalog.specs.Found.{IsFoundExtension}
use Rattle.mt_catalog.specs.Keyed.{slot_in}
use Rattle.mt_catalog.specs.Small.{AreNarrow}
use Rattle.mt_catread.proofs.relations.read_extensions.Given as goal

abbrev pub invariant-loop-number : goal.invariant-loop-number
invariant-loop-number l = record {
  size : length l.extensions ≡ l.number;
  each : (n : ℕ) (extension : Extension) → slice_get l.extensions n ≡ Some extension → IsFoundExtension (slot_in l.slots.entries) n extension;
  narrow : AreNarrow l.extensions;
}
