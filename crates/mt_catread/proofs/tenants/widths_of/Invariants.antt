-- The columns of the extensions so far.
use Rattle.std.proofs.Common.{◌≡◌, ◌*◌, ◌≤◌, length, take}
use Rattle.std.specs.Prelude.{flat_map, slice_get}
use Rattle.mt_catalog.specs.State.{extension_columns}
use Rattle.mt_catread.proofs.tenants.widths_of.Given as goal

abbrev pub invariant-loop-number : goal.invariant-loop-number
invariant-loop-number l = record {
  is : l.width ≡ length (flat_map (λ number. extension_columns (slice_get l.extensions number)) (take l.number-index l.numbers));
  few : l.width ≤ 16 * l.number-index;
}
