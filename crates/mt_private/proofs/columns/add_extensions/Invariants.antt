use Rattle.std.proofs.Common.{◌≡◌, ◌++◌, flat_map, slice_get, take}
use Rattle.mt_catalog.specs.State.{extension_columns}
use Rattle.mt_private.proofs.columns.add_extensions.Given as goal

abbrev pub invariant-loop-number : goal.invariant-loop-number
invariant-loop-number l = l.columns ≡ l.initial.columns ++ flat_map (λ number. extension_columns (slice_get l.extensions number)) (take l.number-index l.numbers)
