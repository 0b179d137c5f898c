-- What was added and what is left are all.
use Rattle.std.proofs.Common.{◌≡◌, ◌++◌, length}
use Rattle.std.specs.Prelude.{flat_map, slice_get}
use Rattle.mt_catalog.specs.Rules.{column_names}
use Rattle.mt_catalog.specs.State.{extension_columns}
use Rattle.mt_schema.proofs.names.add_extension_names.Given as goal

abbrev pub invariant-loop-first : goal.invariant-loop-first
invariant-loop-first l =
    l.names ++ column_names (flat_map (λ number. extension_columns (slice_get l.extensions number)) l.rest)
    ≡ l.fn.names ++ column_names (flat_map (λ number. extension_columns (slice_get l.extensions number)) l.fn.numbers)

abbrev pub decreases-loop-first : goal.decreases-loop-first
decreases-loop-first l = length l.rest
