-- What is asked for so far, with what is left to ask for.
use Rattle.std.proofs.Common.{◌≡◌, drop}
use Rattle.std.specs.List.{filter_map}
use Rattle.std.specs.FinMap as finite
use Rattle.mt_places.specs.Held.{asking}
use Rattle.mt_places.specs.Named.{row_key}
use Rattle.mt_places.proofs.row_places.RowPlaces.asked.Given as goal

abbrev pub invariant-loop-change : goal.invariant-loop-change
invariant-loop-change l = asking (filter_map row_key (drop l.change-index l.changes)) l.rows ≡ asking (filter_map row_key l.changes) finite.empty
