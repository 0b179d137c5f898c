-- What is asked for so far, with what is left to ask for.
use Rattle.std.proofs.Common.{◌≡◌, drop}
use Rattle.std.specs.List.{filter_map}
use Rattle.std.specs.FinMap as finite
use Rattle.mt_places.specs.Held.{asking}
use Rattle.mt_places.specs.Named.{body_key}
use Rattle.mt_places.proofs.body_places.BodyPlaces.asked.Given as goal

abbrev pub invariant-loop-change : goal.invariant-loop-change
invariant-loop-change l = asking (filter_map body_key (drop l.change-index l.changes)) l.bodies ≡ asking (filter_map body_key l.changes) finite.empty
