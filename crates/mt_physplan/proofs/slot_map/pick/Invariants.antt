use Rattle.std.proofs.Common.{◌≡◌, ◌++◌, List}
use Rattle.mt_physplan.specs.Content.{in_scan, picked}
use Rattle.mt_physplan.proofs.slot_map.pick.Given as goal

abbrev pub invariant-loop-key : goal.invariant-loop-key
invariant-loop-key l = l.rows ++ picked (in_scan l.scan) l.key-iterator ≡ picked (in_scan l.scan) l.slots.entries
