-- The slots so far, and those of the entries that are left.
use Rattle.std.proofs.Common.{◌≡◌, ◌++◌, map, List}
use Rattle.mt_physplan.specs.Keys.{slot_in}
use Rattle.mt_physplan.proofs.slot_map.unpack.Given as goal

abbrev pub invariant-loop-key : goal.invariant-loop-key
invariant-loop-key l = l.rows.items ++ map (λ e. slot_in e.0 e.1) l.key-iterator ≡ map (λ e. slot_in e.0 e.1) l.fn.slots.entries
