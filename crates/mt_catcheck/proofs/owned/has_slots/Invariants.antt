-- What is left decides.
use Rattle.std.specs.Prelude.{All, ◌↔◌}
use Rattle.std.specs.HashMap.{values}
use Rattle.mt_catalog.specs.Slots.{HasSlot}
use Rattle.mt_catcheck.proofs.owned.has_slots.Given as goal

abbrev pub invariant-loop-slot : goal.invariant-loop-slot
invariant-loop-slot l = All (HasSlot l.catalog) l.slot-iterator ↔ All (HasSlot l.catalog) (values l.slots)
