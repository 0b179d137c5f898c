-- The bodies of the keys so far.
use Rattle.std.proofs.Common.{take}
use Rattle.std.specs.Prelude.{filter_map}
use Rattle.mt_catalog.specs.Slots.{slot_of}
use Rattle.mt_schema.specs.Turns.{AreWritten}
use Rattle.mt_schema.proofs.bodies.written.Given as goal

abbrev pub invariant-loop-key : goal.invariant-loop-key
invariant-loop-key l = AreWritten l.bodies (filter_map (slot_of l.catalog) (take l.key-index l.keys))
