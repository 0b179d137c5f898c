-- The slots so far are those of the bodies so far.
use Rattle.std.proofs.Common.{◌≡◌, length}
use Rattle.mt_catread.specs.Entries.{AreKeyed}
use Rattle.mt_catread.proofs.Entries.{AreFront}
use Rattle.mt_catread.proofs.slot_map.read_slots.Given as goal

abbrev pub invariant-loop-table : goal.invariant-loop-table
invariant-loop-table l = record {
  size : length l.slots.entries ≡ l.table-index;
  front : AreFront l.bodies l.slots.entries;
  keyed : AreKeyed l.slots.entries;
}
