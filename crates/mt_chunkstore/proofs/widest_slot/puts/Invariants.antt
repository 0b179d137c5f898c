use Rattle.std.proofs.Common.{◌≡◌, Some, All, length}
use Rattle.mt_rowfile.specs.declared.layout.Head.TheVariants.{Conventional}
use Rattle.mt_tables.specs.Rows.{KnownLayouts, layout_of}
use Rattle.mt_chunkstore.specs.Changes.{IsSuited}
use Rattle.mt_chunkstore.specs.declared.widest_slot.TheConstants.{WIDEST}
use Rattle.mt_chunkstore.proofs.widest_slot.puts.Given as goal

-- a change for each Row so far
abbrev pub invariant-loop-row : goal.invariant-loop-row
invariant-loop-row l = record {
  suited : (known : KnownLayouts) → layout_of known 31 ≡ Some (record { head = Conventional; kinds = WIDEST }) → All (IsSuited known) l.changes;
  size : length l.changes ≡ l.row;
}
