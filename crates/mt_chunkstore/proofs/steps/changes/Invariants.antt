use Rattle.std.proofs.Common.{◌≡◌, [], ◌∷◌, Some, All, length}
use Rattle.mt_codec.specs.declared.field.FieldKind.TheVariants.{Int}
use Rattle.mt_rowfile.specs.declared.layout.Head.TheVariants.{Conventional}
use Rattle.mt_tables.specs.Rows.{KnownLayouts, layout_of}
use Rattle.mt_chunkstore.specs.Changes.{IsSuited}
use Rattle.mt_chunkstore.proofs.steps.changes.Given as goal

-- a change for each step so far
abbrev pub invariant-loop-step : goal.invariant-loop-step
invariant-loop-step l = record {
  suited : (known : KnownLayouts) → layout_of known 16 ≡ Some (record { head = Conventional; kinds = Int ∷ [] }) → All (IsSuited known) l.changes;
  size : length l.changes ≡ l.step-index;
}
