use Rattle.std.proofs.Common.{◌≡◌, ◌≤◌, [], ◌∷◌, length, All}
use Rattle.mt_codec.specs.declared.field.FieldKind.TheVariants.{Int}
use Rattle.mt_rowfile.specs.declared.layout.Head.TheVariants.{Conventional}
use Rattle.mt_physplan.specs.declared.change.Change.{Change}
use Rattle.mt_places.specs.Named.{table_of}
use Rattle.mt_staging.specs.Group.{Suits}
use Rattle.mt_staging.proofs.tests.row_changes.Given as goal

abbrev pub invariant-loop-step : goal.invariant-loop-step
invariant-loop-step l = record {
  suit : All (Suits (record { head = Conventional; kinds = Int ∷ [] })) l.changes;
  tables : All (λ (change : Change). table_of change ≤ 31) l.changes;
  count : length l.changes ≡ l.step-index;
}
