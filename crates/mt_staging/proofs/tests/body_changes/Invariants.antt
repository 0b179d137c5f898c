use Rattle.std.proofs.Common.{◌≡◌, ◌≤◌, length, All}
use Rattle.mt_physplan.specs.declared.change.Change.{Change}
use Rattle.mt_tables.specs.Rows.{catalogue_layout}
use Rattle.mt_places.specs.Named.{table_of}
use Rattle.mt_staging.specs.Group.{Suits}
use Rattle.mt_staging.proofs.tests.body_changes.Given as goal

abbrev pub invariant-loop-step : goal.invariant-loop-step
invariant-loop-step l = record {
  suit : All (Suits (catalogue_layout 10)) l.changes;
  tables : All (λ (change : Change). table_of change ≤ 31) l.changes;
  count : length l.changes ≡ l.step-index;
}
