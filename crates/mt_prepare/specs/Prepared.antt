-- What is prepared of a schema step.
use Rattle.std.specs.Prelude.{◌≡◌, ℕ, None}
use Rattle.mt_tree.specs.declared.command.AdminCmd.{AdminCmd}
use Rattle.mt_catalog.specs.Rules.{IsCatalogue}
use Rattle.mt_catalog.specs.State.{State}
use Rattle.mt_prepare.specs.declared.prepared.Prepared.{Prepared}
use Rattle.mt_schema.specs.Refusals.{step_refusal}
use Rattle.mt_schema.specs.Steps.{stepped}
use Rattle.mt_schema.specs.Turns.{AreTurning}

-- The step is not refused where so many rows are kept of the tenant that it names. The next catalogue
-- is the one that the step makes, and keeps the rules; and the bodies turn the one before into it.
pub record IsPrepared (before : State) (kept : ℕ) (step : AdminCmd) (prepared : Prepared) : Type 0 where
  pub accepted : step_refusal before (λ tenant. kept) step ≡ None
  pub next_is : prepared.next ≡ stepped before step
  pub rules : IsCatalogue prepared.next
  pub turning : AreTurning prepared.rows.put prepared.rows.removed before prepared.next
