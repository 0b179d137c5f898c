-- How a schema step changes what is kept.
use Rattle.std.specs.Prelude.{◌≡◌, ℕ, ◌<◌, ◌^◌, nat_eq, cond, List, map, None}
use Rattle.mt_tree.specs.declared.command.AdminCmd.{AdminCmd}
use Rattle.mt_tree.specs.declared.command.AdminCmd.TheVariants.{Extend}
use Rattle.mt_tree.specs.declared.row.MarkedRow.{MarkedRow}
use Rattle.mt_catalog.specs.Rules.{IsCatalogue}
use Rattle.mt_catalog.specs.State.{State}
use Rattle.mt_schema.specs.Refusals.{step_refusal}
use Rattle.mt_schema.specs.Steps.{stepped}
use Rattle.mt_model.specs.Database.{with_nulls}
use Rattle.mt_model.specs.Parts.{rows_after, rows_with}
use Rattle.mt_private.specs.Kept.{TableRows, rows_in}
use Rattle.mt_private.specs.Seen.{list_at}

-- the rows of one list have so many NULLs behind each
abbrev pub WidensList : ℕ → ℕ → List (List MarkedRow) → List (List MarkedRow) → Type 0
WidensList base count old new = (other : ℕ) → list_at new other ≡ cond (nat_eq other base) (map (with_nulls count) (list_at old other)) (list_at old other)

-- those of one table
abbrev pub WidensRows : ℕ → ℕ → ℕ → TableRows → TableRows → Type 0
WidensRows tenant base count old new = (number other : ℕ) → rows_in new number other ≡ rows_with (rows_in old) tenant base (map (with_nulls count)) number other

-- each table has its rows after the step
abbrev pub StepsRows : State → AdminCmd → TableRows → TableRows → Type 0
StepsRows state step old new = (number other : ℕ) → rows_in new number other ≡ rows_after state step (rows_in old) number other

-- a tenant that the step extends has a number that a tenant can have
abbrev pub ExtendsSome : AdminCmd → Type 0
ExtendsSome (Extend tenant name) = tenant < 2 ^ 32
ExtendsSome command = Unit {0}

-- The step is not refused, where so many rows are kept of the tenant that it names, and was made.
pub record IsMade (state : State) (kept : ℕ) (step : AdminCmd) (after : State) (old new : TableRows) : Type 0 where
  pub accepted : step_refusal state (λ tenant. kept) step ≡ None
  pub next_is : after ≡ stepped state step
  pub rules : IsCatalogue after
  pub rows : StepsRows state step old new
