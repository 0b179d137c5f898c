-- By the keys at which the two catalogues differ.
use Rattle.mt_schema.specs.Changed.{changed_keys}
use Rattle.mt_schema.specs.Steps.{stepped}
use Rattle.mt_schema.proofs.Changes.{step_changes}
use Rattle.mt_schema.proofs.Turning.{changed_turn}
use Rattle.mt_schema.proofs.laws.changed_slots_turn_the_catalogue.Goals as goal

pub returns : goal.returns
returns c state kept step tenants rules formed accepted are =
    changed_turn (changed_keys state tenants step) state (stepped state step) (step_changes state kept tenants step rules formed accepted are)
