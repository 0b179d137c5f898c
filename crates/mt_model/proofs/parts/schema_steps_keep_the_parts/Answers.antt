-- By each step.
use Rattle.mt_model.proofs.PartsStepped.{parts-applied}
use Rattle.mt_model.proofs.parts.schema_steps_keep_the_parts.Goals as goal

pub returns : goal.returns
returns c = parts-applied
