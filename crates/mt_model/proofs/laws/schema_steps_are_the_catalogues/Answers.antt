-- By each step.
use Rattle.mt_model.proofs.InStep.{applied-in_step}
use Rattle.mt_model.proofs.Stepped.{catalogue-applied}
use Rattle.mt_model.proofs.laws.schema_steps_are_the_catalogues.Goals as goal

pub returns-clause-catalogue : goal.returns-clause-catalogue
returns-clause-catalogue c = λ service command in_step accepted. catalogue-applied service command in_step

pub returns-clause-in_step : goal.returns-clause-in_step
returns-clause-in_step c = applied-in_step
