-- By the rules that each step keeps.
use Rattle.mt_schema.proofs.KeepsRules.{step_keeps}
use Rattle.mt_schema.proofs.laws.schema_steps_keep_the_rules.Goals as goal

pub returns : goal.returns
returns c state kept step rules formed accepted = step_keeps state kept step rules formed accepted
