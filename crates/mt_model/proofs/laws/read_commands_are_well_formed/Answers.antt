-- By the words of the text.
use Rattle.mt_model.proofs.WellFormed.{read_formed}
use Rattle.mt_model.proofs.laws.read_commands_are_well_formed.Goals as goal

pub returns : goal.returns
returns c = read_formed
