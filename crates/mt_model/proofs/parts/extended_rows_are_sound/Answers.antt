-- By each test on the rows.
use Rattle.mt_model.proofs.Widened.{sound-widened}
use Rattle.mt_model.proofs.parts.extended_rows_are_sound.Goals as goal

pub returns : goal.returns
returns c = sound-widened
