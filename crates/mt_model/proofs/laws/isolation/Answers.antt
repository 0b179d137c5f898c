-- By induction over the lines of the run.
use Rattle.mt_model.proofs.Seen.{replies_to-run}
use Rattle.mt_model.proofs.laws.isolation.Goals as goal

pub returns : goal.returns
returns c = λ first last lines requests replies tenant run. replies_to-run lines requests replies first last tenant run
