-- Each run gives the tenant the replies of its private database, and these are the same.
use Rattle.mt_model.proofs.Seen.{same_replies}
use Rattle.mt_model.proofs.laws.two_worlds.Goals as goal

pub returns : goal.returns
returns c = λ first last other_first other_last lines other_lines requests other_requests replies other_replies tenant run other_run. same_replies lines requests replies first last other_lines other_requests other_replies other_first other_last tenant run other_run
