-- By the lists that it is chosen of.
use Rattle.mt_fold.proofs.Cheapest.{cover_is_one}
use Rattle.mt_fold.proofs.laws.each_cover_is_one.Goals as goal

pub returns : goal.returns
returns c = cover_is_one
