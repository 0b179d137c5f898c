-- By what each chunk is needed for.
use Rattle.mt_fold.proofs.Filled.{cover_is_filled}
use Rattle.mt_fold.proofs.laws.covers_are_filled.Goals as goal

pub returns : goal.returns
returns c = cover_is_filled
