use Rattle.mt_catslot.proofs.Whole.{said_whole}
use Rattle.mt_catslot.proofs.laws.said_bodies_are_written.Goals as goal

pub returns : goal.returns
returns c = said_whole
