use Rattle.mt_catslot.proofs.Written.{slot_again}
use Rattle.mt_catslot.proofs.laws.written_slots_are_read.Goals as goal

pub returns : goal.returns
returns c = slot_again
