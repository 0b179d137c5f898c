use Rattle.mt_catslot.proofs.Written.{slot_readable}
use Rattle.mt_catslot.proofs.laws.written_slots_are_readable.Goals as goal

pub returns : goal.returns
returns c = slot_readable
