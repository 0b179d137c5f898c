use Rattle.mt_catslot.proofs.Said.{said_at}
use Rattle.mt_catslot.proofs.laws.said_slots_stand_in_their_table.Goals as goal

pub returns : goal.returns
returns c = said_at
