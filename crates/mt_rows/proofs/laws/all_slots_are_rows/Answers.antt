-- All slots are those of a scan of all Rows.
use Rattle.mt_rows.proofs.ByRow.{slots_by_row}
use Rattle.mt_rows.proofs.laws.all_slots_are_rows.Goals as goal

pub returns : goal.returns
returns c = slots_by_row
