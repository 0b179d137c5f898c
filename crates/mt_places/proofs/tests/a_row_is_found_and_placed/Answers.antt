use Rattle.mt_physplan.proofs.Keys.{keys_total}
use Rattle.mt_places.proofs.Stays.{inserted-asked}
use Rattle.mt_places.proofs.tests.a_row_is_found_and_placed.Goals as goal

pub row-requires-3 : goal.row-requires-3
row-requires-3 g c = rw c.set_row.ensures.rows (inserted-asked keys_total _ _ _)
