use Rattle.mt_places.proofs.Bodies.{bodies_total}
use Rattle.mt_places.proofs.Stays.{inserted-asked}
use Rattle.mt_places.proofs.tests.a_slot_of_the_catalogue_is_found_and_placed.Goals as goal

pub body-requires-4 : goal.body-requires-4
body-requires-4 g c = rw c.set_body.ensures.bodies (inserted-asked bodies_total _ _ _)
