use Rattle.std.proofs.Common.{subst}
use Rattle.mt_places.specs.Held.{Held, state_of}
use Rattle.mt_places.specs.Places.{IsLooked}
use Rattle.mt_places.proofs.Looks.{looked}
use Rattle.mt_places.proofs.places.Places.look.Goals as goal

pub returns : goal.returns
returns c = λ known is.
    let old : Held = record { rows = c.self.inside.rows; bodies = c.self.inside.bodies; tables = c.self.inside.tables } in
    let new : Held = record { rows = c.look_for_all_rows.new.rows; bodies = c.look_for_all_bodies.new.bodies; tables = c.look.new.self } in
    subst (λ (held : Held). IsLooked known c.args.table c.args.page c.args.bytes.now (state_of held) (state_of new)) c.self.view_is
    (looked known c.args.table c.args.page c.args.bytes.now c.args.layout.now old new is c.look_for_all_rows.ensures c.look_for_all_bodies.ensures c.in_ok-look.ensures)
