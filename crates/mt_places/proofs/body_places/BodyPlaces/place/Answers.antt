use Rattle.std.proofs.Common.{◌≡◌, ◌<◌, ◌≤◌, length, get_or, ap, ◌∙◌, arith}
use Rattle.std.proofs.Math.ListN.{set}
use Rattle.std.specs.FinMap as finite
use Rattle.mt_places.specs.Held.{all_bodies, placing}
use Rattle.mt_places.proofs.Bodies.{all-placing, none-placing, same_within}
use Rattle.mt_places.proofs.body_places.BodyPlaces.place.Goals as goal

pub returns-then-table-len : goal.returns-then-table-len
returns-then-table-len c =
    let tables = c.self.inside.tables in
    let within : c.args.table < length tables.items = omega arith in
    let own : c.index_mut.result.now ≡ get_or tables.items c.args.table finite.empty = c.index_mut.ensures.value ∙ same_within tables.items c.args.table c.index_mut.result.now finite.empty within in
    ap (λ m. all_bodies (set tables.items c.args.table m)) (c.place.ensures ∙ ap (λ m. placing c.args.body.now c.args.position m) own)
    ∙ all-placing tables.items c.args.table c.args.body.now c.args.position within
    ∙ ap (λ m. placing (c.args.table, c.args.body.now) c.args.position m) c.self.view_is

pub returns-else-table-len : goal.returns-else-table-len
returns-else-table-len c =
    let tables = c.self.inside.tables in
    let outside : length tables.items ≤ c.args.table = omega arith in
    rw (← c.self.view_is) (none-placing tables.items c.args.table c.args.body.now c.args.position outside)
