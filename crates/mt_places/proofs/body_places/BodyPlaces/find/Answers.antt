use Rattle.std.proofs.Common.{◌≡◌, ◌<◌, ◌≤◌, length, get_or, sym, ap, ◌∙◌, arith}
use Rattle.std.specs.FinMap as finite
use Rattle.mt_places.proofs.Bodies.{get-all, none-outside, same_within}
use Rattle.mt_places.proofs.body_places.BodyPlaces.find.Goals as goal

pub returns-then-table-len : goal.returns-then-table-len
returns-then-table-len c =
    let tables = c.self.inside.tables in
    let outside : length tables.items ≤ c.args.table = omega arith in
    rw (← c.self.view_is) (sym (none-outside tables.items c.args.table c.args.body.now outside))

pub returns : goal.returns
returns c =
    let tables = c.self.inside.tables in
    let within : c.args.table < length tables.items = omega arith in
    let own : c.index.result.now ≡ get_or tables.items c.args.table finite.empty = c.index.ensures ∙ same_within tables.items c.args.table c.index.result.now finite.empty within in
    c.find.ensures ∙ ap (λ m. finite.get m c.args.body.now) own ∙ sym (get-all tables.items c.args.table c.args.body.now)
    ∙ ap (λ m. finite.get m (c.args.table, c.args.body.now)) c.self.view_is
