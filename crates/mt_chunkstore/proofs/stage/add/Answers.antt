-- The layout of the change's table is known.
use Rattle.std.proofs.Common.{◌≡◌, Some, sym, ap, ◌∙◌}
use Rattle.mt_tables.specs.Rows.{layout_of}
use Rattle.mt_directory.specs.Known.{known_in}
use Rattle.mt_places.specs.Named as named
use Rattle.mt_staging.specs.States.{group_of}
use Rattle.mt_chunkstore.proofs.Asked.{on_ok}
use Rattle.mt_chunkstore.proofs.Refused.{refused_room}
use Rattle.mt_chunkstore.proofs.stage.add.Goals as goal

pub returns-clause-ok : goal.returns-clause-ok
returns-clause-ok c =
    let known = known_in c.args.layouts.now in
    let is : layout_of known (named.table_of c.args.change.now) ≡ Some c.in-Some.layout.now = ap (layout_of known) (sym c.table_of.ensures) ∙ sym c.in-Some.ensures.layout in
    on_ok c.add.result c.add.ensures.ok (λ step area start changes. step known area start changes c.in-Some.ensures.known is)

pub returns-clause-disk : goal.returns-clause-disk
returns-clause-disk c = λ disk area start changes group.
    let known = known_in c.args.layouts.now in
    let is : layout_of known (named.table_of c.args.change.now) ≡ Some c.in-Some.layout.now = ap (layout_of known) (sym c.table_of.ensures) ∙ sym c.in-Some.ensures.layout in
    refused_room known c.args.pages.now c.in-Some.layout.now c.args.change.now (group_of c.args.group.now) is c.in-Some.ensures.sound c.requires.suited
    (c.add.ensures.disk disk known area start changes c.in-Some.ensures.known is group)
