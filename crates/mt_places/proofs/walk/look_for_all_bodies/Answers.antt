use Rattle.std.proofs.Common.{drop, sym, ◌∙◌}
use Rattle.mt_rowfile.specs.Layouts.{slot_width, slots_per_page}
use Rattle.mt_tables.specs.Rows.{body_in}
use Rattle.mt_tables.proofs.Readings.{body_elsewhere}
use Rattle.mt_places.proofs.Pages.{sought-nothing}
use Rattle.mt_places.proofs.walk.look_for_all_bodies.Goals as goal

pub returns-else-is_of_catalogue : goal.returns-else-is_of_catalogue
returns-else-is_of_catalogue c =
    let layout = c.args.layout.now in
    sym (sought-nothing body_in (slot_width layout) c.args.table c.args.page 0 (slots_per_page layout) (drop 8 c.args.bytes.now) c.args.bodies.now
    (λ slot. body_elsewhere (c.args.table, slot) (sym c.is_of_catalogue.ensures ∙ c.if-is_of_catalogue.false)))
