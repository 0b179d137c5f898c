use Rattle.std.proofs.Common.{Some, drop, sym}
use Rattle.mt_rowfile.specs.Layouts.{slot_width, slots_per_page}
use Rattle.mt_tables.specs.Rows.{row_with}
use Rattle.mt_places.proofs.Pages.{row-nowhere, sought-nothing}
use Rattle.mt_places.proofs.walk.look_for_all_rows.Goals as goal

pub returns-in-Catalogue : goal.returns-in-Catalogue
returns-in-Catalogue c =
    let layout = c.args.layout.now in
    sym (sought-nothing (row_with (Some layout)) (slot_width layout) c.args.table c.args.page 0 (slots_per_page layout) (drop 8 c.args.bytes.now) c.args.rows.now
    (row-nowhere layout c.args.table c.in-Catalogue.field-0 c.in-Catalogue.is))
