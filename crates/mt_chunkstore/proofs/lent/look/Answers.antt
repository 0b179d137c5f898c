-- What the pages hold, where they stand for the store.
use Rattle.std.proofs.Common.{◌∙◌, ℕ, IsTrue, sym, ap, rules}
use Rattle.std.specs.FinMap as finite
use Rattle.mt_machine.specs.declared.machine.Area.TheVariants as areas
use Rattle.mt_journal.specs.Layout.{Area}
use Rattle.mt_physplan.specs.Content.{slots_in_order}
use Rattle.mt_tables.specs.Rows.{KnownLayouts, sizes_of}
use Rattle.mt_tables.specs.Tables.{slots_below}
use Rattle.mt_directory.specs.Known.{known_in}
use Rattle.mt_chunkstore.specs.Asking.{with_asked}
use Rattle.mt_chunkstore.proofs.AllPages.{nothing_scanned, rows_found}
use Rattle.mt_chunkstore.proofs.lent.look.Goals as goal

pub returns-in_default-clause-rows : goal.returns-in_default-clause-rows
returns-in_default-clause-rows g c = λ tells sound.
    let area : Area = (g.M.Machine.meaning c.args.m.now).content areas.Pages in
    c.new.ensures ∙ nothing_scanned c.args.scan.now (known_in c.args.store.now.layouts) area sound c.in_default.ensures.none

pub returns-in_err-found-clause-disk : goal.returns-in_err-found-clause-disk
returns-in_err-found-clause-disk g c = λ disk tells sound.
    let stands = c.requires.stands in
    let told : IsTrue (g.M.Machine.meaning c.args.m.now).tells = c.scan_rows.ensures.looks.leaves.told tells in
    c.in_err-found.ensures.disk (search rules) tells (stands.directory told) (known_in c.args.store.now.layouts) c.in-Some.ensures.layout (stands.pages.counted told) sound

pub returns-clause-rows : goal.returns-clause-rows
returns-clause-rows g c = λ tells sound.
    let stands = c.requires.stands in
    let area : Area = (g.M.Machine.meaning c.args.m.now).content areas.Pages in
    let known : KnownLayouts = known_in c.args.store.now.layouts in
    let scan = c.args.scan.now in
    let told : IsTrue (g.M.Machine.meaning c.args.m.now).tells = c.scan_rows.ensures.looks.leaves.told tells in
    c.in_ok-into_slots.ensures
    ∙ ap slots_in_order (c.in_ok-found.ensures.found tells (stands.directory told) known c.in-Some.ensures.layout
    ∙ ap (λ (count : ℕ). with_asked scan known (slots_below (sizes_of known) count area) finite.empty) (sym (stands.pages.counted told))
    ∙ rows_found scan known area sound)
