-- The page is the bytes of the area.
use Rattle.std.proofs.Common.{◌∙◌, All, Result, Ok, Err, sym, ap, subst, map}
use Rattle.std.specs.Prelude.{OnOk}
use Rattle.mt_machine.specs.declared.machine.Area.TheVariants as areas
use Rattle.mt_rowfile.specs.Pages.{slots_of_page}
use Rattle.mt_rowfile.specs.Slots.{IsSlot}
use Rattle.mt_chunkstore.specs.Asking.{with_asked}
use Rattle.mt_chunkstore.proofs.OnePage.{slots_by_layout}
use Rattle.mt_chunkstore.proofs.table_scan.scan_page.Goals as goal

on_ok : {T E P Q : Type 0} → (r : Result T E) → OnOk r P → (P → Q) → OnOk r Q
on_ok (Ok x) p so = so p
on_ok (Err e) p so = tt

pub returns-clause-ok : goal.returns-clause-ok
returns-clause-ok g c = on_ok c.collect.result c.collect.ensures.ok (λ adds tells of_table known is.
    let area = (g.M.Machine.meaning c.args.m.now).content areas.Pages in
    adds known is
    ∙ ap (λ page. with_asked c.args.scan.now known (map (λ bytes. (c.args.scan.now.table, bytes)) (slots_of_page c.args.layout.now page)) c.args.found.now) (c.in_ok-read.ensures.bytes tells)
    ∙ ap (λ slots. with_asked c.args.scan.now known slots c.args.found.now) (sym (slots_by_layout known area c.args.scan.now.table c.args.n c.args.layout.now of_table is)))

pub returns-clause-disk : goal.returns-clause-disk
returns-clause-disk g c = λ disk tells sound. absurd (c.collect.ensures.disk disk
    (subst (λ page. All (IsSlot c.args.layout.now) (slots_of_page c.args.layout.now page)) (sym (c.in_ok-read.ensures.bytes tells)) sound))
