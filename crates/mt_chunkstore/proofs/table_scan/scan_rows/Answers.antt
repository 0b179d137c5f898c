-- One page after another.
use Rattle.std.proofs.Common.{◌≡◌, suc, ◌+◌, ◌-◌, ◌*◌, ◌<◌, ◌∙◌, IsTrue, All, Some, refl, sym, ap, subst, rules, arith}
use Rattle.mt_machine.specs.declared.machine.Area.TheVariants as areas
use Rattle.mt_machine.specs.LeavesLaws.{looks_then}
use Rattle.mt_journal.specs.Layout.{Area}
use Rattle.mt_rowfile.specs.Pages.{slots_of_page}
use Rattle.mt_rowfile.specs.Slots.{IsSlot}
use Rattle.mt_tables.specs.Pages.{bytes_at, table_at}
use Rattle.mt_tables.specs.Rows.{layout_of}
use Rattle.mt_tables.proofs.Readings.{readable_page}
use Rattle.mt_chunkstore.proofs.OnePage.{elsewhere, layout_some, of_another, of_its_table, page_passed, rose_since}
use Rattle.mt_chunkstore.proofs.table_scan.scan_rows.Goals as goal
use Rattle.mt_chunkstore.proofs.table_scan.scan_rows.Goals.{then-is_of_table+in_ok-scan_page, else-is_of_table}

pub returns-in_err-scan_page-clause-disk : goal.returns-in_err-scan_page-clause-disk
returns-in_err-scan_page-clause-disk g c = λ disk tells listed known is counted sound.
    let meaning = g.M.Machine.meaning in
    let area : Area = (meaning c.args.m.now).content areas.Pages in
    let n = c.loop-n.n in
    let layout = c.args.layout.now in
    let same : (meaning c.loop-n.m).content areas.Pages ≡ area = ap (λ content. content areas.Pages) (c.loop-n.invariant.looks.content (c.scan_page.ensures.looks.leaves.told tells)) in
    let within : n < c.args.pages.now = subst (λ k. n < k) c.count-count.ensures.count c.loop-n-test.true in
    let of_table : table_at area n ≡ c.args.scan.now.table =
    of_its_table area c.args.directory.now.tables c.args.pages.now n c.args.scan.now.table listed c.loop-n.auto.n within (layout_some known c.args.scan.now.table layout is) (sym c.is_of_table.ensures ∙ c.if-is_of_table.true) in
    let readable : All (IsSlot layout) (slots_of_page layout (bytes_at area (4096 * n) 4096)) =
    readable_page known area n layout sound c.loop-n.auto.n (subst (λ k. n < k) (sym counted) within) (subst (λ t. layout_of known t ≡ Some layout) (sym of_table) is) in
    rose_since (meaning c.args.m.now).disk_faults (meaning c.loop-n.m).disk_faults (meaning c.scan_page.new.m).disk_faults c.loop-n.invariant.looks.leaves.disk_faults
    (c.in_err-scan_page.ensures.disk (search rules) tells (subst (λ (a : Area). All (IsSlot layout) (slots_of_page layout (bytes_at a (4096 * n) 4096))) (sym same) readable))

pub loop-n-preserved : goal.loop-n-preserved
loop-n-preserved g c =
    let meaning = g.M.Machine.meaning in
    let area : Area = (meaning c.args.m.now).content areas.Pages in
    let n = c.loop-n.n in
    let layout = c.args.layout.now in
    let left = c.count-count.result - n in
    let more = c.count-count.result - (n + 1) in
    let fewer : left ≡ suc more = omega arith in
    let within : n < c.args.pages.now = subst (λ k. n < k) c.count-count.ensures.count c.loop-n-test.true in
    let before = c.loop-n.invariant in
    elim c.if-is_of_table.branch [
      | then-is_of_table+in_ok-scan_page w ↦ rw (w.m-is, w.pages-is, w.found-is) (record {
        same = w.scan_page.ensures.same ∙ before.same;
        found = λ tells listed known is.
            let told : IsTrue (meaning c.loop-n.m).tells = w.scan_page.ensures.looks.leaves.told tells in
            let same : (meaning c.loop-n.m).content areas.Pages ≡ area = ap (λ content. content areas.Pages) (before.looks.content told) in
            let of_table : table_at area n ≡ c.args.scan.now.table =
            of_its_table area c.args.directory.now.tables c.args.pages.now n c.args.scan.now.table listed c.loop-n.auto.n within (layout_some known c.args.scan.now.table layout is) (sym c.is_of_table.ensures ∙ w.if-is_of_table.true) in
            page_passed c.args.scan.now known area ((meaning c.loop-n.m).content areas.Pages) n left more c.loop-n.found w.scan_page.new.found _ same fewer (before.found told listed known is)
            (w.in_ok-scan_page.ensures.ok tells (ap (λ (a : Area). table_at a n) same ∙ of_table) known is);
        looks = looks_then before.looks w.scan_page.ensures.looks;
        beneath = g.met.M.Machine.beneath_both c.args.m.now c.loop-n.m w.scan_page.new.m before.beneath w.scan_page.ensures.beneath;
      })
      | else-is_of_table w ↦ rw (w.m-is, w.pages-is, w.found-is) (record {
        same = before.same;
        found = λ tells listed known is.
            page_passed c.args.scan.now known area area n left more c.loop-n.found c.loop-n.found _ refl fewer (before.found tells listed known is)
            (sym (elsewhere c.args.scan.now known area n c.loop-n.found
            (of_another area c.args.directory.now.tables c.args.pages.now n c.args.scan.now.table listed c.loop-n.auto.n within c.requires.table (sym c.is_of_table.ensures ∙ w.if-is_of_table.false))));
        looks = before.looks;
        beneath = before.beneath;
      })
    ]
