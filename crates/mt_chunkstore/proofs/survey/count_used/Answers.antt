-- Page by page, those of the table.
use Rattle.std.proofs.Common.{◌<◌, sym, ◌∙◌, arith}
use Rattle.mt_machine.specs.LeavesLaws.{looks_then}
use Rattle.mt_chunkstore.proofs.Surveying.{counted_elsewhere, counted_here}
use Rattle.mt_chunkstore.proofs.survey.count_used.Goals as goal
use Rattle.mt_chunkstore.proofs.survey.count_used.Goals.{then-table+in_ok-read, else-table}

pub loop-n-preserved : goal.loop-n-preserved
loop-n-preserved g c =
    let meaning = g.M.Machine.meaning in
    let before = c.loop-n.invariant in
    let n = c.loop-n.n in
    let table = c.args.table in
    let within : n < c.args.pages.now = (let test = c.loop-n-test.true in let all = c.count-count.ensures.count in omega arith) in
    elim c.if-table.branch [
      | then-table+in_ok-read w ↦
          record {
            same = rw w.pages-is (w.read.ensures.same ∙ before.same);
            looks = rw w.m-is (looks_then before.looks w.read.ensures.looks);
            faults = rw w.m-is (w.in_ok-read.ensures.cause.none ∙ before.faults);
            beneath = rw w.m-is (g.met.M.Machine.beneath_both _ _ _ before.beneath w.read.ensures.beneath);
            counted = rw (w.m-is, w.used-is) (λ tells known is.
                counted_here known table n c.args.pages.now c.args.layout.now c.requires.from c.requires.upto c.loop-n.auto.n within is c.loop-n.used w.used_slots-used.result c.args.directory.now.tables w.read.new.into
                (meaning c.args.m.now) (meaning c.loop-n.m) (meaning w.read.new.m) before.looks w.read.ensures.looks c.requires.listed (sym c.table.ensures ∙ w.if-table.true)
                (λ told. before.counted told known is) w.in_ok-read.ensures.bytes w.used_slots-used.ensures.used tells);
            few = rw w.used-is (let was = before.few in let more = w.used_slots-used.ensures.few in omega arith);
          }
      | else-table w ↦
          record {
            same = rw w.pages-is before.same;
            looks = rw w.m-is before.looks;
            faults = rw w.m-is before.faults;
            beneath = rw w.m-is before.beneath;
            counted = rw (w.m-is, w.used-is) (λ tells known is.
                counted_elsewhere known table n c.args.pages.now c.args.layout.now c.requires.from c.requires.upto c.loop-n.auto.n within is c.loop-n.used c.args.directory.now.tables
                (meaning c.args.m.now) (meaning c.loop-n.m) before.looks c.requires.listed (λ same. w.if-table.false (c.table.ensures ∙ same))
                (λ told. before.counted told known is) tells);
            few = rw w.used-is (let was = before.few in omega arith);
          }
    ]
