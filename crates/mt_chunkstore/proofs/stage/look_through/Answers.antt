-- Page by page, those of tables that are named.
use Rattle.std.proofs.Common.{◌≡◌, ◌*◌, ◌<◌, ℕ, sym, subst, ap, refl, ◌∙◌, arith}
use Rattle.mt_machine.specs.LeavesLaws.{looks_itself, looks_then}
use Rattle.mt_machine.specs.declared.machine.Area.TheVariants as areas
use Rattle.mt_tables.specs.Pages.{bytes_at}
use Rattle.mt_directory.specs.Known.{known_in}
use Rattle.mt_tables.specs.Rows.{layout_of}
use Rattle.mt_places.specs.Held.{state_of}
use Rattle.mt_places.specs.Places.{IsLooked}
use Rattle.mt_chunkstore.specs.Walked.{IsFound}
use Rattle.mt_chunkstore.proofs.Asked.{found_none, found_page, found_past}
use Rattle.mt_chunkstore.proofs.stage.look_through.Goals as goal
use Rattle.mt_chunkstore.proofs.stage.look_through.Goals.{then-names+in_ok-look_at, else-names}

pub loop-n-init : goal.loop-n-init
loop-n-init g c =
    let machine = c.args.m.now in
    let meaning = g.M.Machine.meaning in
    record {
      same = refl;
      found = found_none (known_in c.args.layouts.now) c.args.changes.now c.args.directory.now.tables c.args.pages.now (meaning machine) (state_of c.in_ok-places.places) c.in_ok-places.ensures;
      looks = looks_itself (meaning machine) (g.met.M.Machine.moments_told machine) (λ tells image out since. g.met.M.Machine.only_now machine image out tells since);
      faults = refl;
      beneath = g.met.M.Machine.beneath_itself machine;
    }

pub loop-n-preserved : goal.loop-n-preserved
loop-n-preserved g c =
    let meaning = g.M.Machine.meaning in
    let before = c.loop-n.invariant in
    let known = known_in c.args.layouts.now in
    let n = c.loop-n.n in
    let tables = c.args.directory.now.tables in
    let within : n < c.args.pages.now = subst (λ k. n < k) c.count-count.ensures.count c.loop-n-test.true in
    elim c.if-names.branch [
      | then-names+in_ok-look_at w ↦
          record {
            same = rw w.pages-is (w.look_at.ensures.same ∙ before.same);
            found = rw (w.m-is, w.places-is) (found_page known c.args.changes.now c.requires.suited n c.args.pages.now c.loop-n.auto.n within tables
                (meaning c.loop-n.m) (meaning w.look_at.new.m) (state_of c.loop-n.places) (state_of w.look_at.new.places) before.found w.look_at.ensures.looks
                (ap (state_of c.loop-n.places).named (sym c.table-table.ensures) ∙ sym c.names.ensures ∙ w.if-names.true)
                (λ tells layout is. subst (λ t. IsLooked known t n (bytes_at ((meaning c.loop-n.m).content areas.Pages) (4096 * n) 4096) (state_of c.loop-n.places) (state_of w.look_at.new.places)) c.table-table.ensures
                (w.in_ok-look_at.ensures.looked tells layout (ap (layout_of known) c.table-table.ensures ∙ is)))
                w.in_ok-look_at.ensures.asked);
            looks = rw w.m-is (looks_then before.looks w.look_at.ensures.looks);
            faults = rw w.m-is (w.in_ok-look_at.ensures.cause ∙ before.faults);
            beneath = rw w.m-is (g.met.M.Machine.beneath_both _ _ _ before.beneath w.look_at.ensures.beneath);
          }
      | else-names w ↦
          record {
            same = rw w.pages-is before.same;
            found = rw (w.m-is, w.places-is) (found_past known c.args.changes.now c.requires.suited n c.args.pages.now c.loop-n.auto.n within tables (meaning c.loop-n.m) (state_of c.loop-n.places) before.found
                (ap (state_of c.loop-n.places).named (sym c.table-table.ensures) ∙ sym c.names.ensures ∙ w.if-names.false));
            looks = rw w.m-is before.looks;
            faults = rw w.m-is before.faults;
            beneath = rw w.m-is before.beneath;
          }
    ]

pub returns-clause-found : goal.returns-clause-found
returns-clause-found g c =
    let meaning = g.M.Machine.meaning in
    let end = c.loop-n.auto.n-end c.count-count.ensures.some in
    let all : c.loop-n.n ≡ c.args.pages.now = (let test = c.loop-n-test.false in let count = c.count-count.ensures.count in omega arith) in
    subst (λ (n : ℕ). IsFound (known_in c.args.layouts.now) c.args.changes.now n c.args.directory.now.tables c.args.pages.now (meaning c.loop-n.m) (state_of c.loop-n.places)) all c.loop-n.invariant.found
