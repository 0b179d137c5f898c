-- Page by page.
use Rattle.std.proofs.Common.{refl, ◌∙◌}
use Rattle.mt_machine.specs.LeavesLaws.{looks_itself, looks_then}
use Rattle.mt_directory.specs.Known.{known_in}
use Rattle.mt_chunkstore.proofs.Surveying.{surveyed_more, surveyed_none}
use Rattle.mt_chunkstore.proofs.survey.Survey.load.Goals as goal

pub loop-n-init : goal.loop-n-init
loop-n-init g c =
    let m = c.args.m.now in
    let law = g.met.M.Machine in
    record {
      same = refl;
      looks = looks_itself (g.M.Machine.meaning m) (law.moments_told m) (λ tells image out since. law.only_now m image out tells since);
      faults = refl;
      beneath = law.beneath_itself m;
      found = surveyed_none (known_in c.args.layouts.now) c.new.result.tables _ (g.M.Machine.meaning m) c.new.ensures refl;
    }

pub loop-n-preserved : goal.loop-n-preserved
loop-n-preserved g c =
    let meaning = g.M.Machine.meaning in
    let before = c.loop-n.invariant in
    record {
      same = c.read.ensures.same ∙ before.same;
      looks = looks_then before.looks c.read.ensures.looks;
      faults = c.in_ok-read.ensures.cause.none ∙ before.faults;
      beneath = g.met.M.Machine.beneath_both _ _ _ before.beneath c.read.ensures.beneath;
      found = surveyed_more (known_in c.args.layouts.now) c.loop-n.n c.loop-n.survey.directory.tables c.loop-n.survey.used _ _ c.read.new.into (meaning c.loop-n.m) (meaning c.read.new.m)
          c.loop-n.auto.n before.found c.read.ensures.looks c.in_ok-read.ensures.bytes c.in_ok-add.ensures.tables c.in_ok-add.ensures.used;
    }
