use Rattle.std.proofs.Common.{refl, ◌∙◌, arith}
use Rattle.std.proofs.lemmas.Result.{err_from_is_err_and}
use Rattle.mt_journal.proofs.Faults.{err_same}
use Rattle.mt_machine.specs.LeavesLaws.{looks_itself}
use Rattle.mt_journal.proofs.Placing.{quiet_leaves, quiet_join}
use Rattle.mt_journal.proofs.Walks.{replayed_none, replayed_places, replayed_placed, replay_stops, replay_goes_on, replay_refused}
use Rattle.mt_journal.proofs.recovery.replay.Goals as goal

pub loop-at-init : goal.loop-at-init
loop-at-init g c =
    let looks = looks_itself (g.M.Machine.meaning c.args.m.now) (g.met.M.Machine.moments_told c.args.m.now) (λ t image out. g.met.M.Machine.only_now c.args.m.now image out t) in
    record {
      within = omega arith;
      quiet = quiet_leaves _ _ _ looks.leaves;
      faults = refl;
      beneath = g.met.M.Machine.beneath_itself c.args.m.now;
      part = λ groups told. replayed_none groups c.args.end _ looks told;
    }

pub returns-in_err-at-clause-places : goal.returns-in_err-at-clause-places
returns-in_err-at-clause-places g c groups told =
    replay_stops c.loop-at.at c.args.end _ _ _ c.loop-at.invariant.quiet c.replay_group.ensures.quiet c.loop-at-test.true groups
    (c.loop-at.invariant.part groups told) c.replay_group.ensures.places

pub returns-in_err-at-clause-damaged : goal.returns-in_err-at-clause-damaged
returns-in_err-at-clause-damaged g c =
    let p = err_from_is_err_and c.from_residual.result c.from_residual.ensures.1 in
    rw (p.1, p.2) (λ damaged groups told t.
    replay_refused c.loop-at.at c.args.end _ _ _ c.loop-at.invariant.quiet c.replay_group.ensures.quiet c.loop-at-test.true groups
    (c.loop-at.invariant.part groups told) (c.in_err-at.ensures.damaged (err_same _ _ damaged)) t)

pub loop-at-preserved : goal.loop-at-preserved
loop-at-preserved g c = record {
  within = c.in_ok-at.ensures.bounds.1;
  quiet = quiet_join _ _ _ c.loop-at.invariant.quiet c.replay_group.ensures.quiet;
  faults = c.in_ok-at.ensures.cause ∙ c.loop-at.invariant.faults;
  beneath = g.met.M.Machine.beneath_both _ _ _ c.loop-at.invariant.beneath c.replay_group.ensures.beneath;
  part = λ groups told.
      replay_goes_on c.loop-at.at c.args.end _ _ _ c.loop-at.invariant.quiet c.replay_group.ensures.quiet c.loop-at-test.true groups c.in_ok-at.at
      (c.loop-at.invariant.part groups told) c.replay_group.ensures.places c.in_ok-at.ensures.placed c.in_ok-at.ensures.next;
}

pub returns-clause-places : goal.returns-clause-places
returns-clause-places g c groups told = replayed_places groups c.loop-at.at c.args.end _ _ (c.loop-at.invariant.part groups told)

pub returns-clause-placed : goal.returns-clause-placed
returns-clause-placed g c groups told = replayed_placed groups c.loop-at.at c.args.end _ _ (c.loop-at.invariant.part groups told) c.loop-at-test.false
