use Rattle.std.proofs.Common.{refl, ◌∙◌}
use Rattle.std.proofs.lemmas.Result.{err_from_is_err_and}
use Rattle.mt_journal.proofs.Faults.{err_same}
use Rattle.mt_machine.specs.LeavesLaws.{looks_itself}
use Rattle.mt_journal.proofs.Placing.{quiet_leaves, quiet_join}
use Rattle.mt_journal.proofs.Walks.{part_none, part_places, part_placed, part_stops, part_more, part_refused}
use Rattle.mt_journal.proofs.recovery.replay_ranges.Goals as goal

pub loop-place-init : goal.loop-place-init
loop-place-init g c =
    let looks = looks_itself (g.M.Machine.meaning c.args.m.now) (g.met.M.Machine.moments_told c.args.m.now) (λ t image out. g.met.M.Machine.only_now c.args.m.now image out t) in
    record {
      high = c.requires.order;
      quiet = quiet_leaves _ _ _ looks.leaves;
      faults = refl;
      beneath = g.met.M.Machine.beneath_itself c.args.m.now;
      part = λ ranges told. part_none ranges c.args.at c.args.end _ looks told;
    }

pub returns-in_err-place-clause-places : goal.returns-in_err-place-clause-places
returns-in_err-place-clause-places g c ranges told =
    part_stops c.loop-place.place c.args.end _ _ _ c.loop-place.invariant.quiet c.replay_range.ensures.quiet c.loop-place-test.true ranges
    (c.loop-place.invariant.part ranges told) c.replay_range.ensures.places

pub returns-in_err-place-clause-damaged : goal.returns-in_err-place-clause-damaged
returns-in_err-place-clause-damaged g c =
    let p = err_from_is_err_and c.from_residual.result c.from_residual.ensures.1 in
    rw (p.1, p.2) (λ damaged ranges told t.
    part_refused c.loop-place.place c.args.end _ _ _ c.loop-place.invariant.quiet c.replay_range.ensures.quiet c.loop-place-test.true ranges
    (c.loop-place.invariant.part ranges told) (c.in_err-place.ensures.damaged (err_same _ _ damaged)) t)

pub loop-place-preserved : goal.loop-place-preserved
loop-place-preserved g c = record {
  high = c.in_ok-place.ensures.bounds.1;
  quiet = quiet_join _ _ _ c.loop-place.invariant.quiet c.replay_range.ensures.quiet;
  faults = c.in_ok-place.ensures.cause ∙ c.loop-place.invariant.faults;
  beneath = g.met.M.Machine.beneath_both _ _ _ c.loop-place.invariant.beneath c.replay_range.ensures.beneath;
  part = λ ranges told.
      part_more c.loop-place.place c.args.end _ _ _ c.loop-place.invariant.quiet c.replay_range.ensures.quiet c.loop-place-test.true ranges c.in_ok-place.place
      (c.loop-place.invariant.part ranges told) c.replay_range.ensures.places c.in_ok-place.ensures.placed c.in_ok-place.ensures.next;
}

pub returns-clause-places : goal.returns-clause-places
returns-clause-places g c ranges told = part_places ranges c.loop-place.place c.args.end _ _ (c.loop-place.invariant.part ranges told)

pub returns-clause-placed : goal.returns-clause-placed
returns-clause-placed g c ranges told = part_placed ranges c.loop-place.place c.args.end _ _ (c.loop-place.invariant.part ranges told) c.loop-place-test.false
