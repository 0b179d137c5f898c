use Rattle.std.proofs.Common.{◌≡◌, ℕ, refl, ◌∙◌, arith, subst}
use Rattle.mt_machine.specs.declared.machine.Area.TheVariants.{Log}
use Rattle.mt_journal.specs.Walk.{Fill}
use Rattle.mt_journal.proofs.Fills.{fill_none, fill_answers, fill_step, fill_ends}
use Rattle.mt_machine.specs.LeavesLaws.{looks_itself, looks_then}
use Rattle.mt_journal.proofs.group.ranges_fill.Goals as goal

pub loop-init : goal.loop-init
loop-init g c = record {
  low = omega arith;
  high = c.requires.order;
  looks = looks_itself (g.M.Machine.meaning c.args.m.now) (g.met.M.Machine.moments_told c.args.m.now) (λ t image out. g.met.M.Machine.only_now c.args.m.now image out t);
  beneath = g.met.M.Machine.beneath_itself c.args.m.now;
  faults = refl;
  read = λ t. fill_none ((g.M.Machine.meaning c.args.m.now).content Log) c.args.at;
}

pub returns-in_err-range-clause-looks : goal.returns-in_err-range-clause-looks
returns-in_err-range-clause-looks g c = looks_then c.loop.invariant.looks c.range_within.ensures.looks

pub returns-in_err-range-clause-beneath : goal.returns-in_err-range-clause-beneath
returns-in_err-range-clause-beneath g c = g.met.M.Machine.beneath_both _ _ _ c.loop.invariant.beneath c.range_within.ensures.beneath

pub returns-in-None-clause-found : goal.returns-in-None-clause-found
returns-in-None-clause-found g c =
    let found = rw c.in-None.is at c.in_ok-range.ensures.found in
    fill_ends _ _ _ c.loop.invariant.looks c.range_within.ensures.looks c.args.at c.loop.place c.args.end c.loop.counter c.args.count c.loop.invariant.read c.loop-test.true found

pub returns-in-None-clause-looks : goal.returns-in-None-clause-looks
returns-in-None-clause-looks g c = looks_then c.loop.invariant.looks c.range_within.ensures.looks

pub returns-in-None-clause-beneath : goal.returns-in-None-clause-beneath
returns-in-None-clause-beneath g c = g.met.M.Machine.beneath_both _ _ _ c.loop.invariant.beneath c.range_within.ensures.beneath

pub returns-clause-found : goal.returns-clause-found
returns-clause-found g c =
    let all : c.loop.counter ≡ c.args.count = omega arith in
    fill_answers c.args.at c.args.end c.args.count c.loop.place _ _ (λ t. subst (λ (n : ℕ). Fill ((g.M.Machine.meaning c.args.m.now).content Log) c.args.at c.loop.place n) all (c.loop.invariant.read t))

pub loop-preserved : goal.loop-preserved
loop-preserved g c =
    let found = rw c.in-Some.is at c.in_ok-range.ensures.found in
    let bounds = rw c.in-Some.is at c.in_ok-range.ensures.bounds in
    record {
      low = omega (arith, c.loop.invariant.low, bounds.1);
      high = bounds.2;
      looks = looks_then c.loop.invariant.looks c.range_within.ensures.looks;
      beneath = g.met.M.Machine.beneath_both _ _ _ c.loop.invariant.beneath c.range_within.ensures.beneath;
      faults = c.in_ok-range.ensures.cause.none ∙ c.loop.invariant.faults;
      read = fill_step _ _ _ c.loop.invariant.looks c.range_within.ensures.looks c.args.at c.loop.place c.loop.counter c.in-Some.range c.loop.invariant.read found;
    }
