use Rattle.std.proofs.Common.{◌∙◌}
use Rattle.mt_journal.proofs.Fills.{chain_step}
use Rattle.mt_machine.specs.LeavesLaws.{looks_then}
use Rattle.mt_journal.proofs.recovery.chain_end.Goals as goal

pub loop-group-preserved : goal.loop-group-preserved
loop-group-preserved g c =
    let found = rw c.in-Some.is at c.in_ok-group.ensures.found in
    let bounds = rw c.in-Some.is at c.in_ok-group.ensures.bounds in
    record {
      within = bounds.2;
      looks = looks_then c.loop-group.invariant.looks c.next_group.ensures.looks;
      faults = c.in_ok-group.ensures.cause ∙ c.loop-group.invariant.faults;
      beneath = g.met.M.Machine.beneath_both _ _ _ c.loop-group.invariant.beneath c.next_group.ensures.beneath;
      read = chain_step _ _ _ c.loop-group.invariant.looks c.next_group.ensures.looks c.loop-group.at c.in-Some.group c.loop-group.invariant.read found;
    }
