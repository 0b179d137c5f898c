use Rattle.std.proofs.Common.{◌≡◌, ◌-◌, ◌≤◌, List}
use Rattle.mt_journal.specs.Layout.{Range}
use Rattle.mt_journal.specs.Steps.{IsQuiet}
use Rattle.mt_journal.specs.Walk.{ToldRanges}
use Rattle.mt_journal.proofs.Walks.{PartPlaced}
use Rattle.mt_journal.proofs.recovery.replay_ranges.Given as goal

abbrev pub invariant-loop-place : goal.invariant-loop-place
invariant-loop-place g l = record {
  high : l.place ≤ l.end;
  quiet : IsQuiet (g.M.Machine.meaning l.fn.m) (g.M.Machine.meaning l.m);
  faults : (g.M.Machine.meaning l.m).disk_faults ≡ (g.M.Machine.meaning l.fn.m).disk_faults;
  beneath : g.M.Machine.beneath l.fn.m l.m;
  part : (ranges : List Range) → ToldRanges (g.M.Machine.meaning l.fn.m) l.at ranges l.end → PartPlaced ranges l.place l.end (g.M.Machine.meaning l.fn.m) (g.M.Machine.meaning l.m);
}

abbrev pub decreases-loop-place : goal.decreases-loop-place
decreases-loop-place g l = l.end - l.place
