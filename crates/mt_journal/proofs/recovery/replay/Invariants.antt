use Rattle.std.proofs.Common.{◌≡◌, ◌-◌, ◌<◌, ◌^◌, List}
use Rattle.mt_journal.specs.Layout.{Range}
use Rattle.mt_journal.specs.Steps.{IsQuiet}
use Rattle.mt_journal.specs.Walk.{ToldChain}
use Rattle.mt_journal.proofs.Walks.{PartReplayed}
use Rattle.mt_journal.proofs.recovery.replay.Given as goal

abbrev pub invariant-loop-at : goal.invariant-loop-at
invariant-loop-at g l = record {
  within : l.at < 2 ^ 42;
  quiet : IsQuiet (g.M.Machine.meaning l.fn.m) (g.M.Machine.meaning l.m);
  faults : (g.M.Machine.meaning l.m).disk_faults ≡ (g.M.Machine.meaning l.fn.m).disk_faults;
  beneath : g.M.Machine.beneath l.fn.m l.m;
  part : (groups : List (List Range)) → ToldChain (g.M.Machine.meaning l.fn.m) groups l.end → PartReplayed groups l.at l.end (g.M.Machine.meaning l.fn.m) (g.M.Machine.meaning l.m);
}

abbrev pub decreases-loop-at : goal.decreases-loop-at
decreases-loop-at g l = 2 ^ 42 - l.at
