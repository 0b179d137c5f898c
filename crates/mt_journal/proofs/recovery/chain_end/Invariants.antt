use Rattle.std.proofs.Common.{◌≡◌, ◌-◌, ◌<◌, ◌^◌, IsTrue, List}
use Rattle.mt_machine.specs.declared.machine.Area.TheVariants.{Log}
use Rattle.mt_machine.specs.Leaves.{Looks}
use Rattle.mt_journal.specs.Layout.{Range}
use Rattle.mt_journal.specs.Chain.{StandGroups}
use Rattle.mt_journal.proofs.recovery.chain_end.Given as goal

abbrev pub invariant-loop-group : goal.invariant-loop-group
invariant-loop-group g l = record {
  within : l.at < 2 ^ 42;
  looks : Looks (g.M.Machine.meaning l.fn.m) (g.M.Machine.meaning l.m);
  faults : (g.M.Machine.meaning l.m).disk_faults ≡ (g.M.Machine.meaning l.fn.m).disk_faults;
  beneath : g.M.Machine.beneath l.fn.m l.m;
  read : IsTrue (g.M.Machine.meaning l.m).tells → (groups : List (List Range)) × StandGroups ((g.M.Machine.meaning l.fn.m).content Log) 0 groups l.at;
}

abbrev pub decreases-loop-group : goal.decreases-loop-group
decreases-loop-group g l = 2 ^ 42 - l.at
