use Rattle.std.proofs.Common.{◌≡◌, ◌≤◌, IsTrue}
use Rattle.mt_machine.specs.declared.machine.Area.TheVariants.{Log}
use Rattle.mt_machine.specs.Leaves.{Looks}
use Rattle.mt_journal.specs.Walk.{Fill}
use Rattle.mt_journal.proofs.group.ranges_fill.Given as goal

abbrev pub invariant-loop : goal.invariant-loop
invariant-loop g l = record {
  low : l.at ≤ l.place;
  high : l.place ≤ l.end;
  looks : Looks (g.M.Machine.meaning l.fn.m) (g.M.Machine.meaning l.m);
  faults : (g.M.Machine.meaning l.m).disk_faults ≡ (g.M.Machine.meaning l.fn.m).disk_faults;
  beneath : g.M.Machine.beneath l.fn.m l.m;
  read : IsTrue (g.M.Machine.meaning l.m).tells → Fill ((g.M.Machine.meaning l.fn.m).content Log) l.at l.place l.counter;
}
