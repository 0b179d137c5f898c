use Rattle.std.proofs.Common.{◌≡◌, ◌-◌, ◌≤◌, IsTrue}
use Rattle.mt_machine.specs.declared.machine.Area.TheVariants.{Pages}
use Rattle.mt_journal.specs.Steps.{Changes, IsCopied}
use Rattle.mt_journal.proofs.recovery.copy.Given as goal

abbrev pub invariant-loop-done : goal.invariant-loop-done
invariant-loop-done g l = record {
  within : l.done ≤ l.count;
  changes : Changes Pages l.to l.count (g.M.Machine.meaning l.fn.m) (g.M.Machine.meaning l.m);
  faults : (g.M.Machine.meaning l.m).disk_faults ≡ (g.M.Machine.meaning l.fn.m).disk_faults;
  beneath : g.M.Machine.beneath l.fn.m l.m;
  copied : IsTrue (g.M.Machine.meaning l.m).tells → IsCopied l.from l.to l.done (g.M.Machine.meaning l.fn.m).content (g.M.Machine.meaning l.m).content;
}

abbrev pub decreases-loop-done : goal.decreases-loop-done
decreases-loop-done g l = l.count - l.done
