use Rattle.std.proofs.Common.{◌≡◌, take}
use Rattle.mt_journal.specs.Steps.{IsQuiet, Places, ArePlaced}
use Rattle.mt_journal.proofs.writing.place.Given as goal

abbrev pub invariant-loop-i : goal.invariant-loop-i
invariant-loop-i g l = record {
  quiet : IsQuiet (g.M.Machine.meaning l.fn.m) (g.M.Machine.meaning l.m);
  faults : (g.M.Machine.meaning l.m).disk_faults ≡ (g.M.Machine.meaning l.fn.m).disk_faults;
  beneath : g.M.Machine.beneath l.fn.m l.m;
  places : Places (take l.i l.body) (g.M.Machine.meaning l.fn.m) (g.M.Machine.meaning l.m);
  placed : ArePlaced (take l.i l.body) (g.M.Machine.meaning l.fn.m) (g.M.Machine.meaning l.m);
}
