use Rattle.std.proofs.Common.{◌≡◌}
use Rattle.mt_machine.specs.Leaves.{Looks}
use Rattle.mt_directory.specs.Known.{known_in}
use Rattle.mt_chunkstore.specs.Found.{Surveyed}
use Rattle.mt_chunkstore.proofs.survey.Survey.load.Given as goal

-- the pages below n were read
abbrev pub invariant-loop-n : goal.invariant-loop-n
invariant-loop-n g l =
    let meaning = g.M.Machine.meaning in
    record {
      same : l.pages ≡ l.fn.pages;
      looks : Looks (meaning l.fn.m) (meaning l.m);
      faults : (meaning l.m).disk_faults ≡ (meaning l.fn.m).disk_faults;
      beneath : g.M.Machine.beneath l.fn.m l.m;
      found : Surveyed (known_in l.fn.layouts) l.n l.survey.directory.tables l.survey.used (meaning l.m);
    }
