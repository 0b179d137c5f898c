use Rattle.std.proofs.Common.{◌≡◌}
use Rattle.mt_machine.specs.Leaves.{Looks}
use Rattle.mt_directory.specs.Known.{known_in}
use Rattle.mt_places.specs.Held.{state_of}
use Rattle.mt_chunkstore.specs.Walked.{IsFound}
use Rattle.mt_chunkstore.proofs.stage.look_through.Given as goal

-- the pages below n were looked at
abbrev pub invariant-loop-n : goal.invariant-loop-n
invariant-loop-n g l =
    let meaning = g.M.Machine.meaning in
    record {
      same : l.pages ≡ l.fn.pages;
      found : IsFound (known_in l.layouts) l.changes l.n l.directory.tables l.fn.pages (meaning l.m) (state_of l.places);
      looks : Looks (meaning l.fn.m) (meaning l.m);
      faults : (meaning l.m).disk_faults ≡ (meaning l.fn.m).disk_faults;
      beneath : g.M.Machine.beneath l.fn.m l.m;
    }
