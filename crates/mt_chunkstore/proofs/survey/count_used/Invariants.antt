use Rattle.std.proofs.Common.{◌≡◌, ◌*◌, ◌≤◌, IsTrue, Some}
use Rattle.mt_machine.specs.Leaves.{Looks}
use Rattle.mt_machine.specs.declared.machine.Area.TheVariants as areas
use Rattle.mt_tables.specs.Rows.{KnownLayouts, layout_of, sizes_of}
use Rattle.mt_staging.specs.Group.{used_in}
use Rattle.mt_chunkstore.proofs.survey.count_used.Given as goal

-- the slots in use of the pages below n were counted
abbrev pub invariant-loop-n : goal.invariant-loop-n
invariant-loop-n g l =
    let meaning = g.M.Machine.meaning in
    record {
      same : l.pages ≡ l.fn.pages;
      looks : Looks (meaning l.fn.m) (meaning l.m);
      faults : (meaning l.m).disk_faults ≡ (meaning l.fn.m).disk_faults;
      beneath : g.M.Machine.beneath l.fn.m l.m;
      counted : IsTrue (meaning l.m).tells → (known : KnownLayouts) → layout_of known l.fn.table ≡ Some l.fn.layout → l.used ≡ used_in (sizes_of known) l.fn.table l.n ((meaning l.m).content areas.Pages);
      few : l.used ≤ 4096 * l.n;
    }
