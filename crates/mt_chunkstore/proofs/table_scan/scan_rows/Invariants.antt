use Rattle.std.proofs.Common.{◌≡◌, ◌-◌, IsTrue, Some}
use Rattle.std.specs.FinMap as finite
use Rattle.mt_machine.specs.Leaves.{Looks}
use Rattle.mt_machine.specs.declared.machine.Area.TheVariants as areas
use Rattle.mt_tables.specs.Rows.{KnownLayouts, layout_of, sizes_of}
use Rattle.mt_tables.specs.Tables.{slots_below}
use Rattle.mt_directory.specs.Directory.{directory_of}
use Rattle.mt_chunkstore.specs.Asking.{with_asked}
use Rattle.mt_chunkstore.proofs.OnePage.{slots_from}
use Rattle.mt_chunkstore.proofs.table_scan.scan_rows.Given as goal

abbrev pub invariant-loop-n : goal.invariant-loop-n
invariant-loop-n g l =
    let meaning = g.M.Machine.meaning in
    record {
      same : l.pages ≡ l.fn.pages;
      found : IsTrue (meaning l.m).tells → l.directory.tables ≡ directory_of l.fn.pages ((meaning l.fn.m).content areas.Pages)
          → (known : KnownLayouts) → layout_of known l.scan.table ≡ Some l.layout
          → with_asked l.scan known (slots_from known ((meaning l.fn.m).content areas.Pages) l.n (l.count - l.n)) l.found
          ≡ with_asked l.scan known (slots_below (sizes_of known) l.fn.pages ((meaning l.fn.m).content areas.Pages)) finite.empty;
      looks : Looks (meaning l.fn.m) (meaning l.m);
      beneath : g.M.Machine.beneath l.fn.m l.m;
    }
