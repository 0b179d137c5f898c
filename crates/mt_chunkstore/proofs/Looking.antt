-- What a scan of a lent store gives, which only looks.
use Rattle.std.proofs.Common.{◌≡◌, IsTrue, List, Result, Ok, Err, slice_index, ap, ◌∙◌, subst}
use Rattle.std.specs.Prelude.{IfOk}
use Rattle.mt_machine.specs.declared.machine.Area.TheVariants.{Pages}
use Rattle.mt_machine.specs.Meaning.{Disk, Meaning}
use Rattle.mt_machine.specs.Leaves.{Looks}
use Rattle.mt_rowfile.specs.declared.slot.SlotRow.{SlotRow}
use Rattle.mt_physplan.specs.declared.scan.Scan.{Scan}
use Rattle.mt_physplan.specs.Content.{scanned}
use Rattle.mt_physplan.specs.Phys.{Scans, scanned_once}
use Rattle.mt_tables.specs.Rows.{ArePages, rows_of}
use Rattle.mt_directory.specs.Known.{known_in}
use Rattle.mt_chunkstore.specs.declared.store.Store.{Store}
use Rattle.mt_chunkstore.specs.Lent.{lent_meaning}
use Rattle.mt_chunkstore.specs.Standing.{SameStore}

-- a scan that looks leaves the rows, and gives those that it asks for
pub scan_looks : {E : Type 0} (result : Result (List SlotRow) E) (scan : Scan) (old_store new_store : Store) (old new : Meaning) → SameStore old_store new_store → Looks old new
    → IfOk result (λ rows. IsTrue new.tells → ArePages (known_in old_store.layouts) (old.content Pages) → rows ≡ scanned (rows_of (known_in old_store.layouts) (old.content Pages)) scan)
    → slice_index new_store.scans.each ≡ scanned_once scan.table (slice_index old_store.scans.each)
    → Scans result scan (lent_meaning old_store old) (lent_meaning new_store new)
scan_looks {E} result scan old_store new_store old new same looks rows counted = record {
  told = λ tells. (looks.leaves.told tells.0, sound tells.0 tells.1);
  content = λ tells.
      ap (λ layouts. rows_of (known_in layouts) (new.content Pages)) same.layouts
      ∙ ap (λ (content : Disk). rows_of (known_in old_store.layouts) (content Pages)) (looks.content tells.0);
  rows = found result rows;
  counted = counted;
  no_lower = looks.leaves.disk_faults;
}
  where
    sound : IsTrue new.tells → ArePages (known_in new_store.layouts) (new.content Pages) → ArePages (known_in old_store.layouts) (old.content Pages)
    sound tells are = subst (λ (content : Disk). ArePages (known_in old_store.layouts) (content Pages)) (looks.content tells) (subst (λ layouts. ArePages (known_in layouts) (new.content Pages)) same.layouts are)

    found : (result : Result (List SlotRow) E) → IfOk result (λ rows. IsTrue new.tells → ArePages (known_in old_store.layouts) (old.content Pages) → rows ≡ scanned (rows_of (known_in old_store.layouts) (old.content Pages)) scan)
        → IfOk result (λ rows. (lent_meaning new_store new).tells → rows ≡ scanned (rows_of (known_in old_store.layouts) (old.content Pages)) scan)
    found (Ok rows) is = λ tells. is tells.0 (sound tells.0 tells.1)
    found (Err e) is = tt
