-- What physical tables stand for, and what a scan does to that.
use Rattle.std.specs.Prelude.{◌≡◌, ℕ, ◌≤◌, nat_eq, nat_le, ◌&&◌, if◌then◌else◌, IfOk, List, Result}
use Rattle.mt_machine.specs.Faults.{one_more}
use Rattle.mt_rowfile.specs.declared.slot.SlotRow.{SlotRow}
use Rattle.mt_physplan.specs.declared.scan.Scan.{Scan}
use Rattle.mt_physplan.specs.Content.{Content, scanned}

-- What physical tables stand for. The content is known only where it is told.
pub record PhysMeaning : Type 1 where
  pub tells : Type 0
  pub content : Content
  -- how often each physical table was scanned
  pub scans : ℕ → ℕ
  pub faults : ℕ

-- the counts where nothing was scanned
abbrev pub no_scans : ℕ → ℕ
no_scans table = 0

-- the counts after one scan of a table; there is none of a table above 31
abbrev pub scanned_once : ℕ → (ℕ → ℕ) → ℕ → ℕ
scanned_once table scans t = if nat_eq t table && nat_le t 31 then one_more (scans t) else scans t

-- A scan gives the slots that it asks for, leaves the content, and counts for its own table alone.
pub record Scans {E : Type 0} (result : Result (List SlotRow) E) (scan : Scan) (old new : PhysMeaning) : Type 0 where
  pub told : new.tells → old.tells
  pub content : new.tells → new.content ≡ old.content
  pub rows : IfOk result (λ rows. new.tells → rows ≡ scanned old.content scan)
  pub counted : new.scans ≡ scanned_once scan.table old.scans
  pub no_lower : old.faults ≤ new.faults
