-- What a read of the pages' area gives.
use Rattle.std.proofs.Common.{◌≡◌, ℕ, ◌+◌, ◌*◌, ◌≤◌, Result, Ok, Err, List, length, refl, sym, ap, subst, ◌∙◌, IsTrue, OnOk}
use Rattle.mt_machine.specs.Meaning.{Disk, Meaning}
use Rattle.mt_machine.specs.Calls.{Reads, Stand}
use Rattle.mt_machine.specs.declared.machine.Area.TheVariants.{Pages}
use Rattle.mt_journal.specs.Layout.{Area, StandAt}
use Rattle.mt_pages.specs.Control.{IsPageZero}
use Rattle.mt_pages.specs.Standing.{Counts}
use Rattle.mt_tables.specs.Pages.{bytes_at, page_count}
use Rattle.mt_tables.proofs.Bytes.{standing}

module _ {T E : Type 0} (result : Result T E) (at : ℕ) (buf : List ℕ) (old new : Meaning) (read : Reads result Pages at buf old new) where
  -- the buffer is the bytes of the area
  pub page_read : (n : ℕ) → length buf ≡ n → OnOk result (IsTrue new.tells → buf ≡ bytes_at (old.content Pages) at n)
  page_read n size = by result read.bytes where
    by : (r : Result T E) → OnOk r (IsTrue new.tells → Stand old.content Pages at buf) → OnOk r (IsTrue new.tells → buf ≡ bytes_at (old.content Pages) at n)
    by (Ok x) stand = λ tells. sym (standing (old.content Pages) buf at (stand tells)) ∙ ap (bytes_at (old.content Pages) at) size
    by (Err e) stand = tt
