-- How a count of pages stands for a machine, and what a call that reads them answers.
use Rattle.std.specs.Prelude.{◌≡◌, ℕ, IsTrue, Result, Ok, Err, List}
use Rattle.mt_machine.specs.declared.machine.Area.TheVariants.{Pages}
use Rattle.mt_machine.specs.Meaning.{Meaning, Rose}
use Rattle.mt_pages.specs.declared.pages.PagesFault.{PagesFault}
use Rattle.mt_pages.specs.declared.pages.PagesFault.TheVariants as faults
use Rattle.mt_pages.specs.Control.{IsPageZero}
use Rattle.mt_tables.specs.Pages.{page_count}

-- the pages of the content are so many, as its page 0 says
pub record Counts (count : ℕ) (machine : Meaning) : Type 0 where
  pub page_zero : IsTrue machine.tells → IsPageZero (machine.content Pages)
  pub counted : IsTrue machine.tells → page_count (machine.content Pages) ≡ count

-- the answer `Disk` comes with a fault that was counted, and each other answer with none
abbrev pub LoadCause : {T : Type 0} → Result T PagesFault → ℕ → ℕ → Type 0
LoadCause (Ok pages) before now = now ≡ before
LoadCause (Err faults.Disk) before now = Rose before now
LoadCause (Err faults.Damaged) before now = now ≡ before
