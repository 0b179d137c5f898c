-- Which table each page belongs to.
use Rattle.std.specs.Prelude.{ℕ, ◌-◌, nat_le, if◌then◌else◌, List, map}
use Rattle.std.specs.List.{range_with_len}
use Rattle.mt_journal.specs.Layout.{Area}
use Rattle.mt_tables.specs.Pages.{table_at}

-- the table of a page, or 0 for a number that no table has
abbrev pub listed_table : ℕ → ℕ
listed_table table = if nat_le table 31 then table else 0

-- the table of each page behind page 0, of so many pages
abbrev pub directory_of : ℕ → Area → List ℕ
directory_of count area = map (λ page. listed_table (table_at area page)) (range_with_len 1 (count - 1))

-- a directory: the table of each page behind page 0, and how many more it takes without memory
pub record DirectoryState : Type 0 where
  pub tables : List ℕ
  pub room : ℕ
