-- How a store stands for a machine.
use Rattle.std.specs.Prelude.{◌≡◌, ℕ, ◌+◌, ◌-◌, ◌^◌, ◌<◌, min, ◌&&◌, Bool, IsTrue, nat_eq, nat_le, is_some, List, length, map, filter, count_by, slice_index}
use Rattle.std.specs.List.{range_with_len}
use Rattle.mt_machine.specs.declared.machine.Area.TheVariants.{Pages}
use Rattle.mt_machine.specs.Meaning.{Meaning}
use Rattle.mt_journal.specs.Commits.{StandsFor}
use Rattle.mt_tables.specs.Rows.{AreKnown, layout_of, sizes_of}
use Rattle.mt_pages.specs.Standing.{Counts}
use Rattle.mt_directory.specs.Directory.{directory_of}
use Rattle.mt_directory.specs.Known.{known_in}
use Rattle.mt_staging.specs.Group.{used_in}
use Rattle.mt_chunkstore.specs.declared.sizes.TableSize.{TableSize}
use Rattle.mt_chunkstore.specs.declared.store.Store.{Store}

-- The store stands for the machine: its journal does, its pages are counted as page 0 says, its
-- directory has the table of each page, and its counts are those of the slots in use.
pub record Stands (store : Store) (machine : Meaning) : Type 0 where
  pub journal : StandsFor store.journal machine
  pub pages : Counts store.pages machine
  pub sized : length store.directory.tables ≡ store.pages - 1
  pub known : AreKnown (known_in store.layouts)
  pub directory : IsTrue machine.tells → store.directory.tables ≡ directory_of store.pages (machine.content Pages)
  pub used : IsTrue machine.tells → (table : ℕ) → table < 32 → slice_index store.used table ≡ used_in (sizes_of (known_in store.layouts)) table store.pages (machine.content Pages)

-- a store is as it was but for its counts of scans
pub record SameStore (old new : Store) : Type 0 where
  pub journal : new.journal ≡ old.journal
  pub pages : new.pages ≡ old.pages
  pub layouts : new.layouts ≡ old.layouts
  pub directory : new.directory ≡ old.directory
  pub used : new.used ≡ old.used

-- whether a table has a page, and a layout that is known
abbrev pub has_size : Store → ℕ → Bool
has_size store table = is_some (layout_of (known_in store.layouts) table) && nat_le 1 (count_by (λ t. nat_eq t table) store.directory.tables)

-- a table, its pages and its slots in use
abbrev pub size_in : Store → ℕ → TableSize
size_in store table = record { table = table; pages = count_by (λ t. nat_eq t table) store.directory.tables; used = slice_index store.used table }

-- those of the tables that have a page and a layout that is known, ascending
abbrev pub sizes_in : Store → List TableSize
sizes_in store = map (size_in store) (filter (has_size store) (range_with_len 1 31))

-- how many slots of a table are in use once a group took and freed so many, in a count of 64 bits
abbrev pub used_after : ℕ → ℕ → ℕ → ℕ
used_after used taken freed = min (used + taken) (2 ^ 64 - 1) - freed
