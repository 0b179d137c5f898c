-- The groups of ranges that change what the slots of the pages hold.
use Rattle.std.specs.Prelude.{◌≡◌, ℕ, ◌<◌, ◌≤◌, ◌+◌, ◌*◌, List, [], ◌∷◌, Option, None, Some}
use Rattle.std.specs.declared.cmp.Ordering.{Ordering}
use Rattle.std.specs.FinMap as finite
use Rattle.mt_journal.specs.Layout.{Area, Range}
use Rattle.mt_journal.specs.Replay.{with_ranges}
use Rattle.mt_tables.specs.Pages.{SlotSizes, table_at}
use Rattle.mt_tables.specs.Tables.{TableSlot, tables_below, tables_of}

-- the tables with this value at a key, or with none
abbrev pub with_value : {K V : Type 0} {R : K → K → Ordering} → K → Option V → finite.FinMap R V → finite.FinMap R V
with_value key None tables = finite.remove tables key
with_value key (Some v) tables = finite.insert tables key v

-- the tables after changes, each a key and the value that it has from then on
abbrev pub with_values : {K V : Type 0} {R : K → K → Ordering} → List (K × Option V) → finite.FinMap R V → finite.FinMap R V
with_values [] tables = tables
with_values (change ∷ changes) tables = with_values changes (with_value change.0 change.1 tables)

-- The ranges, written in order, make these changes, where so many pages then count. The number is not
-- read from the pages: a group that makes pages counts them with its last range.
abbrev pub Makes : {K V : Type 0} → SlotSizes → (TableSlot → Option (K × V)) → (R : K → K → Ordering) → List (K × Option V) → List Range → ℕ → Area → Type 0
Makes sizes read R changes ranges count pages = tables_below {R = R} sizes count read (with_ranges ranges pages) ≡ with_values changes (tables_of sizes read pages)

-- A page of a table was put behind so many pages, with all its slots free.
pub record IsNewPage (count table : ℕ) (old new : Area) : Type 0 where
  pub some : 1 ≤ count
  pub head : table_at new count ≡ table
  pub free : (k : ℕ) → 4096 * count + 8 ≤ k → k < 4096 * count + 4096 → new k ≡ 0
  pub rest : (k : ℕ) → 4096 ≤ k → k < 4096 * count → new k ≡ old k
