-- What is looked at in all pages together: the catalogue that their slots say, and the rules of rows.
use Rattle.std.specs.Prelude.{◌≡◌, ℕ, ◌-◌, ◌^◌, ◌≤◌, nat_eq, nat_le, if◌then◌else◌, true, List, length, map, filter_map, count_by, sum_by, slice_get, IsSome, Some}
use Rattle.std.specs.List.{range_with_len}
use Rattle.std.specs.FinMap as finite
use Rattle.mt_journal.specs.Layout.{Area}
use Rattle.mt_physplan.specs.declared.key.Key.{Key}
use Rattle.mt_physplan.specs.Content.{Content}
use Rattle.mt_physplan.specs.Keys.{key_cmp}
use Rattle.mt_tables.specs.Pages.{page_count, table_at}
use Rattle.mt_tables.specs.Rows.{body_in, row_in, rows_of, sizes_of}
use Rattle.mt_tables.specs.Tables.{slots_below}
use Rattle.mt_tables.specs.Unique.{AreUnique}
use Rattle.mt_catalog.specs.declared.state.TenantEntry.{TenantEntry}
use Rattle.mt_catalog.specs.declared.state.TenantTable.{TenantTable}
use Rattle.mt_catalog.specs.Reading.{SayCatalogue}
use Rattle.mt_catalog.specs.Rules.{IsCatalogue}
use Rattle.mt_catalog.specs.State.{State, base_columns, extended_columns, tenant_table}
use Rattle.mt_rows.specs.Assembled.{Kept}
use Rattle.mt_rows.specs.Rules.{KeepsRules}
use Rattle.mt_rows.specs.Series.{anchors_of, slots_of}
use Rattle.mt_image.specs.Layouts.{known_of, none_known}

-- the slots in use of the catalogue in page order, each its table and the body behind its mark
abbrev pub bodies_of : Area → List (ℕ × List ℕ)
bodies_of pages = map (λ found. found.0) (filter_map body_in (slots_below (sizes_of none_known) (page_count pages) pages))

-- how many pages of a table there are
abbrev pub pages_of : ℕ → Area → ℕ
pages_of table pages = count_by (λ page. nat_eq (table_at pages page) table) (range_with_len 1 (page_count pages - 1))

-- The pages' slots are those of a catalogue that keeps its rules, and no table has more than 2^23 pages.
pub record IsCatalogueOf (pages : Area) (state : State) : Type 0 where
  pub rules : IsCatalogue state
  pub said : SayCatalogue (bodies_of pages) state
  pub few : (table : ℕ) → pages_of table pages ≤ 2 ^ 23

-- the base table whose row, or part of one, has this key
abbrev pub base_of : Key → ℕ
base_of key = if nat_le 16 key.table then key.table - 16 else key.base

-- a tenant's table, and how its rows lie
abbrev pub kept_of : ℕ → ℕ → TenantTable → Kept
kept_of tenant base table = record { tenant = tenant; base = base; placement = table.placement }

-- how many rows are kept of a tenant in so many tables, those in the trashcan too
abbrev pub kept_rows : Content → ℕ → ℕ → ℕ
kept_rows content tenant bases = sum_by (λ base. length (slots_of content (anchors_of tenant base))) (range_with_len 0 bases)

-- The rows that the pages hold, by the layouts of a catalogue.
abbrev pub content_of : State → Area → Content
content_of state pages = rows_of (known_of state) pages

-- The rules of rows, of what the slots in use say by their keys. Each is of a table that a tenant has;
-- the slots of each table keep its rules; and no tenant has more rows than the quota.
pub record AreRowsOf (state : State) (content : Content) : Type 0 where
  pub owned : (key : Key) → finite.contains_key content key ≡ true → IsSome (tenant_table state key.tenant (base_of key))
  pub tables : (tenant base : ℕ) (table : TenantTable) → tenant_table state tenant base ≡ Some table
      → KeepsRules content (kept_of tenant base table) (extended_columns state base table.extended) (length (base_columns (slice_get state.bases base))) table.made
  pub quotas : (tenant : ℕ) (entry : TenantEntry) → finite.get state.tenants tenant ≡ Some entry → kept_rows content tenant (length state.bases) ≤ entry.quota

-- The slots of the pages keep the rules of rows, and no two in use of one table have one key.
pub record KeepRowRules (state : State) (pages : Area) : Type 0 where
  pub once : AreUnique key_cmp (row_in (known_of state)) (slots_below (sizes_of (known_of state)) (page_count pages) pages)
  pub rows : AreRowsOf state (content_of state pages)
