-- The parts of the rules of a catalogue, each of which one test decides.
use Rattle.std.specs.Prelude.{◌≡◌, ℕ, ◌<◌, ◌≤◌, ◌^◌, List, ◌++◌, length, map, All, slice_get, sum_by, Some}
use Rattle.std.specs.FinMap as finite
use Rattle.mt_tree.specs.declared.schema.Column.{Column}
use Rattle.mt_tree.specs.declared.schema.Table.{Table}
use Rattle.mt_fold.specs.Placements.{IsValidPlacement}
use Rattle.mt_catalog.specs.declared.state.Extension.{Extension}
use Rattle.mt_catalog.specs.declared.state.TenantEntry.{TenantEntry}
use Rattle.mt_catalog.specs.declared.state.TenantTable.{TenantTable}
use Rattle.mt_catalog.specs.State.{State, base_columns}
use Rattle.mt_catalog.specs.Rules.{AreApart, IsBase, IsExtension, MovesMade, column_names, quota_total}

-- the base table of an extension is there, and has columns of other names
abbrev pub IsBeside : List Table → Extension → Type 0
IsBeside bases extension = (extension.base < length bases) × AreApart (column_names (base_columns (slice_get bases extension.base)) ++ column_names extension.columns)

-- the base tables are few, keep the rules, and have names of their own
abbrev pub AreBases : List Table → Type 0
AreBases bases = (length bases ≤ 16) × All IsBase bases × AreApart (map (λ table. table.name) bases)

-- the extensions are few, keep the rules, and have names of their own
abbrev pub AreExtensions : State → Type 0
AreExtensions state = (length state.extensions ≤ 64) × All (IsExtension state) state.extensions × AreApart (map (λ extension. extension.name) state.extensions)

-- the columns of a tenant's table are few, and have names of their own
abbrev pub AreFewApart : List Column → Type 0
AreFewApart columns = (length columns ≤ 32) × AreApart (column_names columns)

-- an extension of that base table is there
abbrev pub Extends : List Extension → ℕ → ℕ → Type 0
Extends extensions base number = (extension : Extension) × (slice_get extensions number ≡ Some extension) × (extension.base ≡ base)

-- so many rows are made, and those that move are
abbrev pub AreMade : TenantTable → Type 0
AreMade table = (table.made ≤ 2 ^ 63) × MovesMade table.made table.placement

-- the rows and the extensions of a tenant's table keep the rules
abbrev pub IsOfBase : List Extension → ℕ → TenantTable → Type 0
IsOfBase extensions base table = AreMade table × All (Extends extensions base) table.extended

-- a tenant's table with these columns, of which so many are the base table's, keeps the rules
abbrev pub AreKept : List Extension → ℕ → ℕ → TenantTable → List Column → Type 0
AreKept extensions base base_len table columns = IsOfBase extensions base table × AreFewApart columns × IsValidPlacement table.placement columns base_len

-- a number and a quota that a tenant may have
abbrev pub AreWithin : ℕ → ℕ → Type 0
AreWithin number quota = (1 ≤ number) × (1 ≤ quota) × (quota ≤ 65536)

-- the quotas together are small enough
abbrev pub QuotasFit : List TenantEntry → Type 0
QuotasFit entries = sum_by (λ entry. entry.quota) entries ≤ 1048576

-- the tenants are few, and their quotas together are small enough
abbrev pub AreFewTenants : State → Type 0
AreFewTenants state = (finite.len state.tenants ≤ 1000) × (quota_total state ≤ 1048576)

-- base tables, extensions and quotas keep the rules
abbrev pub KeepsMostRules : State → Type 0
KeepsMostRules state = AreBases state.bases × AreExtensions state × AreFewTenants state
