-- The rules of a catalogue, beside those that its slots keep by what they are.
use Rattle.std.specs.Prelude.{◌≡◌, ℕ, ◌<◌, ◌≤◌, ◌^◌, IsTrue, false, List, ◌++◌, length, map, All, slice_get, sum_by, Some}
use Rattle.std.specs.FinMap as finite
use Rattle.std.specs.List.{IsDistinct}
use Rattle.std.specs.Str.{bytes_eq}
use Rattle.mt_lexer.specs.Reserved.{IsNameText}
use Rattle.mt_tree.specs.declared.schema.Column.{Column}
use Rattle.mt_tree.specs.declared.schema.Kind.{Kind}
use Rattle.mt_tree.specs.declared.schema.Kind.TheVariants.{Integer, Varchar}
use Rattle.mt_tree.specs.declared.schema.Table.{Table}
use Rattle.mt_fold.specs.declared.fold.Placement.{Placement}
use Rattle.mt_fold.specs.declared.fold.Placement.TheVariants.{Settled, Moving}
use Rattle.mt_fold.specs.Placements.{IsValidPlacement}
use Rattle.mt_catalog.specs.declared.state.Extension.{Extension}
use Rattle.mt_catalog.specs.declared.state.TenantEntry.{TenantEntry}
use Rattle.mt_catalog.specs.declared.state.TenantTable.{TenantTable}
use Rattle.mt_catalog.specs.State.{State, base_columns, extended_columns}

-- no name stands twice among these
abbrev pub AreApart : List (List ℕ) → Type 0
AreApart names = IsDistinct bytes_eq names

-- the names of columns
abbrev pub column_names : List Column → List (List ℕ)
column_names columns = map (λ column. column.name) columns

-- a kind with a size that there is
abbrev pub IsKind : Kind → Type 0
IsKind Integer = Unit {0}
IsKind (Varchar size) = (1 ≤ size) × (size ≤ 120)

-- A column: its name is one, its size is there, and one of the key is not NULL.
pub record IsColumn (column : Column) : Type 0 where
  pub name : IsNameText column.name
  pub kind : IsKind column.kind
  pub key : IsTrue column.key → IsTrue column.not_null

-- The columns of a base table or of an extension.
pub record AreColumns (columns : List Column) : Type 0 where
  pub some : 1 ≤ length columns
  pub few : length columns ≤ 16
  pub each : All IsColumn columns
  pub apart : AreApart (column_names columns)

-- A base table.
pub record IsBase (table : Table) : Type 0 where
  pub name : IsNameText table.name
  pub columns : AreColumns table.columns

-- A column of an extension is neither of the key nor NOT NULL.
pub record IsPlain (column : Column) : Type 0 where
  pub not_null : column.not_null ≡ false
  pub key : column.key ≡ false

-- An extension of a base table that is there, whose columns have other names than the base table's.
pub record IsExtension (state : State) (extension : Extension) : Type 0 where
  pub name : IsNameText extension.name
  pub base : extension.base < length state.bases
  pub columns : AreColumns extension.columns
  pub plain : All IsPlain extension.columns
  pub apart : AreApart (column_names (base_columns (slice_get state.bases extension.base)) ++ column_names extension.columns)

-- the rows that move were made
abbrev pub MovesMade : ℕ → Placement → Type 0
MovesMade made (Settled generation fold) = Unit {0}
MovesMade made (Moving generation before after frontier upto) = upto ≤ made

-- A tenant's table of a base table, with its columns and the first so many of them that are the base
-- table's.
pub record IsTenantTable (state : State) (base : ℕ) (table : TenantTable) : Type 0 where
  pub made : table.made ≤ 2 ^ 63
  pub extended : All (λ number. (extension : Extension) × (slice_get state.extensions number ≡ Some extension) × (extension.base ≡ base)) table.extended
  pub few : length (extended_columns state base table.extended) ≤ 32
  pub apart : AreApart (column_names (extended_columns state base table.extended))
  pub placement : IsValidPlacement table.placement (extended_columns state base table.extended) (length (base_columns (slice_get state.bases base)))
  pub moves : MovesMade table.made table.placement

-- A tenant, who has a table of each base table.
pub record IsTenant (state : State) (number : ℕ) (entry : TenantEntry) : Type 0 where
  pub number_from : 1 ≤ number
  pub number_upto : number < 2 ^ 32
  pub quota_from : 1 ≤ entry.quota
  pub quota_upto : entry.quota ≤ 65536
  pub each_base : length entry.tables ≡ length state.bases
  pub tables : (base : ℕ) (table : TenantTable) → slice_get entry.tables base ≡ Some table → IsTenantTable state base table

-- the quotas of all tenants together
unfoldable pub quota_total : State → ℕ
quota_total state = sum_by (λ entry. entry.quota) (finite.values state.tenants)

-- A catalogue that keeps all rules.
pub record IsCatalogue (state : State) : Type 0 where
  pub few_bases : length state.bases ≤ 16
  pub few_extensions : length state.extensions ≤ 64
  pub few_tenants : finite.len state.tenants ≤ 1000
  pub bases : All IsBase state.bases
  pub base_names : AreApart (map (λ table. table.name) state.bases)
  pub extensions : All (IsExtension state) state.extensions
  pub extension_names : AreApart (map (λ extension. extension.name) state.extensions)
  pub tenants : (number : ℕ) (entry : TenantEntry) → finite.get state.tenants number ≡ Some entry → IsTenant state number entry
  pub quotas : quota_total state ≤ 1048576
