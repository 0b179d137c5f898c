-- When a schema step is refused, in the administrator's order.
use Rattle.std.specs.Prelude.{ℕ, ◌+◌, ◌-◌, Bool, true, false, not, ◌||◌, ◌&&◌, nat_le, nat_lt, if◌then◌else◌, List, [], ◌∷◌, ◌++◌, length, map, slice_get, Option, Some, None, is_some, unwrap_or}
use Rattle.std.specs.List.{list_all}
use Rattle.std.specs.FinMap as finite
use Rattle.mt_tree.specs.declared.code.Code.{Code}
use Rattle.mt_tree.specs.declared.code.Code.TheVariants.{ColumnNameTaken, Limit, NameExists, QuotaBelowRows, QuotasTooLarge, TableIsMoving, TooManyChunks, UnknownName}
use Rattle.mt_tree.specs.declared.command.AdminCmd.{AdminCmd}
use Rattle.mt_tree.specs.declared.command.AdminCmd.TheVariants.{CreateTable, CreateExtension, CreateTenant, Extend, SetQuota}
use Rattle.mt_tree.specs.declared.command.Def.{Def}
use Rattle.mt_tree.specs.declared.command.DefKind.{DefKind}
use Rattle.mt_tree.specs.declared.command.DefKind.TheVariants as def
use Rattle.mt_tree.specs.declared.schema.Column.{Column}
use Rattle.mt_fold.specs.declared.fold.Placement.{Placement}
use Rattle.mt_fold.specs.declared.fold.Placement.TheVariants.{Settled, Moving}
use Rattle.mt_catalog.specs.declared.state.Extension.{Extension}
use Rattle.mt_catalog.specs.declared.state.TenantEntry.{TenantEntry}
use Rattle.mt_catalog.specs.declared.state.TenantTable.{TenantTable}
use Rattle.mt_catalog.specs.Rules.{column_names, quota_total}
use Rattle.mt_catalog.specs.State.{State, base_columns, extended_columns, tenant_table}
use Rattle.mt_schema.specs.Steps.{cover_for, extension_number, has_name, table_number}

-- the first code whose test holds
abbrev pub first_holding : List (Code × Bool) → Option Code
first_holding [] = None
first_holding ((code, holds) ∷ tests) = if holds then Some code else first_holding tests

-- from the first number to the second, both included
abbrev pub is_within : ℕ → ℕ → ℕ → Bool
is_within from upto n = nat_le from n && nat_le n upto

-- whether a name stands twice among these
abbrev pub has_repeat : List (List ℕ) → Bool
has_repeat [] = false
has_repeat (name ∷ names) = has_name names name || has_repeat names

-- the names that are defined
abbrev pub def_names : List Def → List (List ℕ)
def_names defs = map (λ def. def.name) defs

-- whether a kind is one that there is: a VARCHAR has from 1 to 120 bytes
abbrev pub is_size_within : DefKind → Bool
is_size_within def.Integer = true
is_size_within (def.Varchar size) = is_within 1 120 size

-- whether there are too many columns, or one of a size that there is not
abbrev pub are_outside : List Def → Bool
are_outside defs = nat_lt 16 (length defs) || not (list_all (λ def. is_size_within def.kind) defs)

-- The tests of a new base table: its key is of its columns, its name is free, no name stands twice, and
-- there are at most 16 base tables, of at most 16 columns each.
abbrev pub table_tests : State → List ℕ → List Def → List (List ℕ) → List (Code × Bool)
table_tests state name defs key =
    (UnknownName, not (list_all (has_name (def_names defs)) key))
    ∷ (NameExists, is_some (table_number state.bases name))
    ∷ (ColumnNameTaken, has_repeat (def_names defs) || has_repeat key)
    ∷ (Limit, nat_lt 15 (length state.bases) || are_outside defs) ∷ []

-- The tests of a new extension: its base table is there, its name is free, no name stands twice or is
-- one of the base table's, and there are at most 64 extensions, of at most 16 columns each.
abbrev pub extension_tests : State → List ℕ → List ℕ → List Def → List (Code × Bool)
extension_tests state name base defs =
    (UnknownName, not (is_some (table_number state.bases base)))
    ∷ (NameExists, is_some (extension_number state.extensions name))
    ∷ (ColumnNameTaken, has_repeat (column_names (base_columns (slice_get state.bases (unwrap_or (table_number state.bases base) 0))) ++ def_names defs))
    ∷ (Limit, nat_lt 63 (length state.extensions) || are_outside defs) ∷ []

-- The tests of a new tenant: at most 1,000 tenants, of numbers below 2^32, with quotas up to 65,536 and
-- 1,048,576 together.
abbrev pub tenant_tests : State → ℕ → ℕ → List (Code × Bool)
tenant_tests state tenant quota =
    (NameExists, finite.contains_key state.tenants tenant)
    ∷ (Limit, nat_lt 999 (finite.len state.tenants) || not (is_within 1 4294967295 tenant) || not (is_within 1 65536 quota))
    ∷ (QuotasTooLarge, nat_lt 1048576 (quota_total state + quota)) ∷ []

-- whether a table moves
abbrev pub is_moving : Placement → Bool
is_moving (Settled generation fold) = false
is_moving (Moving generation before after frontier upto) = true

-- how many chunks the fold of a table has
abbrev pub chunks_in : Placement → ℕ
chunks_in (Settled generation fold) = length fold.shapes
chunks_in (Moving generation before after frontier upto) = length after.shapes

-- The tests of an extension of a tenant's table: none of its columns has a name of the table's, and
-- these are at most 32 with it; the table does not move, and its fold has at most 16 chunks then.
abbrev pub extended_tests : State → ℕ → List Column → TenantTable → List (Code × Bool)
extended_tests state base added table =
    let columns : List Column = extended_columns state base table.extended in
    (ColumnNameTaken, has_repeat (column_names columns ++ column_names added))
    ∷ (Limit, nat_lt 32 (length columns + length added))
    ∷ (TableIsMoving, is_moving table.placement)
    ∷ (TooManyChunks, nat_lt 16 (chunks_in table.placement + length (cover_for added))) ∷ []

-- the tests of EXTEND, where tenant and extension are there
abbrev pub extend_tests : State → ℕ → Option Extension → List (Code × Bool)
extend_tests state tenant None = (UnknownName, true) ∷ []
extend_tests state tenant (Some extension) =
    elim (tenant_table state tenant extension.base) [
      | None ↦ (UnknownName, true) ∷ []
      | Some table ↦ extended_tests state extension.base extension.columns table
    ]

-- the quota of a tenant
abbrev pub quota_of : Option TenantEntry → ℕ
quota_of None = 0
quota_of (Some entry) = entry.quota

-- The tests of SET QUOTA, where so many rows are kept of the tenant: the quota is not below these, and
-- with those of the other tenants it is at most 1,048,576.
abbrev pub quota_tests : State → ℕ → ℕ → ℕ → List (Code × Bool)
quota_tests state kept tenant quota =
    (UnknownName, not (finite.contains_key state.tenants tenant))
    ∷ (Limit, not (is_within 1 65536 quota))
    ∷ (QuotaBelowRows, nat_lt quota kept)
    ∷ (QuotasTooLarge, nat_lt 1048576 (quota_total state - quota_of (finite.get state.tenants tenant) + quota)) ∷ []

-- the extension of that name
abbrev pub extension_named : State → List ℕ → Option Extension
extension_named state name = elim (extension_number state.extensions name) [ None ↦ None | Some number ↦ slice_get state.extensions number ]

-- The tests of a schema step in the order in which they are asked, where so many rows are kept of each
-- tenant. No other command has any.
abbrev pub step_tests : State → (ℕ → ℕ) → AdminCmd → List (Code × Bool)
step_tests state kept (CreateTable name columns key) = table_tests state name columns key
step_tests state kept (CreateExtension name base columns) = extension_tests state name base columns
step_tests state kept (CreateTenant tenant quota) = tenant_tests state tenant quota
step_tests state kept (Extend tenant extension) = extend_tests state tenant (extension_named state extension)
step_tests state kept (SetQuota tenant quota) = quota_tests state (kept tenant) tenant quota
step_tests state kept command = []

-- the first refusal of a schema step, or none
abbrev pub step_refusal : State → (ℕ → ℕ) → AdminCmd → Option Code
step_refusal state kept command = first_holding (step_tests state kept command)
