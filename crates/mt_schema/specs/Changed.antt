-- The slots in which the catalogue after a schema step differs from the one before.
use Rattle.std.specs.Prelude.{◌≡◌, ℕ, ◌==◌, nat_eq, if◌then◌else◌, List, [], ◌∷◌, ◌++◌, length, map, Option, None, Some}
use Rattle.std.specs.List.{IsDistinct, list_any, range_with_len}
use Rattle.std.specs.FinMap as finite
use Rattle.mt_tree.specs.declared.command.AdminCmd.{AdminCmd}
use Rattle.mt_tree.specs.declared.command.AdminCmd.TheVariants.{CreateTable, CreateExtension, CreateTenant, Extend, SetQuota}
use Rattle.mt_fold.specs.declared.fold.Placement.{Placement}
use Rattle.mt_fold.specs.declared.fold.Placement.TheVariants.{Settled, Moving}
use Rattle.mt_catslot.specs.declared.slot.Class.{Class}
use Rattle.mt_catslot.specs.declared.slot.Class.TheVariants as classes
use Rattle.mt_catslot.specs.declared.slot.CatKey.{CatKey}
use Rattle.mt_catslot.specs.declared.slot.CatKey.TheVariants as keys
use Rattle.mt_catalog.specs.declared.state.Extension.{Extension}
use Rattle.mt_catalog.specs.declared.state.TenantTable.{TenantTable}
use Rattle.mt_catalog.specs.State.{State, extended_columns, tenant_table}
use Rattle.mt_schema.specs.Refusals.{extension_named, quota_of}

-- The numbers of all tenants, each once, in any order.
pub record AreTenants (numbers : List ℕ) (state : State) : Type 0 where
  pub all : (tenant : ℕ) → list_any (nat_eq tenant) numbers ≡ finite.contains_key state.tenants tenant
  pub once : IsDistinct nat_eq numbers

-- the keys of so many columns of a base table or an extension
abbrev pub column_keys : Class → ℕ → ℕ → List CatKey
column_keys class number count = map (λ position. keys.Column class number position) (range_with_len 0 count)

-- the generation of the fold of a table that is settled
abbrev pub generation_of : Placement → ℕ
generation_of (Settled generation fold) = generation
generation_of (Moving generation before after frontier upto) = generation

-- the keys that a tenant's table gets with so many columns of an extension
abbrev pub table_keys : State → ℕ → ℕ → ℕ → Option TenantTable → List CatKey
table_keys state tenant base count None = []
table_keys state tenant base count (Some table) =
    keys.Extended tenant base (length table.extended)
    ∷ map (λ column. keys.Field tenant base (generation_of table.placement) column) (range_with_len (length (extended_columns state base table.extended)) count)

-- and with that extension
abbrev pub extended_keys : State → ℕ → Option Extension → List CatKey
extended_keys state tenant None = []
extended_keys state tenant (Some extension) = table_keys state tenant extension.base (length extension.columns) (tenant_table state tenant extension.base)

-- The keys of the slots that a schema step puts or removes. A new base table has a slot, one for each
-- column, and one for each tenant; SET QUOTA to the same quota changes none.
abbrev pub changed_keys : State → List ℕ → AdminCmd → List CatKey
changed_keys state tenants (CreateTable name columns key) =
    keys.Relation classes.BaseTable (length state.bases)
    ∷ (column_keys classes.BaseTable (length state.bases) (length columns) ++ map (λ tenant. keys.Placement tenant (length state.bases)) tenants)
changed_keys state tenants (CreateExtension name base columns) =
    keys.Relation classes.Extension (length state.extensions) ∷ column_keys classes.Extension (length state.extensions) (length columns)
changed_keys state tenants (CreateTenant tenant quota) =
    keys.Tenant tenant ∷ map (λ base. keys.Placement tenant base) (range_with_len 0 (length state.bases))
changed_keys state tenants (Extend tenant extension) = extended_keys state tenant (extension_named state extension)
changed_keys state tenants (SetQuota tenant quota) = if quota_of (finite.get state.tenants tenant) == quota then [] else keys.Tenant tenant ∷ []
changed_keys state tenants command = []
