-- The schema steps, and the catalogue after each.
use Rattle.std.specs.Prelude.{◌≡◌, ℕ, ◌≤◌, ◌||◌, Bool, false, List, [], ◌∷◌, ◌++◌, length, map, position, replicate, count_by, All, slice_get, slice_set, Option, Some, None, unwrap_or}
use Rattle.std.specs.List.{list_any}
use Rattle.std.specs.Str.{bytes_eq}
use Rattle.std.specs.Ordering.{nat_cmp}
use Rattle.std.specs.FinMap as finite
use Rattle.mt_codec.specs.declared.field.FieldKind.TheVariants.{Int, Text}
use Rattle.mt_lexer.specs.Reserved.{IsNameText}
use Rattle.mt_tree.specs.declared.command.AdminCmd.{AdminCmd}
use Rattle.mt_tree.specs.declared.command.AdminCmd.TheVariants.{CreateTable, CreateExtension, CreateTenant, Extend, SetQuota}
use Rattle.mt_tree.specs.declared.command.Def.{Def}
use Rattle.mt_tree.specs.declared.command.DefKind.{DefKind}
use Rattle.mt_tree.specs.declared.command.DefKind.TheVariants as def
use Rattle.mt_tree.specs.declared.schema.Column.{Column}
use Rattle.mt_tree.specs.declared.schema.Kind.{Kind}
use Rattle.mt_tree.specs.declared.schema.Kind.TheVariants.{Integer, Varchar}
use Rattle.mt_tree.specs.declared.schema.Table.{Table}
use Rattle.mt_fold.specs.declared.fold.Place.TheVariants.{Conv}
use Rattle.mt_fold.specs.declared.fold.Placement.{Placement}
use Rattle.mt_fold.specs.declared.fold.Placement.TheVariants.{Settled, Moving}
use Rattle.mt_fold.specs.declared.shape.Shape.{Shape}
use Rattle.mt_fold.specs.Covers.{cover_of}
use Rattle.mt_fold.specs.Extended.{extended_fold, kinds_of}
use Rattle.mt_fold.specs.Shapes.{same_sort}
use Rattle.mt_catalog.specs.declared.state.Extension.{Extension}
use Rattle.mt_catalog.specs.declared.state.TenantEntry.{TenantEntry}
use Rattle.mt_catalog.specs.declared.state.TenantTable.{TenantTable}
use Rattle.mt_catalog.specs.State.{State}

-- Whether a command is a schema step.
abbrev pub IsSchemaStep : AdminCmd → Type 0
IsSchemaStep (CreateTable name columns key) = Unit {0}
IsSchemaStep (CreateExtension name base columns) = Unit {0}
IsSchemaStep (CreateTenant tenant quota) = Unit {0}
IsSchemaStep (Extend tenant extension) = Unit {0}
IsSchemaStep (SetQuota tenant quota) = Unit {0}
IsSchemaStep command = ⊥

-- A schema step as a text gives it that is read: what it makes has a name, and columns with names, and
-- no column of an extension is NOT NULL.
abbrev pub IsWellFormed : AdminCmd → Type 0
IsWellFormed (CreateTable name columns key) = IsNameText name × (1 ≤ length columns) × All (λ def. IsNameText def.name) columns
IsWellFormed (CreateExtension name base columns) = IsNameText name × (1 ≤ length columns) × All (λ def. IsNameText def.name × (def.not_null ≡ false)) columns
IsWellFormed command = IsSchemaStep command

-- whether a name is one of these
abbrev pub has_name : List (List ℕ) → List ℕ → Bool
has_name names name = list_any (bytes_eq name) names

-- the number of the table of that name: its place in the order in which the tables were made
abbrev pub table_number : List Table → List ℕ → Option ℕ
table_number tables name = position (λ table. bytes_eq table.name name) tables

-- the number of the extension of that name
abbrev pub extension_number : List Extension → List ℕ → Option ℕ
extension_number extensions name = position (λ extension. bytes_eq extension.name name) extensions

-- the shapes of the cheapest chunks that hold these columns
abbrev pub cover_for : List Column → List Shape
cover_for columns = cover_of (count_by (same_sort Int) (kinds_of columns)) (count_by (same_sort (Text 120)) (kinds_of columns))

-- the kind of a column, as the command says it
abbrev pub kind_of : DefKind → Kind
kind_of def.Integer = Integer
kind_of (def.Varchar size) = Varchar size

-- a column as it is defined; one of the key is NOT NULL too
abbrev pub column_of : List (List ℕ) → Def → Column
column_of key def = record { name = def.name; kind = kind_of def.kind; not_null = def.not_null || has_name key def.name; key = has_name key def.name }

-- the table that a command defines
abbrev pub defined_table : List ℕ → List Def → List (List ℕ) → Table
defined_table name columns key = record { name = name; columns = map (column_of key) columns }

-- the extension that a command defines
abbrev pub defined_extension : List Table → List ℕ → List ℕ → List Def → Extension
defined_extension tables name base columns = record { name = name; base = unwrap_or (table_number tables base) 0; columns = map (column_of []) columns }

-- all columns of a table lie in the conventional row
abbrev pub new_placement : Table → Placement
new_placement table = Settled 0 (record { shapes = []; places = replicate (length table.columns) Conv })

-- a table in which no row was ever made
abbrev pub new_table : Table → TenantTable
new_table table = record { made = 0; extended = []; placement = new_placement table }

-- the same change at each tenant
unfoldable pub in_each : {A B : Type 0} → (A → B) → finite.FinMap nat_cmp A → finite.FinMap nat_cmp B
in_each change tenants = finite.from_entries (map (λ entry. (entry.0, change entry.1)) (finite.entries tenants))

-- a tenant with one table more
abbrev pub with_new_table : Table → TenantEntry → TenantEntry
with_new_table table entry = record { quota = entry.quota; tables = entry.tables ++ new_table table ∷ [] }

-- how a table lies that has chunks for further columns
abbrev pub extended_placement : List Column → Placement → Placement
extended_placement added (Settled generation fold) = Settled generation (extended_fold fold (kinds_of added) (cover_for added))
extended_placement added (Moving generation before after frontier upto) = Moving generation before after frontier upto

-- a table with an extension more
abbrev pub with_extension : ℕ → List Column → TenantTable → TenantTable
with_extension number added table = record { made = table.made; extended = table.extended ++ number ∷ []; placement = extended_placement added table.placement }

-- a tenant whose table of that number is changed
abbrev pub with_table : ℕ → (TenantTable → TenantTable) → TenantEntry → TenantEntry
with_table base change entry =
    elim (slice_get entry.tables base) [ None ↦ entry | Some table ↦ record { quota = entry.quota; tables = slice_set entry.tables base (change table) } ]

-- the catalogue in which a tenant that is there is changed
abbrev pub with_tenant : State → ℕ → (TenantEntry → TenantEntry) → State
with_tenant state tenant change =
    elim (finite.get state.tenants tenant) [
      | None ↦ state
      | Some entry ↦ record { bases = state.bases; extensions = state.extensions; tenants = finite.insert state.tenants tenant (change entry) }
    ]

-- the catalogue after EXTEND by the extension of that number
abbrev pub extended_state : State → ℕ → Option ℕ → State
extended_state state tenant None = state
extended_state state tenant (Some number) =
    elim (slice_get state.extensions number) [
      | None ↦ state
      | Some extension ↦ with_tenant state tenant (with_table extension.base (with_extension number extension.columns))
    ]

-- The catalogue after a schema step that is not refused. A new base table is one of each tenant, with
-- all its columns in the conventional row; EXTEND appends the cheapest chunks for the extension's
-- columns. Every other command leaves it.
abbrev pub stepped : State → AdminCmd → State
stepped state (CreateTable name columns key) =
    let table : Table = defined_table name columns key in
    record { bases = state.bases ++ table ∷ []; extensions = state.extensions; tenants = in_each (with_new_table table) state.tenants }
stepped state (CreateExtension name base columns) =
    record { bases = state.bases; extensions = state.extensions ++ defined_extension state.bases name base columns ∷ []; tenants = state.tenants }
stepped state (CreateTenant tenant quota) =
    record { bases = state.bases; extensions = state.extensions; tenants = finite.insert state.tenants tenant (record { quota = quota; tables = map new_table state.bases }) }
stepped state (Extend tenant extension) = extended_state state tenant (extension_number state.extensions extension)
stepped state (SetQuota tenant quota) = with_tenant state tenant (λ entry. record { quota = quota; tables = entry.tables })
stepped state command = state
