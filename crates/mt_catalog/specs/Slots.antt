-- The slots that a catalogue has, one for each key that it knows.
use Rattle.std.specs.Prelude.{◌≡◌, ℕ, ◌-◌, nat_eq, if◌then◌else◌, List, slice_get, Option, None, Some, option_map}
use Rattle.std.specs.FinMap as finite
use Rattle.mt_tree.specs.declared.schema.Column.{Column}
use Rattle.mt_fold.specs.declared.fold.Fold.{Fold}
use Rattle.mt_fold.specs.declared.fold.Place.{Place}
use Rattle.mt_fold.specs.declared.fold.Place.TheVariants.{Conv, Field}
use Rattle.mt_fold.specs.declared.fold.Placement.{Placement}
use Rattle.mt_fold.specs.declared.fold.Placement.TheVariants as placements
use Rattle.mt_fold.specs.declared.shape.Shape.{Shape}
use Rattle.mt_catslot.specs.declared.slot.Class.{Class}
use Rattle.mt_catslot.specs.declared.slot.Class.TheVariants as classes
use Rattle.mt_catslot.specs.declared.slot.Motion.{Motion}
use Rattle.mt_catslot.specs.declared.slot.Motion.TheVariants as motions
use Rattle.mt_catslot.specs.declared.slot.CatSlot.{CatSlot}
use Rattle.mt_catslot.specs.declared.slot.CatSlot.TheVariants as slots
use Rattle.mt_catslot.specs.declared.slot.CatKey.{CatKey}
use Rattle.mt_catslot.specs.declared.slot.CatKey.TheVariants as keys
use Rattle.mt_catslot.specs.Slots.{key_of}
use Rattle.mt_catalog.specs.declared.state.TenantTable.{TenantTable}
use Rattle.mt_catalog.specs.State.{State, base_columns, extension_columns, tenant_table}

-- the columns of a base table or an extension
abbrev pub class_columns : State → Class → ℕ → List Column
class_columns state classes.BaseTable number = base_columns (slice_get state.bases number)
class_columns state classes.Extension number = extension_columns (slice_get state.extensions number)

-- the slot of a base table, or of an extension
abbrev pub relation_slot : State → Class → ℕ → Option CatSlot
relation_slot state classes.BaseTable number = option_map (λ table. slots.Relation classes.BaseTable number number table.name) (slice_get state.bases number)
relation_slot state classes.Extension number = option_map (λ extension. slots.Relation classes.Extension number extension.base extension.name) (slice_get state.extensions number)

-- how a table lies, its folds apart
abbrev pub motion_of : Placement → Motion
motion_of (placements.Settled generation fold) = motions.Settled generation
motion_of (placements.Moving generation before after frontier upto) = motions.Moving generation frontier upto

-- the fold of a generation, if the table has one
abbrev pub fold_of : Placement → ℕ → Option Fold
fold_of (placements.Settled generation fold) wanted = if nat_eq wanted generation then Some fold else None
fold_of (placements.Moving generation before after frontier upto) wanted =
    if nat_eq wanted generation then Some before else (if nat_eq wanted (1 - generation) then Some after else None)

-- the slot of a column in a field of a chunk of this shape; a chunk that is not there has none
abbrev pub shaped_slot : ℕ → ℕ → ℕ → ℕ → ℕ → ℕ → Option Shape → Option CatSlot
shaped_slot tenant base generation column chunk field shape = option_map (λ shape. slots.Field tenant base generation column shape chunk field) shape

-- the slot of a column at its place; a column in the conventional row has none
abbrev pub placed_slot : ℕ → ℕ → ℕ → ℕ → Fold → Option Place → Option CatSlot
placed_slot tenant base generation column fold None = None
placed_slot tenant base generation column fold (Some Conv) = None
placed_slot tenant base generation column fold (Some (Field chunk field)) = shaped_slot tenant base generation column chunk field (slice_get fold.shapes chunk)

-- the slot of a column of a fold
abbrev pub column_in_fold : ℕ → ℕ → ℕ → ℕ → Option Fold → Option CatSlot
column_in_fold tenant base generation column None = None
column_in_fold tenant base generation column (Some fold) = placed_slot tenant base generation column fold (slice_get fold.places column)

-- the slot of how many rows of a tenant's table were made, and how they lie
abbrev pub placement_slot : ℕ → ℕ → Option TenantTable → Option CatSlot
placement_slot tenant base table = option_map (λ table. slots.Placement tenant base table.made (motion_of table.placement)) table

-- the slot of the extension at a position of a tenant's table, if there is one
abbrev pub extended_slot : ℕ → ℕ → ℕ → Option TenantTable → Option CatSlot
extended_slot tenant base position None = None
extended_slot tenant base position (Some table) = option_map (λ extension. slots.Extended tenant base position extension) (slice_get table.extended position)

-- the slot of a column of a tenant's table in the fold of a generation, if it lies in a field there
abbrev pub field_slot : ℕ → ℕ → ℕ → ℕ → Option TenantTable → Option CatSlot
field_slot tenant base generation column None = None
field_slot tenant base generation column (Some table) = column_in_fold tenant base generation column (fold_of table.placement generation)

-- The slot that a catalogue has with a key. It reads like the format of the slots: numbers and
-- positions run from 0 without a gap, a base table names itself, each tenant has one placement for
-- each table, the chunk of a column has one shape, and a fold stands for each generation that the
-- placement calls for.
abbrev pub slot_of : State → CatKey → Option CatSlot
slot_of state (keys.Relation class number) = relation_slot state class number
slot_of state (keys.Column class number position) =
    option_map (λ column. slots.Column class number position column.kind column.not_null column.key column.name) (slice_get (class_columns state class number) position)
slot_of state (keys.Tenant tenant) = option_map (λ entry. slots.Tenant tenant entry.quota) (finite.get state.tenants tenant)
slot_of state (keys.Placement tenant base) = placement_slot tenant base (tenant_table state tenant base)
slot_of state (keys.Extended tenant base position) = extended_slot tenant base position (tenant_table state tenant base)
slot_of state (keys.Field tenant base generation column) = field_slot tenant base generation column (tenant_table state tenant base)

-- the catalogue has this slot
abbrev pub HasSlot : State → CatSlot → Type 0
HasSlot state slot = slot_of state (key_of slot) ≡ Some slot
