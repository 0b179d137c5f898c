-- What slots say that were found by their keys, and the catalogue that is made of them.
use Rattle.std.specs.Prelude.{◌≡◌, ℕ, ◌-◌, ◌==◌, if◌then◌else◌, List, [], ◌∷◌, ◌++◌, flat_map, length, map, slice_get, Option, None, Some}
use Rattle.std.specs.FinMap as finite
use Rattle.mt_tree.specs.declared.schema.Column.{Column}
use Rattle.mt_tree.specs.declared.schema.Table.{Table}
use Rattle.mt_fold.specs.declared.fold.Fold.{Fold}
use Rattle.mt_fold.specs.declared.fold.Place.{Place}
use Rattle.mt_fold.specs.declared.fold.Place.TheVariants.{Conv, Field}
use Rattle.mt_fold.specs.declared.fold.Placement.{Placement}
use Rattle.mt_fold.specs.declared.fold.Placement.TheVariants.{Settled, Moving}
use Rattle.mt_fold.specs.declared.shape.Shape.{Shape}
use Rattle.mt_catslot.specs.declared.slot.Class.{Class}
use Rattle.mt_catslot.specs.declared.slot.Class.TheVariants as classes
use Rattle.mt_catslot.specs.declared.slot.Motion.{Motion}
use Rattle.mt_catslot.specs.declared.slot.CatSlot.{CatSlot}
use Rattle.mt_catslot.specs.declared.slot.CatSlot.TheVariants as slots
use Rattle.mt_catslot.specs.declared.slot.CatKey.{CatKey}
use Rattle.mt_catslot.specs.declared.slot.CatKey.TheVariants as keys
use Rattle.mt_catalog.specs.declared.state.Extension.{Extension}
use Rattle.mt_catalog.specs.declared.state.TenantEntry.{TenantEntry}
use Rattle.mt_catalog.specs.declared.state.TenantTable.{TenantTable}
use Rattle.mt_catalog.specs.State.{State, base_columns, extension_columns}
use Rattle.mt_catalog.specs.Slots.{motion_of, slot_of}
use Rattle.mt_catalog.specs.Rules.{IsCatalogue}

-- Members that stand at the numbers from 0 on, where each is known and none stands behind them.
pub record IsRun {A : Type 0} (Stands : ℕ → A → Type 0) (Ends : ℕ → Type 0) (members : List A) : Type 0 where
  pub each : (number : ℕ) (member : A) → slice_get members number ≡ Some member → Stands number member
  pub ending : Ends (length members)

-- the members that are given at the numbers from 0 on, up to the first at which none is
abbrev pub IsRunOf : {A : Type 0} → (ℕ → Option A) → List A → Type 0
IsRunOf at members = IsRun (λ number member. at number ≡ Some member) (λ number. at number ≡ None) members

-- the number of the base table, and the name
abbrev pub relation_found : Option CatSlot → Option (ℕ × List ℕ)
relation_found (Some (slots.Relation class number base name)) = Some (base, name)
relation_found slot = None

-- the column, as its slot says it
abbrev pub column_found : Option CatSlot → Option Column
column_found (Some (slots.Column class number position kind not_null key name)) = Some (record { name = name; kind = kind; not_null = not_null; key = key })
column_found slot = None

-- the quota
abbrev pub tenant_found : Option CatSlot → Option ℕ
tenant_found (Some (slots.Tenant tenant quota)) = Some quota
tenant_found slot = None

-- how many rows were made, and how they lie
abbrev pub placement_found : Option CatSlot → Option (ℕ × Motion)
placement_found (Some (slots.Placement tenant base made motion)) = Some (made, motion)
placement_found slot = None

-- the number of the extension
abbrev pub extended_found : Option CatSlot → Option ℕ
extended_found (Some (slots.Extended tenant base position extension)) = Some extension
extended_found slot = None

-- the shape of the chunk, its number, and the field
abbrev pub field_found : Option CatSlot → Option (Shape × ℕ × ℕ)
field_found (Some (slots.Field tenant base generation column shape chunk field)) = Some (shape, chunk, field)
field_found slot = None

-- the place of a column; one with no field lies in the conventional row
abbrev pub place_found : Option (Shape × ℕ × ℕ) → Place
place_found None = Conv
place_found (Some field) = Field field.1 field.2

-- the shape of a chunk, by the first of some fields that lies in it
abbrev pub shape_found : List (Option (Shape × ℕ × ℕ)) → ℕ → Option Shape
shape_found [] chunk = None
shape_found (None ∷ fields) chunk = shape_found fields chunk
shape_found (Some field ∷ fields) chunk = if field.1 == chunk then Some field.0 else shape_found fields chunk

-- the slot that is found by a key, if there is one
abbrev pub Found : Type 0
Found = CatKey → Option CatSlot

-- the columns of a base table or an extension
abbrev pub AreFoundColumns : Found → Class → ℕ → List Column → Type 0
AreFoundColumns found class number columns = IsRunOf (λ position. column_found (found (keys.Column class number position))) columns

-- A base table of that number.
pub record IsFoundBase (found : Found) (number : ℕ) (table : Table) : Type 0 where
  pub base : ℕ
  pub named : relation_found (found (keys.Relation classes.BaseTable number)) ≡ Some (base, table.name)
  pub columns : AreFoundColumns found classes.BaseTable number table.columns

-- An extension of that number.
pub record IsFoundExtension (found : Found) (number : ℕ) (extension : Extension) : Type 0 where
  pub named : relation_found (found (keys.Relation classes.Extension number)) ≡ Some (extension.base, extension.name)
  pub columns : AreFoundColumns found classes.Extension number extension.columns

-- the base tables at the numbers from 0 on, up to the first at which none is found
abbrev pub AreFoundBases : Found → List Table → Type 0
AreFoundBases found bases = IsRun (IsFoundBase found) (λ number. relation_found (found (keys.Relation classes.BaseTable number)) ≡ None) bases

-- the extensions at the numbers from 0 on, up to the first at which none is found
abbrev pub AreFoundExtensions : Found → List Extension → Type 0
AreFoundExtensions found extensions = IsRun (IsFoundExtension found) (λ number. relation_found (found (keys.Relation classes.Extension number)) ≡ None) extensions

-- the fields of so many columns of a fold; a column in the conventional row has none
pub record AreFoundFields (found : Found) (tenant base generation columns : ℕ) (fields : List (Option (Shape × ℕ × ℕ))) : Type 0 where
  pub size : length fields ≡ columns
  pub each : (column : ℕ) (field : Option (Shape × ℕ × ℕ)) → slice_get fields column ≡ Some field → field_found (found (keys.Field tenant base generation column)) ≡ field

-- A fold of so many columns.
pub record IsFoundFold (found : Found) (tenant base generation columns : ℕ) (fold : Fold) : Type 0 where
  pub fields : List (Option (Shape × ℕ × ℕ))
  pub fields_are : AreFoundFields found tenant base generation columns fields
  pub places_are : fold.places ≡ map place_found fields
  pub shapes_are : IsRunOf (shape_found fields) fold.shapes

-- how the rows of a table of so many columns lie
abbrev pub AreFoundFolds : Found → ℕ → ℕ → ℕ → Placement → Type 0
AreFoundFolds found tenant base columns (Settled generation fold) = IsFoundFold found tenant base generation columns fold
AreFoundFolds found tenant base columns (Moving generation before after frontier upto) =
    IsFoundFold found tenant base generation columns before × IsFoundFold found tenant base (1 - generation) columns after

-- the columns of a tenant's table of a base table, among these base tables and extensions
abbrev pub columns_among : List Table → List Extension → ℕ → List ℕ → List Column
columns_among bases extensions base numbers = base_columns (slice_get bases base) ++ flat_map (λ extension. extension_columns (slice_get extensions extension)) numbers

-- the extensions of a tenant's table
abbrev pub AreFoundNumbers : Found → ℕ → ℕ → List ℕ → Type 0
AreFoundNumbers found tenant base extended = IsRunOf (λ position. extended_found (found (keys.Extended tenant base position))) extended

-- A tenant's table of a base table, among these base tables and extensions.
pub record IsFoundTable (found : Found) (bases : List Table) (extensions : List Extension) (tenant base : ℕ) (table : TenantTable) : Type 0 where
  pub placed : placement_found (found (keys.Placement tenant base)) ≡ Some (table.made, motion_of table.placement)
  pub extended_are : AreFoundNumbers found tenant base table.extended
  pub folds : AreFoundFolds found tenant base (length (columns_among bases extensions base table.extended)) table.placement

-- A tenant.
pub record IsFoundEntry (found : Found) (bases : List Table) (extensions : List Extension) (tenant : ℕ) (entry : TenantEntry) : Type 0 where
  pub quota_is : tenant_found (found (keys.Tenant tenant)) ≡ Some entry.quota
  pub each_base : length entry.tables ≡ length bases
  pub tables_are : (base : ℕ) (table : TenantTable) → slice_get entry.tables base ≡ Some table → IsFoundTable found bases extensions tenant base table

-- a tenant, if there is one of that number
abbrev pub IsFoundTenant : Found → List Table → List Extension → ℕ → Option TenantEntry → Type 0
IsFoundTenant found bases extensions tenant None = tenant_found (found (keys.Tenant tenant)) ≡ None
IsFoundTenant found bases extensions tenant (Some entry) = IsFoundEntry found bases extensions tenant entry

-- The catalogue that is made of what is found.
pub record IsFound (found : Found) (state : State) : Type 0 where
  pub bases_are : AreFoundBases found state.bases
  pub extensions_are : AreFoundExtensions found state.extensions
  pub tenants_are : (tenant : ℕ) → IsFoundTenant found state.bases state.extensions tenant (finite.get state.tenants tenant)

-- What is found is what a catalogue has that keeps the rules.
pub record IsOf (found : Found) (state : State) : Type 0 where
  pub rules : IsCatalogue state
  pub same : (key : CatKey) → found key ≡ slot_of state key

-- there is no such catalogue
abbrev pub IsOfNone : Found → Type 0
IsOfNone found = (state : State) → IsOf found state → ⊥
