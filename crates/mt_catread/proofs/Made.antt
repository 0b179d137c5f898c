-- A slot of the catalogue that is made of what is found is found, and none that keeps the rules has more than the limits.
use Rattle.std.proofs.Common.{◌≡◌, ℕ, ◌-◌, Bool, true, false, cond, Option, None, Some, refl, sym, ap, ◌∙◌, subst, eqb-true}
use Rattle.std.specs.Prelude.{nat_eq, option_map, slice_get}
use Rattle.std.specs.FinMap as finite
use Rattle.mt_tree.specs.declared.schema.Column.{Column}
use Rattle.mt_tree.specs.declared.schema.Table.{Table}
use Rattle.mt_fold.specs.declared.fold.Fold.{Fold}
use Rattle.mt_fold.specs.declared.fold.Place.{Place}
use Rattle.mt_fold.specs.declared.fold.Place.TheVariants.{Conv, Field}
use Rattle.mt_fold.specs.declared.fold.Placement.{Placement}
use Rattle.mt_fold.specs.declared.fold.Placement.TheVariants.{Settled, Moving}
use Rattle.mt_fold.specs.declared.shape.Shape.{Shape}
use Rattle.mt_catslot.specs.declared.slot.Class.TheVariants as classes
use Rattle.mt_catslot.specs.declared.slot.CatSlot.{CatSlot}
use Rattle.mt_catslot.specs.declared.slot.CatSlot.TheVariants as slots
use Rattle.mt_catslot.specs.declared.slot.CatKey.{CatKey}
use Rattle.mt_catslot.specs.declared.slot.CatKey.TheVariants as keys
use Rattle.mt_catalog.specs.declared.state.Extension.{Extension}
use Rattle.mt_catalog.specs.declared.state.TenantEntry.{TenantEntry}
use Rattle.mt_catalog.specs.declared.state.TenantTable.{TenantTable}
use Rattle.mt_catalog.specs.State.{State, base_columns, extension_columns, table_in, tenant_table}
use Rattle.mt_catalog.specs.Slots.{column_in_fold, extended_slot, field_slot, fold_of, placed_slot, placement_slot, slot_of}
use Rattle.mt_catalog.specs.Found.{AreFoundFolds, Found, IsFound, IsFoundFold, IsFoundTable, IsFoundTenant, column_found, extended_found, field_found, place_found, placement_found, relation_found, tenant_found}
use Rattle.mt_catalog.proofs.Cut.{from_mapped}

-- a slot is found by this key
abbrev pub IsThere : Found → CatKey → Type 0
IsThere found key = (slot : CatSlot) × (found key ≡ Some slot)

-- what says something is there
is_there : {A : Type 0} (found : Found) (key : CatKey) (f : Option CatSlot → Option A) → f None ≡ None → (x : A) → f (found key) ≡ Some x → IsThere found key
is_there {A} found key f nothing x e = by (found key) refl e
  where
    by : (o : Option CatSlot) → found key ≡ o → f o ≡ Some x → IsThere found key
    by None is g = let no : None ≡ Some x = sym nothing ∙ g in absurd (cc)
    by (Some slot) is g = (slot, is)

-- what is made of a member is made of one that there is
of_some : {A B : Type 0} (f : A → B) (o : Option A) (y : B) → option_map f o ≡ Some y → (x : A) × (o ≡ Some x)
of_some f None y e = absurd (cc)
of_some f (Some x) y e = (x, refl)

module _ (found : Found) (state : State) (is : IsFound found state) where
  base_there : (number : ℕ) (table : Table) → slice_get state.bases number ≡ Some table → IsThere found (keys.Relation classes.BaseTable number)
  base_there number table e = let at = is.bases_are.each number table e in is_there found (keys.Relation classes.BaseTable number) relation_found refl (at.base, table.name) at.named

  extension_there : (number : ℕ) (extension : Extension) → slice_get state.extensions number ≡ Some extension → IsThere found (keys.Relation classes.Extension number)
  extension_there number extension e =
      let at = is.extensions_are.each number extension e in is_there found (keys.Relation classes.Extension number) relation_found refl (extension.base, extension.name) at.named

  base_column : (number position : ℕ) (o : Option Table) (column : Column) → slice_get state.bases number ≡ o → slice_get (base_columns o) position ≡ Some column
      → IsThere found (keys.Column classes.BaseTable number position)
  base_column number position None column e f = absurd (cc)
  base_column number position (Some table) column e f =
      is_there found (keys.Column classes.BaseTable number position) column_found refl column ((is.bases_are.each number table e).columns.each position column f)

  extension_column : (number position : ℕ) (o : Option Extension) (column : Column) → slice_get state.extensions number ≡ o → slice_get (extension_columns o) position ≡ Some column
      → IsThere found (keys.Column classes.Extension number position)
  extension_column number position None column e f = absurd (cc)
  extension_column number position (Some extension) column e f =
      is_there found (keys.Column classes.Extension number position) column_found refl column ((is.extensions_are.each number extension e).columns.each position column f)

  -- the table of a tenant is one that was found
  table_there : (tenant base : ℕ) (o : Option TenantEntry) (table : TenantTable) → finite.get state.tenants tenant ≡ o → table_in base o ≡ Some table
      → IsFoundTable found state.bases state.extensions tenant base table
  table_there tenant base None table e f = absurd (cc)
  table_there tenant base (Some entry) table e f =
      let at : IsFoundTenant found state.bases state.extensions tenant (Some entry) = subst (IsFoundTenant found state.bases state.extensions tenant) e (is.tenants_are tenant) in
      at.tables_are base table f

  found_table : (tenant base : ℕ) (table : TenantTable) → tenant_table state tenant base ≡ Some table → IsFoundTable found state.bases state.extensions tenant base table
  found_table tenant base table e = table_there tenant base (finite.get state.tenants tenant) table refl e

  tenant_there : (tenant : ℕ) (o : Option TenantEntry) (entry : TenantEntry) → finite.get state.tenants tenant ≡ o → o ≡ Some entry → IsThere found (keys.Tenant tenant)
  tenant_there tenant o entry e f =
      let at : IsFoundTenant found state.bases state.extensions tenant (Some entry) = subst (IsFoundTenant found state.bases state.extensions tenant) (e ∙ f) (is.tenants_are tenant) in
      is_there found (keys.Tenant tenant) tenant_found refl entry.quota at.quota_is

  extended_there : (tenant base position : ℕ) (o : Option TenantTable) (slot : CatSlot) → tenant_table state tenant base ≡ o → extended_slot tenant base position o ≡ Some slot
      → IsThere found (keys.Extended tenant base position)
  extended_there tenant base position None slot e f = absurd (cc)
  extended_there tenant base position (Some table) slot e f =
      let number = of_some (λ extension. slots.Extended tenant base position extension) (slice_get table.extended position) slot f in
      is_there found (keys.Extended tenant base position) extended_found refl number.0 ((found_table tenant base table e).extended_are.each position number.0 number.1)

  -- a field in which a column lies
  field_of_place : (o : Option (Shape × ℕ × ℕ)) (chunk field : ℕ) → place_found o ≡ Field chunk field → (x : Shape × ℕ × ℕ) × (o ≡ Some x)
  field_of_place None chunk field e = absurd (cc)
  field_of_place (Some x) chunk field e = (x, refl)

  placed_there : (tenant base generation columns column : ℕ) (fold : Fold) → IsFoundFold found tenant base generation columns fold → (o : Option Place) (slot : CatSlot)
      → slice_get fold.places column ≡ o → placed_slot tenant base generation column fold o ≡ Some slot → IsThere found (keys.Field tenant base generation column)
  placed_there tenant base generation columns column fold of None slot e f = absurd (cc)
  placed_there tenant base generation columns column fold of (Some Conv) slot e f = absurd (cc)
  placed_there tenant base generation columns column fold of (Some (Field chunk field)) slot e f =
      let member = from_mapped place_found of.fields column (Field chunk field) (sym (ap (λ places. slice_get places column) of.places_are) ∙ e) in
      let some = field_of_place member.0 chunk field member.2 in
      is_there found (keys.Field tenant base generation column) field_found refl some.0 (of.fields_are.each column member.0 member.1 ∙ some.1)

  folded_there : (tenant base wanted columns column : ℕ) (placement : Placement) → AreFoundFolds found tenant base columns placement → (slot : CatSlot)
      → column_in_fold tenant base wanted column (fold_of placement wanted) ≡ Some slot → IsThere found (keys.Field tenant base wanted column)
  folded_there tenant base wanted columns column (Settled generation fold) of slot f = by (nat_eq wanted generation) refl f
    where
      by : (b : Bool) → nat_eq wanted generation ≡ b → column_in_fold tenant base wanted column (cond b (Some fold) None) ≡ Some slot → IsThere found (keys.Field tenant base wanted column)
      by true here g =
          let at : IsFoundFold found tenant base wanted columns fold = subst (λ (g : ℕ). IsFoundFold found tenant base g columns fold) (sym (eqb-true wanted generation here)) of in
          placed_there tenant base wanted columns column fold at (slice_get fold.places column) slot refl g
      by false here g = absurd (cc)
  folded_there tenant base wanted columns column (Moving generation before after frontier upto) of slot f = by (nat_eq wanted generation) refl (nat_eq wanted (1 - generation)) refl f
    where
      by : (b : Bool) → nat_eq wanted generation ≡ b → (d : Bool) → nat_eq wanted (1 - generation) ≡ d
          → column_in_fold tenant base wanted column (cond b (Some before) (cond d (Some after) None)) ≡ Some slot → IsThere found (keys.Field tenant base wanted column)
      by true here d other g =
          let at : IsFoundFold found tenant base wanted columns before = subst (λ (g : ℕ). IsFoundFold found tenant base g columns before) (sym (eqb-true wanted generation here)) of.0 in
          placed_there tenant base wanted columns column before at (slice_get before.places column) slot refl g
      by false here true other g =
          let at : IsFoundFold found tenant base wanted columns after = subst (λ (g : ℕ). IsFoundFold found tenant base g columns after) (sym (eqb-true wanted (1 - generation) other)) of.1 in
          placed_there tenant base wanted columns column after at (slice_get after.places column) slot refl g
      by false here false other g = absurd (cc)

  field_there : (tenant base generation column : ℕ) (o : Option TenantTable) (slot : CatSlot) → tenant_table state tenant base ≡ o → field_slot tenant base generation column o ≡ Some slot
      → IsThere found (keys.Field tenant base generation column)
  field_there tenant base generation column None slot e f = absurd (cc)
  field_there tenant base generation column (Some table) slot e f = folded_there tenant base generation _ column table.placement (found_table tenant base table e).folds slot f

  placement_there : (tenant base : ℕ) (o : Option TenantTable) (slot : CatSlot) → tenant_table state tenant base ≡ o → placement_slot tenant base o ≡ Some slot → IsThere found (keys.Placement tenant base)
  placement_there tenant base None slot e f = absurd (cc)
  placement_there tenant base (Some table) slot e f = is_there found (keys.Placement tenant base) placement_found refl _ (found_table tenant base table e).placed

  -- what the catalogue has is found
  pub had_is_found : (key : CatKey) (slot : CatSlot) → slot_of state key ≡ Some slot → IsThere found key
  had_is_found (keys.Relation classes.BaseTable number) slot e = let table = of_some _ (slice_get state.bases number) slot e in base_there number table.0 table.1
  had_is_found (keys.Relation classes.Extension number) slot e = let extension = of_some _ (slice_get state.extensions number) slot e in extension_there number extension.0 extension.1
  had_is_found (keys.Column classes.BaseTable number position) slot e =
      let column = of_some _ (slice_get (base_columns (slice_get state.bases number)) position) slot e in base_column number position (slice_get state.bases number) column.0 refl column.1
  had_is_found (keys.Column classes.Extension number position) slot e =
      let column = of_some _ (slice_get (extension_columns (slice_get state.extensions number)) position) slot e in extension_column number position (slice_get state.extensions number) column.0 refl column.1
  had_is_found (keys.Tenant tenant) slot e = let entry = of_some _ (finite.get state.tenants tenant) slot e in tenant_there tenant (finite.get state.tenants tenant) entry.0 refl entry.1
  had_is_found (keys.Placement tenant base) slot e = placement_there tenant base (tenant_table state tenant base) slot refl e
  had_is_found (keys.Extended tenant base position) slot e = extended_there tenant base position (tenant_table state tenant base) slot refl e
  had_is_found (keys.Field tenant base generation column) slot e = field_there tenant base generation column (tenant_table state tenant base) slot refl e

  -- where the catalogue has each slot that is found, it has these alone
  pub found_alone : ((key : CatKey) (slot : CatSlot) → found key ≡ Some slot → slot_of state key ≡ Some slot) → (key : CatKey) → found key ≡ slot_of state key
  found_alone all key = by (found key) refl (slot_of state key) refl
    where
      by : (o : Option CatSlot) → found key ≡ o → (u : Option CatSlot) → slot_of state key ≡ u → found key ≡ slot_of state key
      by (Some slot) e u f = e ∙ sym (all key slot e)
      by None e None f = e ∙ sym f
      by None e (Some slot) f = let there = had_is_found key slot f in let no : None ≡ Some there.0 = sym e ∙ there.1 in absurd (cc)
