-- Slots of tenants' tables have the bytes that say them, and so each slot has.
use Rattle.std.proofs.Common.{◌≡◌, ℕ, ◌-◌, ◌^◌, ◌<◌, ◌≤◌, Bool, true, false, cond, List, length, Option, None, Some, refl, subst, arith, eqb-true}
use Rattle.std.specs.Prelude.{nat_eq, option_map, slice_get}
use Rattle.std.specs.FinMap as finite
use Rattle.std.proofs.lemmas.Option.{slice_get_within}
use Rattle.mt_tree.specs.declared.schema.Column.{Column}
use Rattle.mt_fold.specs.declared.fold.Fold.{Fold}
use Rattle.mt_fold.specs.declared.fold.Place.{Place}
use Rattle.mt_fold.specs.declared.fold.Place.TheVariants.{Conv, Field}
use Rattle.mt_fold.specs.declared.fold.Placement.{Placement}
use Rattle.mt_fold.specs.declared.fold.Placement.TheVariants as placements
use Rattle.mt_fold.specs.declared.shape.Shape.{Shape}
use Rattle.mt_fold.specs.declared.shape.Shape.TheVariants.{C1, C2, C3, C4, C5, C6}
use Rattle.mt_fold.specs.Folds.{IsValidFold}
use Rattle.mt_fold.specs.Placements.{IsValidPlacement}
use Rattle.mt_fold.specs.Shapes.{chunk_kind, fields_of}
use Rattle.mt_catslot.specs.declared.slot.Motion.{Motion}
use Rattle.mt_catslot.specs.declared.slot.CatSlot.{CatSlot}
use Rattle.mt_catslot.specs.declared.slot.CatSlot.TheVariants as slots
use Rattle.mt_catslot.specs.Slots.{IsSayable, IsSayableMotion}
use Rattle.mt_catalog.specs.declared.state.TenantEntry.{TenantEntry}
use Rattle.mt_catalog.specs.declared.state.TenantTable.{TenantTable}
use Rattle.mt_catalog.specs.State.{State, base_columns, extended_columns, table_in, tenant_table}
use Rattle.mt_catalog.specs.Slots.{HasSlot, column_in_fold, extended_slot, field_slot, fold_of, motion_of, placed_slot, placement_slot, slot_of}
use Rattle.mt_catalog.specs.Rules.{IsCatalogue}
use Rattle.mt_catalog.specs.Found.{IsOf}
use Rattle.mt_catalog.proofs.Chunks.{table_keeps}
use Rattle.mt_catalog.specs.Clauses.{Extends}
use Rattle.mt_catalog.proofs.Extensions.{few_numbers}
use Rattle.mt_catalog.proofs.Limits.{member_keeps}
use Rattle.mt_catalog.proofs.Runs.{present}
use Rattle.mt_schema.proofs.Sayable.{column_is_sayable, relation_is_sayable, tenant_is_sayable}

-- no chunk has more than eight fields
few_fields : (shape : Shape) → length (fields_of shape) ≤ 8
few_fields C1 = omega arith
few_fields C2 = omega arith
few_fields C3 = omega arith
few_fields C4 = omega arith
few_fields C5 = omega arith
few_fields C6 = omega arith

motion_is_sayable : (placement : Placement) (columns : List Column) (base_len : ℕ) → IsValidPlacement placement columns base_len → IsSayableMotion (motion_of placement)
motion_is_sayable (placements.Settled generation fold) columns base_len valid = let few = valid.0 in omega (arith, few)
motion_is_sayable (placements.Moving generation before after frontier upto) columns base_len valid =
    let few = valid.0 in
    let some = valid.3 in
    let within = valid.4 in
    (omega (arith, few), omega (arith, some, within), omega (arith, within))

-- a fold of a placement is one of its generations, and fits
fold_is_of : (placement : Placement) (columns : List Column) (base_len generation : ℕ) (fold : Fold) → IsValidPlacement placement columns base_len → fold_of placement generation ≡ Some fold
    → (generation ≤ 1) × IsValidFold fold columns base_len
fold_is_of (placements.Settled g f) columns base_len generation fold valid e = by (nat_eq generation g) refl e
  where
    by : (b : Bool) → nat_eq generation g ≡ b → cond b (Some f) None ≡ Some fold → (generation ≤ 1) × IsValidFold fold columns base_len
    by true here h =
        let few = valid.0 in
        let own = eqb-true generation g here in
        let same : f ≡ fold = cc in
        (omega (arith, few, own), subst (λ (of : Fold). IsValidFold of columns base_len) same valid.1)
    by false here h = absurd (cc)
fold_is_of (placements.Moving g before after frontier upto) columns base_len generation fold valid e = by (nat_eq generation g) refl (nat_eq generation (1 - g)) refl e
  where
    by : (b : Bool) → nat_eq generation g ≡ b → (d : Bool) → nat_eq generation (1 - g) ≡ d → cond b (Some before) (cond d (Some after) None) ≡ Some fold
        → (generation ≤ 1) × IsValidFold fold columns base_len
    by true here d there h =
        let few = valid.0 in
        let own = eqb-true generation g here in
        let same : before ≡ fold = cc in
        (omega (arith, few, own), subst (λ (of : Fold). IsValidFold of columns base_len) same valid.1)
    by false here true there h =
        let own = eqb-true generation (1 - g) there in
        let same : after ≡ fold = cc in
        (omega (arith, own), subst (λ (of : Fold). IsValidFold of columns base_len) same valid.2)
    by false here false there h = absurd (cc)

-- the numbers of a column that lies in a chunk of a fold that fits
placed_is_small : (fold : Fold) (columns : List Column) (base_len column chunk field : ℕ) → IsValidFold fold columns base_len → slice_get fold.places column ≡ Some (Field chunk field)
    → (column < length columns) × (chunk < 16) × (field < 8)
placed_is_small fold columns base_len column chunk field valid e =
    let within = slice_get_within fold.places column (Field chunk field) e in
    let each = valid.each_column in
    let there = present columns column (omega (arith, within, each)) in
    let is = valid.fields column there.0 chunk field there.1 e in
    let few_chunks = valid.few_chunks in
    let few = few_fields is.shape in
    let chunk_within = slice_get_within fold.shapes chunk is.shape is.chunk_is in
    let field_within = slice_get_within (fields_of is.shape) field (chunk_kind there.0.kind) is.field_is in
    (omega (arith, within, each), omega (arith, chunk_within, few_chunks), omega (arith, field_within, few))

module _ (state : State) (rules : IsCatalogue state) where
  own : IsOf (slot_of state) state
  own = record { rules = rules; same = λ key. refl }

  -- a table that is there is one of a tenant and of a base table
  is_within : (tenant base : ℕ) (table : TenantTable) (o : Option TenantEntry) → finite.get state.tenants tenant ≡ o → table_in base o ≡ Some table → (tenant < 2 ^ 32) × (base < 16)
  is_within tenant base table None e f = absurd (cc)
  is_within tenant base table (Some entry) e f =
      let is = rules.tenants tenant entry e in
      let each = is.each_base in
      let few = rules.few_bases in
      let within = slice_get_within entry.tables base table f in
      (is.number_upto, omega (arith, each, few, within))

  placement_is_sayable : (tenant base made : ℕ) (motion : Motion) → placement_slot tenant base (tenant_table state tenant base) ≡ Some (slots.Placement tenant base made motion)
      → IsSayable (slots.Placement tenant base made motion)
  placement_is_sayable tenant base made motion e = by (tenant_table state tenant base) refl e
    where
      by : (o : Option TenantTable) → tenant_table state tenant base ≡ o → placement_slot tenant base o ≡ Some (slots.Placement tenant base made motion) → IsSayable (slots.Placement tenant base made motion)
      by None f h = absurd (cc)
      by (Some table) f h =
          let within = is_within tenant base table (finite.get state.tenants tenant) refl f in
          let is = table_keeps (slot_of state) state own tenant base table f in
          let small = within.1 in
          let upto = is.made in
          let made_is : table.made ≡ made = cc in
          let motion_is : motion_of table.placement ≡ motion = cc in
          (within.0, omega (arith, small), omega (arith, upto, made_is), subst IsSayableMotion motion_is (motion_is_sayable table.placement _ _ is.placement))

  extended_is_sayable : (tenant base position extension : ℕ) → extended_slot tenant base position (tenant_table state tenant base) ≡ Some (slots.Extended tenant base position extension)
      → IsSayable (slots.Extended tenant base position extension)
  extended_is_sayable tenant base position extension e = by (tenant_table state tenant base) refl e
    where
      at : (table : TenantTable) → tenant_table state tenant base ≡ Some table → (o : Option ℕ) → slice_get table.extended position ≡ o
          → option_map (λ number. slots.Extended tenant base position number) o ≡ Some (slots.Extended tenant base position extension) → IsSayable (slots.Extended tenant base position extension)
      at table f None g h = absurd (cc)
      at table f (Some number) g h =
          let within = is_within tenant base table (finite.get state.tenants tenant) refl f in
          let is = table_keeps (slot_of state) state own tenant base table f in
          let extends = member_keeps (Extends state.extensions base) table.extended position number is.extended g in
          let small = within.1 in
          let few = few_numbers (slot_of state) state own base tenant table f in
          let position_is = slice_get_within table.extended position number g in
          let few_extensions = rules.few_extensions in
          let number_is = slice_get_within state.extensions number extends.0 extends.1 in
          let same : number ≡ extension = cc in
          (within.0, omega (arith, small), omega (arith, few, position_is), omega (arith, few_extensions, number_is, same))

      by : (o : Option TenantTable) → tenant_table state tenant base ≡ o → extended_slot tenant base position o ≡ Some (slots.Extended tenant base position extension) → IsSayable (slots.Extended tenant base position extension)
      by None f h = absurd (cc)
      by (Some table) f h = at table f (slice_get table.extended position) refl h

  module _ (tenant base generation column : ℕ) (shape : Shape) (chunk field : ℕ) where
    placed_is_sayable : (table : TenantTable) → tenant_table state tenant base ≡ Some table → (fold : Fold) → fold_of table.placement generation ≡ Some fold → (o : Option Place) → slice_get fold.places column ≡ o
        → placed_slot tenant base generation column fold o ≡ Some (slots.Field tenant base generation column shape chunk field) → IsSayable (slots.Field tenant base generation column shape chunk field)
    placed_is_sayable table f fold g None i h = absurd (cc)
    placed_is_sayable table f fold g (Some Conv) i h = absurd (cc)
    placed_is_sayable table f fold g (Some (Field c d)) i h = by (slice_get fold.shapes c) h
      where
        by : (o : Option Shape) → option_map (λ s. slots.Field tenant base generation column s c d) o ≡ Some (slots.Field tenant base generation column shape chunk field)
            → IsSayable (slots.Field tenant base generation column shape chunk field)
        by None k = absurd (cc)
        by (Some s) k =
            let within = is_within tenant base table (finite.get state.tenants tenant) refl f in
            let is = table_keeps (slot_of state) state own tenant base table f in
            let of = fold_is_of table.placement (extended_columns state base table.extended) (length (base_columns (slice_get state.bases base))) generation fold is.placement g in
            let small = placed_is_small fold (extended_columns state base table.extended) _ column c d of.1 i in
            let base_is = within.1 in
            let few = is.few in
            let generation_is = of.0 in
            let column_is = small.0 in
            let chunk_is = small.1 in
            let field_is = small.2 in
            let chunks : c ≡ chunk = cc in
            let fields : d ≡ field = cc in
            (within.0, omega (arith, base_is), omega (arith, generation_is), omega (arith, few, column_is), omega (arith, chunk_is, chunks), omega (arith, field_is, fields))

    folded_is_sayable : (table : TenantTable) → tenant_table state tenant base ≡ Some table → (o : Option Fold) → fold_of table.placement generation ≡ o
        → column_in_fold tenant base generation column o ≡ Some (slots.Field tenant base generation column shape chunk field) → IsSayable (slots.Field tenant base generation column shape chunk field)
    folded_is_sayable table f None g h = absurd (cc)
    folded_is_sayable table f (Some fold) g h = placed_is_sayable table f fold g (slice_get fold.places column) refl h

    field_is_sayable : (o : Option TenantTable) → tenant_table state tenant base ≡ o → field_slot tenant base generation column o ≡ Some (slots.Field tenant base generation column shape chunk field)
        → IsSayable (slots.Field tenant base generation column shape chunk field)
    field_is_sayable None f h = absurd (cc)
    field_is_sayable (Some table) f h = folded_is_sayable table f (fold_of table.placement generation) refl h

  pub slot_is_sayable : (slot : CatSlot) → HasSlot state slot → IsSayable slot
  slot_is_sayable (slots.Relation class number base name) has = relation_is_sayable state rules class number base name has
  slot_is_sayable (slots.Column class number position kind not_null key name) has = column_is_sayable state rules class number position kind not_null key name has
  slot_is_sayable (slots.Tenant tenant quota) has = tenant_is_sayable state rules tenant quota has
  slot_is_sayable (slots.Placement tenant base made motion) has = placement_is_sayable tenant base made motion has
  slot_is_sayable (slots.Extended tenant base position extension) has = extended_is_sayable tenant base position extension has
  slot_is_sayable (slots.Field tenant base generation column shape chunk field) has = field_is_sayable tenant base generation column shape chunk field (tenant_table state tenant base) refl has
