-- A chunk more than a fold that fits has is of no catalogue.
use Rattle.std.proofs.Common.{◌≡◌, ℕ, zero, suc, ◌-◌, ◌<◌, ◌≤◌, Bool, true, false, cond, List, [], ◌∷◌, length, Option, None, Some, refl, sym, ap, ◌∙◌, subst, arith, eqb-true}
use Rattle.std.specs.Prelude.{nat_eq, slice_get, option_map, IsSome, ◌==◌}
use Rattle.std.specs.FinMap as finite
use Rattle.std.proofs.lemmas.Option.{slice_get_within}
use Rattle.mt_tree.specs.declared.schema.Column.{Column}
use Rattle.mt_fold.specs.declared.fold.Fold.{Fold}
use Rattle.mt_fold.specs.declared.fold.Place.{Place}
use Rattle.mt_fold.specs.declared.fold.Place.TheVariants.{Conv, Field}
use Rattle.mt_fold.specs.declared.fold.Placement.{Placement}
use Rattle.mt_fold.specs.declared.fold.Placement.TheVariants.{Settled, Moving}
use Rattle.mt_fold.specs.declared.shape.Shape.{Shape}
use Rattle.mt_fold.specs.Placements.{IsValidPlacement}
use Rattle.mt_catslot.specs.declared.slot.CatKey.TheVariants as keys
use Rattle.mt_catalog.specs.declared.state.TenantEntry.{TenantEntry}
use Rattle.mt_catalog.specs.declared.state.TenantTable.{TenantTable}
use Rattle.mt_catalog.specs.State.{State, base_columns, extended_columns, table_in, tenant_table}
use Rattle.mt_catalog.specs.Slots.{column_in_fold, field_slot, fold_of, placed_slot}
use Rattle.mt_catalog.specs.Rules.{IsTenantTable}
use Rattle.mt_catalog.specs.Found.{AreFoundFields, Found, IsOf, IsOfNone, field_found, shape_found}
use Rattle.mt_catalog.proofs.Cut.{field_at, placed_field}

-- a shape that is found is that of a field
shape_source : (fields : List (Option (Shape × ℕ × ℕ))) (chunk : ℕ) (shape : Shape) → shape_found fields chunk ≡ Some shape
    → (column : ℕ) × (field : Shape × ℕ × ℕ) × (slice_get fields column ≡ Some (Some field)) × (field.1 ≡ chunk)
shape_source [] chunk shape e = absurd (cc)
shape_source (None ∷ fields) chunk shape e = let rest = shape_source fields chunk shape e in (suc rest.0, rest.1, rest.2, rest.3)
shape_source (Some field ∷ fields) chunk shape e = by (field.1 == chunk) refl e (shape_source fields chunk shape)
  where
    by : (b : Bool) → (field.1 == chunk) ≡ b → cond b (Some field.0) (shape_found fields chunk) ≡ Some shape
        → (shape_found fields chunk ≡ Some shape → (column : ℕ) × (f : Shape × ℕ × ℕ) × (slice_get fields column ≡ Some (Some f)) × (f.1 ≡ chunk))
        → (column : ℕ) × (f : Shape × ℕ × ℕ) × (slice_get (Some field ∷ fields) column ≡ Some (Some f)) × (f.1 ≡ chunk)
    by true here f on = (zero, field, refl, eqb-true field.1 chunk here)
    by false here f on = let rest = on f in (suc rest.0, rest.1, rest.2, rest.3)

-- each fold of a placement that fits has few chunks
few_in : (placement : Placement) (columns : List Column) (base_len generation : ℕ) (fold : Fold) → IsValidPlacement placement columns base_len → fold_of placement generation ≡ Some fold → length fold.shapes ≤ 16
few_in (Settled g f) columns base_len generation fold valid e = by (nat_eq generation g) e
  where
    by : (b : Bool) → cond b (Some f) None ≡ Some fold → length fold.shapes ≤ 16
    by true h = let same : f ≡ fold = cc in subst (λ (of : Fold). length of.shapes ≤ 16) same valid.1.few_chunks
    by false h = absurd (cc)
few_in (Moving g before after frontier upto) columns base_len generation fold valid e = by (nat_eq generation g) (nat_eq generation (1 - g)) e
  where
    by : (b d : Bool) → cond b (Some before) (cond d (Some after) None) ≡ Some fold → length fold.shapes ≤ 16
    by true d h = let same : before ≡ fold = cc in subst (λ (of : Fold). length of.shapes ≤ 16) same valid.1.few_chunks
    by false true h = let same : after ≡ fold = cc in subst (λ (of : Fold). length of.shapes ≤ 16) same valid.2.few_chunks
    by false false h = absurd (cc)

-- a column lies in a chunk that is there
chunk_within : (shapes : List Shape) (place : Place) (field : Shape × ℕ × ℕ) → field_at shapes place ≡ Some field → field.1 < length shapes
chunk_within shapes Conv field e = absurd (cc)
chunk_within shapes (Field chunk at) field e = by (slice_get shapes chunk) refl e
  where
    by : (o : Option Shape) → slice_get shapes chunk ≡ o → option_map (λ shape. (shape, chunk, at)) o ≡ Some field → field.1 < length shapes
    by None is h = absurd (cc)
    by (Some shape) is h =
        let one : Option (Shape × ℕ × ℕ) → ℕ = λ o. elim o [ None ↦ 0 | Some f ↦ f.1 ] in
        subst (λ (n : ℕ). n < length shapes) (ap one h) (slice_get_within shapes chunk shape is)

module _ (found : Found) (state : State) (is : IsOf found state) (tenant base : ℕ) where
  kept_in : (o : Option TenantEntry) (table : TenantTable) → finite.get state.tenants tenant ≡ o → table_in base o ≡ Some table → IsTenantTable state base table
  kept_in None table e f = absurd (cc)
  kept_in (Some entry) table e f = (is.rules.tenants tenant entry e).tables base table f

  pub table_keeps : (table : TenantTable) → tenant_table state tenant base ≡ Some table → IsTenantTable state base table
  table_keeps table e = kept_in (finite.get state.tenants tenant) table refl e

  module _ (generation column : ℕ) (field : Shape × ℕ × ℕ) where
    placed_within : (fold : Fold) (o : Option Place) → field_found (placed_slot tenant base generation column fold o) ≡ Some field → field.1 < length fold.shapes
    placed_within fold None e = absurd (cc)
    placed_within fold (Some place) e = chunk_within fold.shapes place field (sym (placed_field tenant base generation column fold place) ∙ e)

    folded_within : (table : TenantTable) → tenant_table state tenant base ≡ Some table → (o : Option Fold) → fold_of table.placement generation ≡ o
        → field_found (column_in_fold tenant base generation column o) ≡ Some field → field.1 < 16
    folded_within table there None e f = absurd (cc)
    folded_within table there (Some fold) e f =
        let few = few_in table.placement (extended_columns state base table.extended) (length (base_columns (slice_get state.bases base))) generation fold (table_keeps table there).placement e in
        let within = placed_within fold (slice_get fold.places column) f in omega (arith, few, within)

    within_limit : (o : Option TenantTable) → tenant_table state tenant base ≡ o → field_found (field_slot tenant base generation column o) ≡ Some field → field.1 < 16
    within_limit None e f = absurd (cc)
    within_limit (Some table) e f = folded_within table e (fold_of table.placement generation) refl f

-- a seventeenth chunk
pub too_many_chunks : (found : Found) (tenant base generation columns : ℕ) (fields : List (Option (Shape × ℕ × ℕ))) → AreFoundFields found tenant base generation columns fields
    → IsSome (shape_found fields 16) → IsOfNone found
too_many_chunks found tenant base generation columns fields are some state is = by (shape_found fields 16) refl some
  where
    by : (o : Option Shape) → shape_found fields 16 ≡ o → IsSome o → ⊥
    by None e s = cc
    by (Some shape) e s =
        let source = shape_source fields 16 shape e in
        let says : field_found (found (keys.Field tenant base generation source.0)) ≡ Some source.1 = are.each source.0 (Some source.1) source.2 in
        let had = sym (ap field_found (is.same (keys.Field tenant base generation source.0))) ∙ says in
        let within = within_limit found state is tenant base generation source.0 source.1 (tenant_table state tenant base) refl had in
        omega (arith, within, source.3)
