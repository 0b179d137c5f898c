-- EXTEND keeps the slots of all other tables, and of the columns that its table had, and adds one for each other.
use Rattle.std.proofs.Common.{◌≡◌, ◌≢◌, ⊎_elim, ℕ, ◌+◌, ◌<◌, ◌≤◌, cond, List, ◌++◌, length, Option, None, Some, refl, sym, ap, ◌∙◌, arith}
use Rattle.std.specs.Prelude.{flat_map, nat_eq, option_map, slice_get}
use Rattle.std.proofs.lemmas.Bool.{cases_eq}
use Rattle.std.proofs.lemmas.List.{length-append}
use Rattle.std.proofs.lemmas.Option.{slice_get_past, slice_get_within}
use Rattle.mt_tree.specs.declared.schema.Column.{Column}
use Rattle.mt_fold.specs.declared.fold.Fold.{Fold}
use Rattle.mt_fold.specs.declared.fold.Place.{Place}
use Rattle.mt_fold.specs.declared.fold.Place.TheVariants.{Conv, Field}
use Rattle.mt_fold.specs.declared.fold.Placement.{Placement}
use Rattle.mt_fold.specs.declared.fold.Placement.TheVariants.{Settled, Moving}
use Rattle.mt_fold.specs.Extended.{kinds_of, places_taken}
use Rattle.mt_catslot.specs.declared.slot.CatSlot.{CatSlot}
use Rattle.mt_catslot.specs.declared.slot.CatSlot.TheVariants as slots
use Rattle.mt_catslot.specs.declared.slot.CatKey.TheVariants as keys
use Rattle.mt_catalog.specs.declared.state.TenantTable.{TenantTable}
use Rattle.mt_catalog.specs.declared.state.TenantEntry.{TenantEntry}
use Rattle.mt_catalog.specs.State.{State, base_columns, extension_columns, table_in, tenant_table}
use Rattle.mt_catalog.specs.Slots.{column_in_fold, fold_of, motion_of, placed_slot, shaped_slot, slot_of}
use Rattle.mt_catalog.specs.Rules.{IsCatalogue}
use Rattle.mt_catalog.proofs.Cut.{chunk_there}
use Rattle.mt_catalog.proofs.Runs.{present}
use Rattle.mt_schema.specs.Steps.{cover_for, extended_placement}
use Rattle.mt_schema.proofs.CanExtend.{CanExtend, base_len, columns_before, entry_after, fold_after, table_after, valid_after, valid_before}
use Rattle.mt_schema.proofs.Numbered.{changed_elsewhere, changed_there, joined_front}
use Rattle.mt_schema.proofs.Put.{new_tenant, put_tenant, table_at, tenant_at}

-- a table that is given chunks moves as before
pub motion_kept : (added : List Column) (placement : Placement) → motion_of (extended_placement added placement) ≡ motion_of placement
motion_kept added (Settled generation fold) = refl
motion_kept added (Moving generation before after frontier upto) = refl

module _ (state : State) (rules : IsCatalogue state) (tenant : ℕ) (name : List ℕ) (can : CanExtend state tenant name) where
  abbrev pub base : ℕ
  base = can.extension.base

  abbrev pub entry : TenantEntry
  entry = entry_after state rules tenant name can

  abbrev pub after : State
  after = put_tenant state tenant entry

  abbrev pub table : TenantTable
  table = table_after state rules tenant name can

  abbrev pub fold : Fold
  fold = fold_after state rules tenant name can

  abbrev pub columns : List Column
  columns = columns_before state rules tenant name can

  abbrev pub added : ℕ
  added = length can.extension.columns

  pub table_before : tenant_table state tenant base ≡ Some can.table
  table_before = ap (table_in base) can.entry_is ∙ can.table_is

  pub table_there : tenant_table after tenant base ≡ Some table
  table_there = ap (table_in base) (new_tenant state tenant entry) ∙ changed_there can.entry.tables base table can.table can.table_is

  own_table_at : (other : ℕ) → other ≢ base → tenant_table after tenant other ≡ tenant_table state tenant other
  own_table_at other apart = ap (table_in other) (new_tenant state tenant entry) ∙ changed_elsewhere can.entry.tables base table other apart ∙ sym (ap (table_in other) can.entry_is)

  -- what is made of a table is the same where it is of the one that changes
  pub elsewhere_same : (said : ℕ → ℕ → Option TenantTable → Option CatSlot) (at other : ℕ) → (at ≡ tenant → other ≡ base → said tenant base (Some table) ≡ said tenant base (Some can.table))
      → said at other (tenant_table after at other) ≡ said at other (tenant_table state at other)
  elsewhere_same said at other own = ⊎_elim at_tenant (λ apart. ap (said at other) (table_at state tenant entry at other apart)) (cases_eq at tenant)
    where
      at_base : at ≡ tenant → other ≡ base → said at other (tenant_table after at other) ≡ said at other (tenant_table state at other)
      at_base one two =
          ap (λ t. said t other (tenant_table after t other)) one
          ∙ ap (λ b. said tenant b (tenant_table after tenant b)) two
          ∙ ap (said tenant base) table_there ∙ own one two ∙ sym (ap (said tenant base) table_before)
          ∙ sym (ap (λ b. said tenant b (tenant_table state tenant b)) two)
          ∙ sym (ap (λ t. said t other (tenant_table state t other)) one)

      at_tenant : at ≡ tenant → said at other (tenant_table after at other) ≡ said at other (tenant_table state at other)
      at_tenant one = ⊎_elim (at_base one)
          (λ apart. ap (λ t. said t other (tenant_table after t other)) one ∙ ap (said tenant other) (own_table_at other apart) ∙ sym (ap (λ t. said t other (tenant_table state t other)) one))
          (cases_eq other base)

  pub same_quota : (other : ℕ) → slot_of after (keys.Tenant other) ≡ slot_of state (keys.Tenant other)
  same_quota other = ⊎_elim
      (λ one. ap (λ n. slot_of after (keys.Tenant n)) one ∙ ap (option_map (λ entry. slots.Tenant tenant entry.quota)) (new_tenant state tenant entry)
      ∙ sym (ap (option_map (λ entry. slots.Tenant tenant entry.quota)) can.entry_is) ∙ ap (λ n. slot_of state (keys.Tenant n)) (sym one))
      (λ apart. ap (option_map (λ entry. slots.Tenant other entry.quota)) (tenant_at state tenant entry other apart))
      (cases_eq other tenant)

  -- the fold of a generation
  pub folds_after : (wanted : ℕ) → fold_of table.placement wanted ≡ cond (nat_eq wanted can.generation) (Some fold) None
  folds_after wanted = ap (λ placement. fold_of (extended_placement can.extension.columns placement) wanted) can.settled

  pub folds_before : (wanted : ℕ) → fold_of can.table.placement wanted ≡ cond (nat_eq wanted can.generation) (Some can.fold) None
  folds_before wanted = ap (λ placement. fold_of placement wanted) can.settled

  module _ (generation column : ℕ) where
    place_kept : (o : Option Place) → slice_get can.fold.places column ≡ o → placed_slot tenant base generation column fold o ≡ placed_slot tenant base generation column can.fold o
    place_kept None e = refl
    place_kept (Some Conv) e = refl
    place_kept (Some (Field chunk field)) e =
        let there = chunk_there can.fold columns (base_len state rules tenant name can) (valid_before state rules tenant name can) column chunk field e in
        ap (shaped_slot tenant base generation column chunk field) (joined_front can.fold.shapes (cover_for can.extension.columns) chunk (slice_get_within can.fold.shapes chunk there.0 there.1))

    pub column_kept : column < length columns → column_in_fold tenant base generation column (Some fold) ≡ column_in_fold tenant base generation column (Some can.fold)
    column_kept within =
        let each = (valid_before state rules tenant name can).each_column in
        ap (placed_slot tenant base generation column fold) (joined_front can.fold.places (places_taken (length can.fold.shapes) (cover_for can.extension.columns) (kinds_of can.extension.columns)) column (omega (arith, within, each)))
        ∙ place_kept (slice_get can.fold.places column) refl

    pub no_column : length columns ≤ column → column_in_fold tenant base generation column (Some can.fold) ≡ None
    no_column beyond = let each = (valid_before state rules tenant name can).each_column in ap (placed_slot tenant base generation column can.fold) (slice_get_past can.fold.places column (omega (arith, beyond, each)))

    pub no_column_after : length columns + added ≤ column → column_in_fold tenant base generation column (Some fold) ≡ None
    no_column_after beyond =
        let each = (valid_after state rules tenant name can).each_column in
        let size = length-append columns can.extension.columns in
        ap (placed_slot tenant base generation column fold) (slice_get_past fold.places column (omega (arith, beyond, each, size)))

    -- each column that is added has a field
    placed_there : length columns ≤ column → (place : Place) → slice_get fold.places column ≡ Some place → (slot : CatSlot) × (placed_slot tenant base generation column fold (Some place) ≡ Some slot)
    placed_there beyond Conv e =
        let low = (valid_after state rules tenant name can).base_columns column e in
        let size = length-append (base_columns (slice_get state.bases base)) (flat_map (λ number. extension_columns (slice_get state.extensions number)) can.table.extended) in
        absurd (omega (arith, low, beyond, size))
    placed_there beyond (Field chunk field) e =
        let there = chunk_there fold (columns ++ can.extension.columns) (base_len state rules tenant name can) (valid_after state rules tenant name can) column chunk field e in
        (slots.Field tenant base generation column there.0 chunk field, ap (shaped_slot tenant base generation column chunk field) there.1)

    pub column_there : length columns ≤ column → column < length columns + added → (slot : CatSlot) × (column_in_fold tenant base generation column (Some fold) ≡ Some slot)
    column_there beyond within =
        let each = (valid_after state rules tenant name can).each_column in
        let size = length-append columns can.extension.columns in
        let place = present fold.places column (omega (arith, within, each, size)) in
        let slot = placed_there beyond place.0 place.1 in
        (slot.0, ap (placed_slot tenant base generation column fold) place.1 ∙ slot.1)
