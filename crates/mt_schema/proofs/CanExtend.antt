-- What is there where EXTEND is not refused, and the catalogue after it.
use Rattle.std.proofs.Common.{◌≡◌, ℕ, ◌+◌, ◌≤◌, true, false, List, [], ◌∷◌, ◌++◌, length, Option, None, Some, refl, sym, ap, ◌∙◌, subst, ltb-false}
use Rattle.std.specs.Prelude.{slice_get, slice_set}
use Rattle.std.specs.FinMap as finite
use Rattle.mt_tree.specs.declared.code.Code.TheVariants.{UnknownName}
use Rattle.mt_tree.specs.declared.command.AdminCmd.TheVariants.{Extend}
use Rattle.mt_tree.specs.declared.schema.Column.{Column}
use Rattle.mt_fold.specs.declared.fold.Fold.{Fold}
use Rattle.mt_fold.specs.declared.fold.Placement.{Placement}
use Rattle.mt_fold.specs.declared.fold.Placement.TheVariants.{Settled, Moving}
use Rattle.mt_fold.specs.Extended.{extended_fold, kinds_of}
use Rattle.mt_fold.specs.Folds.{IsValidFold}
use Rattle.mt_fold.specs.Placements.{IsValidPlacement}
use Rattle.mt_fold.proofs.Cheapest.{cover_is_one}
use Rattle.mt_fold.proofs.Extensions.{extension_valid}
use Rattle.mt_fold.proofs.Filled.{cover_is_filled}
use Rattle.mt_catalog.specs.declared.state.Extension.{Extension}
use Rattle.mt_catalog.specs.declared.state.TenantEntry.{TenantEntry}
use Rattle.mt_catalog.specs.declared.state.TenantTable.{TenantTable}
use Rattle.mt_catalog.specs.State.{State, base_columns, extended_columns, table_in, tenant_table}
use Rattle.mt_catalog.specs.Rules.{IsCatalogue, IsTenantTable, column_names}
use Rattle.mt_schema.specs.Refusals.{chunks_in, extend_tests, extended_tests, extension_named, first_holding, has_repeat, is_moving}
use Rattle.mt_schema.specs.Steps.{cover_for, extended_state, extension_number, stepped, with_extension, with_table, with_tenant}
use Rattle.mt_schema.proofs.Put.{put_tenant, with_tenant_there}
use Rattle.mt_schema.proofs.Refused.{none_holds}

-- The extension, the tenant and the table are there, and there is room for the columns.
pub record CanExtend (state : State) (tenant : ℕ) (name : List ℕ) : Type 0 where
  pub number : ℕ
  pub extension : Extension
  pub entry : TenantEntry
  pub table : TenantTable
  pub generation : ℕ
  pub fold : Fold
  pub number_is : extension_number state.extensions name ≡ Some number
  pub extension_is : slice_get state.extensions number ≡ Some extension
  pub entry_is : finite.get state.tenants tenant ≡ Some entry
  pub table_is : slice_get entry.tables extension.base ≡ Some table
  pub settled : table.placement ≡ Settled generation fold
  pub apart : has_repeat (column_names (extended_columns state extension.base table.extended) ++ column_names extension.columns) ≡ false
  pub few : length (extended_columns state extension.base table.extended) + length extension.columns ≤ 32
  pub few_chunks : length fold.shapes + length (cover_for extension.columns) ≤ 16

module _ (state : State) (tenant : ℕ) (name : List ℕ) where
  named_number : (extension : Extension) (o : Option ℕ) → extension_number state.extensions name ≡ o → (elim o [ None ↦ None | Some number ↦ slice_get state.extensions number ]) ≡ Some extension
      → (number : ℕ) × (extension_number state.extensions name ≡ Some number) × (slice_get state.extensions number ≡ Some extension)
  named_number extension None e f = absurd (cc)
  named_number extension (Some number) e f = (number, e, f)

  entry_there : (base : ℕ) (table : TenantTable) (o : Option TenantEntry) → finite.get state.tenants tenant ≡ o → table_in base o ≡ Some table
      → (entry : TenantEntry) × (finite.get state.tenants tenant ≡ Some entry) × (slice_get entry.tables base ≡ Some table)
  entry_there base table None e f = absurd (cc)
  entry_there base table (Some entry) e f = (entry, e, f)

  module _ (extension : Extension) (extension_is : extension_named state name ≡ Some extension) (table : TenantTable) (table_is : tenant_table state tenant extension.base ≡ Some table) where
    settled_there : (placement : Placement) → table.placement ≡ placement → is_moving table.placement ≡ false → (generation : ℕ) × (fold : Fold) × (table.placement ≡ Settled generation fold)
    settled_there (Settled generation fold) e f = (generation, fold, e)
    settled_there (Moving generation before after frontier upto) e f = let no : is_moving (Moving generation before after frontier upto) ≡ false = ap is_moving (sym e) ∙ f in absurd (cc)

    there : first_holding (extended_tests state extension.base extension.columns table) ≡ None → CanExtend state tenant name
    there accepted =
        let fails = none_holds (extended_tests state extension.base extension.columns table) accepted in
        let named = named_number extension (extension_number state.extensions name) refl extension_is in
        let entry = entry_there extension.base table (finite.get state.tenants tenant) refl table_is in
        let settled = settled_there table.placement refl fails.1.1.0 in
        let few = ltb-false _ _ fails.1.0 in
        let chunks = ltb-false _ _ fails.1.1.1.0 in
        record {
          number = named.0;
          extension = extension;
          entry = entry.0;
          table = table;
          generation = settled.0;
          fold = settled.1;
          number_is = named.1;
          extension_is = named.2;
          entry_is = entry.1;
          table_is = entry.2;
          settled = settled.2;
          apart = fails.0;
          few = few;
          few_chunks = subst (λ placement. chunks_in placement + length (cover_for extension.columns) ≤ 16) settled.2 chunks;
        }

  by_table : (extension : Extension) → extension_named state name ≡ Some extension → (o : Option TenantTable) → tenant_table state tenant extension.base ≡ o
      → first_holding (elim o [ None ↦ (UnknownName, true) ∷ [] | Some table ↦ extended_tests state extension.base extension.columns table ]) ≡ None → CanExtend state tenant name
  by_table extension e None f g = absurd (cc)
  by_table extension e (Some table) f g = there extension e table f g

  by_extension : (o : Option Extension) → extension_named state name ≡ o → first_holding (extend_tests state tenant o) ≡ None → CanExtend state tenant name
  by_extension None e f = absurd (cc)
  by_extension (Some extension) e f = by_table extension e (tenant_table state tenant extension.base) refl f

  pub can_extend : first_holding (extend_tests state tenant (extension_named state name)) ≡ None → CanExtend state tenant name
  can_extend accepted = by_extension (extension_named state name) refl accepted

module _ (state : State) (rules : IsCatalogue state) (tenant : ℕ) (name : List ℕ) (can : CanExtend state tenant name) where
  abbrev pub table_after : TenantTable
  table_after = with_extension can.number can.extension.columns can.table

  abbrev pub entry_after : TenantEntry
  entry_after = record { quota = can.entry.quota; tables = slice_set can.entry.tables can.extension.base table_after }

  abbrev pub fold_after : Fold
  fold_after = extended_fold can.fold (kinds_of can.extension.columns) (cover_for can.extension.columns)

  abbrev pub columns_before : List Column
  columns_before = extended_columns state can.extension.base can.table.extended

  abbrev pub base_len : ℕ
  base_len = length (base_columns (slice_get state.bases can.extension.base))

  pub kept_table : IsTenantTable state can.extension.base can.table
  kept_table = (rules.tenants tenant can.entry can.entry_is).tables can.extension.base can.table can.table_is

  pub valid_before : IsValidFold can.fold columns_before base_len
  valid_before = (subst (λ placement. IsValidPlacement placement columns_before base_len) can.settled kept_table.placement).1

  pub valid_after : IsValidFold fold_after (columns_before ++ can.extension.columns) base_len
  valid_after = extension_valid can.fold columns_before can.extension.columns base_len (cover_for can.extension.columns) valid_before
      (cover_is_filled (kinds_of can.extension.columns) (cover_for can.extension.columns) (cover_is_one _ _)) can.few_chunks

  -- the catalogue after the step has the changed table in its place
  with_table_there : with_table can.extension.base (with_extension can.number can.extension.columns) can.entry ≡ entry_after
  with_table_there = by (slice_get can.entry.tables can.extension.base) can.table_is
    where
      by : (o : Option TenantTable) → o ≡ Some can.table
          → (elim o [ None ↦ can.entry | Some table ↦ record { quota = can.entry.quota; tables = slice_set can.entry.tables can.extension.base (with_extension can.number can.extension.columns table) } ]) ≡ entry_after
      by None e = absurd (cc)
      by (Some table) e = let same : table ≡ can.table = cc in ap (λ (of : TenantTable). record { quota = can.entry.quota; tables = slice_set can.entry.tables can.extension.base (with_extension can.number can.extension.columns of) }) same

  extended_there : (o : Option Extension) → o ≡ Some can.extension
      → (elim o [ None ↦ state | Some extension ↦ with_tenant state tenant (with_table extension.base (with_extension can.number extension.columns)) ]) ≡ put_tenant state tenant entry_after
  extended_there None e = absurd (cc)
  extended_there (Some extension) e =
      let same : extension ≡ can.extension = cc in
      ap (λ (of : Extension). with_tenant state tenant (with_table of.base (with_extension can.number of.columns))) same
      ∙ with_tenant_there state tenant (with_table can.extension.base (with_extension can.number can.extension.columns)) can.entry can.entry_is
      ∙ ap (put_tenant state tenant) with_table_there

  pub stepped_is : stepped state (Extend tenant name) ≡ put_tenant state tenant entry_after
  stepped_is = ap (extended_state state tenant) can.number_is ∙ extended_there (slice_get state.extensions can.number) can.extension_is
