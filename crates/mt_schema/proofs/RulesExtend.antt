-- The catalogue after EXTEND keeps the rules.
use Rattle.std.proofs.Common.{◌≡◌, ⊎_elim, ℕ, ◌+◌, ◌≤◌, cond, List, [], ◌++◌, length, Some, refl, sym, ap, ◌∙◌, subst, arith, append_assoc}
use Rattle.std.specs.Prelude.{flat_map, is_some, slice_get}
use Rattle.std.specs.FinMap as finite
use Rattle.std.proofs.lemmas.Bool.{cases_eq}
use Rattle.std.proofs.lemmas.List.{flat_map_more, length-append, length-set, map-append}
use Rattle.std.proofs.lemmas.List.Elements.{All-push}
use Rattle.mt_tree.specs.declared.command.AdminCmd.TheVariants.{Extend}
use Rattle.mt_tree.specs.declared.schema.Column.{Column}
use Rattle.mt_fold.specs.Placements.{IsValidPlacement}
use Rattle.mt_catalog.specs.declared.state.TenantEntry.{TenantEntry}
use Rattle.mt_catalog.specs.declared.state.TenantTable.{TenantTable}
use Rattle.mt_catalog.specs.State.{State, base_columns, extended_columns, extension_columns}
use Rattle.mt_catalog.specs.Rules.{AreApart, IsCatalogue, IsTenant, IsTenantTable, MovesMade, column_names}
use Rattle.mt_catalog.specs.Clauses.{Extends}
use Rattle.mt_schema.specs.Refusals.{quota_of}
use Rattle.mt_schema.specs.Steps.{extended_placement, stepped}
use Rattle.mt_schema.proofs.CanExtend.{CanExtend, base_len, columns_before, entry_after, kept_table, stepped_is, table_after, valid_after}
use Rattle.mt_schema.proofs.NamesApart.{no_repeat_apart}
use Rattle.mt_schema.proofs.Numbered.{changed_elsewhere, changed_there}
use Rattle.mt_schema.proofs.Put.{put_tenant}
use Rattle.mt_schema.proofs.Quotas.{quotas_put}
use Rattle.mt_schema.proofs.RulesPut as put

module _ (state : State) (rules : IsCatalogue state) (tenant : ℕ) (name : List ℕ) (can : CanExtend state tenant name) where
  abbrev base : ℕ
  base = can.extension.base

  abbrev entry : TenantEntry
  entry = entry_after state rules tenant name can

  abbrev table : TenantTable
  table = table_after state rules tenant name can

  abbrev after : State
  after = put_tenant state tenant entry

  abbrev added : List Column
  added = can.extension.columns

  abbrev columns : List Column
  columns = columns_before state rules tenant name can

  abbrev behind : List ℕ → List Column
  behind numbers = flat_map (λ number. extension_columns (slice_get state.extensions number)) numbers

  -- the columns of the extension stand behind the others
  columns_are : extended_columns after base table.extended ≡ columns ++ added
  columns_are =
      let own : List Column = base_columns (slice_get state.bases base) in
      ap (λ some. own ++ some) (sym (flat_map_more (λ number. extension_columns (slice_get state.extensions number)) [] can.table.extended can.number))
      ∙ sym (append_assoc own (behind can.table.extended) (extension_columns (slice_get state.extensions can.number)))
      ∙ ap (λ of. columns ++ extension_columns of) can.extension_is

  placed : IsValidPlacement table.placement (columns ++ added) (base_len state rules tenant name can)
  placed =
      let kept = kept_table state rules tenant name can in
      let few = subst (λ placement. IsValidPlacement placement columns (base_len state rules tenant name can)) can.settled kept.placement in
      subst (λ placement. IsValidPlacement (extended_placement added placement) (columns ++ added) (base_len state rules tenant name can)) (sym can.settled) (few.0, valid_after state rules tenant name can)

  table_is : IsTenantTable after base table
  table_is =
      let kept = kept_table state rules tenant name can in
      let few = can.few in
      let size = length-append columns added in
      record {
        made = kept.made;
        extended = All-push (Extends state.extensions base) can.table.extended can.number kept.extended (can.extension, can.extension_is, refl);
        few = subst (λ of. length of ≤ 32) (sym columns_are) (omega (arith, few, size));
        apart = subst (λ of. AreApart (column_names of)) (sym columns_are)
            (subst AreApart (sym (map-append (λ column. column.name) columns added)) (no_repeat_apart (column_names columns ++ column_names added) can.apart));
        placement = subst (λ of. IsValidPlacement table.placement of (length (base_columns (slice_get state.bases base)))) (sym columns_are) placed;
        moves = subst (λ placement. MovesMade can.table.made (extended_placement added placement)) (sym can.settled) tt;
      }

  tables_are : (number : ℕ) (one : TenantTable) → slice_get entry.tables number ≡ Some one → IsTenantTable after number one
  tables_are number one there = ⊎_elim at_base
      (λ apart. put.kept_table state rules tenant entry number one (is.tables number one (sym (changed_elsewhere can.entry.tables base table number apart) ∙ there)))
      (cases_eq number base)
    where
      is : IsTenant state tenant can.entry
      is = rules.tenants tenant can.entry can.entry_is

      at_base : number ≡ base → IsTenantTable after number one
      at_base same =
          let found : Some table ≡ Some one = sym (changed_there can.entry.tables base table can.table can.table_is) ∙ sym (ap (slice_get entry.tables) same) ∙ there in
          let own : table ≡ one = cc in
          subst (λ n. IsTenantTable after n one) (sym same) (subst (IsTenantTable after base) own table_is)

  pub extend_keeps : IsCatalogue (stepped state (Extend tenant name))
  extend_keeps =
      let is = rules.tenants tenant can.entry can.entry_is in
      let size = put.len_put state tenant entry ∙ ap (λ o. cond (is_some o) (finite.len state.tenants) (finite.len state.tenants + 1)) can.entry_is in
      let few = rules.few_tenants in
      let total = quotas_put state tenant entry in
      let own = ap quota_of can.entry_is in
      let sum = rules.quotas in
      subst IsCatalogue (sym (stepped_is state rules tenant name can))
      (put.put_keeps state rules tenant entry (record {
        number_from = is.number_from;
        number_upto = is.number_upto;
        quota_from = is.quota_from;
        quota_upto = is.quota_upto;
        each_base = length-set can.entry.tables base table ∙ is.each_base;
        tables = tables_are;
      }) (omega (arith, few, size)) (omega (arith, total, own, sum)))
