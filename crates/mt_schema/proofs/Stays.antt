-- What keeps the rules in one catalogue keeps them in another with the same base tables and extensions
-- where it names them.
use Rattle.std.proofs.Common.{◌≡◌, ℕ, ◌≤◌, List, [], ◌∷◌, ◌++◌, length, Some, refl, sym, ap, ◌∙◌, subst, arith}
use Rattle.std.specs.Prelude.{All, flat_map, slice_get}
use Rattle.std.proofs.lemmas.List.Elements.{All-head, All-tail, All-weaker}
use Rattle.mt_fold.specs.Placements.{IsValidPlacement}
use Rattle.mt_catalog.specs.declared.state.Extension.{Extension}
use Rattle.mt_catalog.specs.declared.state.TenantEntry.{TenantEntry}
use Rattle.mt_catalog.specs.declared.state.TenantTable.{TenantTable}
use Rattle.mt_catalog.specs.State.{State, base_columns, extended_columns, extension_columns}
use Rattle.mt_catalog.specs.Rules.{AreApart, IsExtension, IsTenant, IsTenantTable, column_names}
use Rattle.mt_catalog.specs.Clauses.{Extends}

pub extension_stays : (state after : State) (extension : Extension) → slice_get after.bases extension.base ≡ slice_get state.bases extension.base → length state.bases ≤ length after.bases
    → IsExtension state extension → IsExtension after extension
extension_stays state after extension same more is =
    let within = is.base in
    record {
      name = is.name;
      base = omega (arith, within, more);
      columns = is.columns;
      plain = is.plain;
      apart = subst (λ of. AreApart (column_names (base_columns of) ++ column_names extension.columns)) (sym same) is.apart;
    }

module _ (state after : State) (base : ℕ) (same : slice_get after.bases base ≡ slice_get state.bases base)
    (stay : (number : ℕ) (extension : Extension) → slice_get state.extensions number ≡ Some extension → slice_get after.extensions number ≡ Some extension) where
  -- the columns of the extensions
  columns_behind : (numbers : List ℕ) → All (Extends state.extensions base) numbers
      → flat_map (λ number. extension_columns (slice_get after.extensions number)) numbers ≡ flat_map (λ number. extension_columns (slice_get state.extensions number)) numbers
  columns_behind [] all = refl
  columns_behind (number ∷ numbers) all =
      let there = All-head (Extends state.extensions base) number numbers all in
      let one = ap extension_columns (stay number there.0 there.1 ∙ sym there.1) in
      ap (λ columns. columns ++ flat_map (λ n. extension_columns (slice_get after.extensions n)) numbers) one
      ∙ ap (λ columns. extension_columns (slice_get state.extensions number) ++ columns) (columns_behind numbers (All-tail (Extends state.extensions base) number numbers all))

  pub columns_stay : (numbers : List ℕ) → All (Extends state.extensions base) numbers → extended_columns after base numbers ≡ extended_columns state base numbers
  columns_stay numbers all =
      ap (λ of. base_columns of ++ flat_map (λ number. extension_columns (slice_get after.extensions number)) numbers) same
      ∙ ap (λ columns. base_columns (slice_get state.bases base) ++ columns) (columns_behind numbers all)

  pub extends_stay : (number : ℕ) → Extends state.extensions base number → Extends after.extensions base number
  extends_stay number there = (there.0, stay number there.0 there.1, there.2)

  pub table_stays : (table : TenantTable) → IsTenantTable state base table → IsTenantTable after base table
  table_stays table is =
      let columns = columns_stay table.extended is.extended in
      record {
        made = is.made;
        extended = All-weaker (Extends state.extensions base) (Extends after.extensions base) extends_stay table.extended is.extended;
        few = subst (λ of. length of ≤ 32) (sym columns) is.few;
        apart = subst (λ of. AreApart (column_names of)) (sym columns) is.apart;
        placement = subst (λ of. IsValidPlacement table.placement of (length (base_columns (slice_get after.bases base)))) (sym columns)
            (subst (λ of. IsValidPlacement table.placement (extended_columns state base table.extended) (length (base_columns of))) (sym same) is.placement);
        moves = is.moves;
      }

-- a tenant stays where the base tables do, and the extensions that there are
pub tenant_stays : (state after : State) → length after.bases ≡ length state.bases → ((base : ℕ) → slice_get after.bases base ≡ slice_get state.bases base)
    → ((number : ℕ) (extension : Extension) → slice_get state.extensions number ≡ Some extension → slice_get after.extensions number ≡ Some extension)
    → (tenant : ℕ) (entry : TenantEntry) → IsTenant state tenant entry → IsTenant after tenant entry
tenant_stays state after size same stay tenant entry is = record {
  number_from = is.number_from;
  number_upto = is.number_upto;
  quota_from = is.quota_from;
  quota_upto = is.quota_upto;
  each_base = is.each_base ∙ sym size;
  tables = λ base table there. table_stays state after base (same base) stay table (is.tables base table there);
}
