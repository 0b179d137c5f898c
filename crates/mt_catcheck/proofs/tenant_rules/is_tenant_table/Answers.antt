-- By the columns and the numbers that were asked.
use Rattle.std.proofs.Common.{◌≡◌, ℕ, List, length, ap, ◌∙◌}
use Rattle.std.specs.Prelude.{slice_get}
use Rattle.std.proofs.lemmas.Bool.Decides.{Decides-like}
use Rattle.mt_tree.specs.declared.schema.Column.{Column}
use Rattle.mt_tree.specs.declared.schema.Table.{Table}
use Rattle.mt_catalog.specs.State.{State, base_columns, extended_columns}
use Rattle.mt_catcheck.proofs.Judged.{table_kept}
use Rattle.mt_catcheck.proofs.tenant_rules.is_tenant_table.Goals as goal

pub returns : goal.returns
returns c =
    let state : State = c.args.catalog.now in
    let columns_are : c.in_ok-columns.columns ≡ extended_columns state c.args.base c.args.table.now.extended = c.in_ok-columns.ensures ∙ ap (λ (numbers : List ℕ). extended_columns state c.args.base numbers) c.as_slice.ensures in
    let bases_are : c.as_slice-2.result.now ≡ state.bases = c.as_slice-2.ensures ∙ ap (λ (of : State). of.bases) c.catalog.view_is in
    let base_is : c.base_columns-base_len.result.now ≡ base_columns (slice_get state.bases c.args.base) = c.base_columns-base_len.ensures ∙ ap (λ (of : List Table). base_columns (slice_get of c.args.base)) bases_are in
    let len_is : length c.base_columns-base_len.result.now ≡ length (base_columns (slice_get state.bases c.args.base)) = ap (λ (of : List Column). length of) base_is in
    let extensions_are : c.as_slice-extensions.result.now ≡ state.extensions = c.as_slice-extensions.ensures ∙ ap (λ (of : State). of.extensions) c.catalog.view_is in
    let same = table_kept state c.args.base (length c.base_columns-base_len.result.now) c.args.table.now c.in_ok-columns.columns c.as_slice-extensions.result.now columns_are len_is extensions_are in
    Decides-like c.are_kept.result same.0 same.1 c.are_kept.ensures
