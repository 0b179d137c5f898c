-- By its parts.
use Rattle.std.proofs.Common.{◌≡◌, ℕ, List, [], ◌∷◌, ◌++◌, ap, ◌∙◌}
use Rattle.std.specs.FinMap as finite
use Rattle.mt_tree.specs.declared.schema.Table.{Table}
use Rattle.mt_catalog.specs.declared.state.TenantEntry.{TenantEntry}
use Rattle.mt_catalog.specs.State.{State}
use Rattle.mt_prepare.specs.Copies.{with_new_tables}
use Rattle.mt_schema.specs.Steps.{in_each, with_new_table}
use Rattle.mt_prepare.proofs.Copied.{changed, each_changed, same_state}
use Rattle.mt_prepare.proofs.steps.with_base.Goals as goal

pub returns : goal.returns
returns c =
    let state : State = c.args.catalog.now in
    let table : Table = c.args.table in
    let es : List (ℕ × TenantEntry) = c.catalog.inside.tenants.entries in
    let bases : c.bases.inside.items.items ≡ state.bases ++ table ∷ [] =
    c.bases.view_is ∙ c.in_ok-push.ensures.ok ∙ ap (λ (of : List Table). of ++ table ∷ []) (c.in_ok-bases.ensures ∙ c.as_slice.ensures ∙ ap (λ (of : State). of.bases) c.catalog.view_is) in
    let extensions : c.in_ok-copied_list.field-0 ≡ state.extensions = c.in_ok-copied_list.ensures ∙ c.as_slice-2.ensures ∙ ap (λ (of : State). of.extensions) c.catalog.view_is in
    let tenants : finite.from_entries c.in_ok-tenants.tenants.entries ≡ in_each (with_new_table table) state.tenants =
    ap (λ (of : List (ℕ × TenantEntry)). finite.from_entries of) (c.in_ok-tenants.ensures ∙ ap (λ (of : List Table). changed (with_new_tables of) es) c.from_ref.ensures.value)
    ∙ each_changed (with_new_table table) es ∙ ap (λ (of : State). in_each (with_new_table table) of.tenants) c.catalog.view_is in
    same_state _ (record { bases = state.bases ++ table ∷ []; extensions = state.extensions; tenants = in_each (with_new_table table) state.tenants }) bases extensions tenants
