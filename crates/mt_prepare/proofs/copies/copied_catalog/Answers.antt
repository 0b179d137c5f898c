-- By its parts.
use Rattle.std.proofs.Common.{◌≡◌, ℕ, List, ap, ◌∙◌}
use Rattle.std.specs.FinMap as finite
use Rattle.mt_catalog.specs.declared.state.TenantEntry.{TenantEntry}
use Rattle.mt_catalog.specs.State.{State}
use Rattle.mt_prepare.proofs.Copied.{entries_stay, same_state}
use Rattle.mt_prepare.proofs.copies.copied_catalog.Goals as goal

pub returns : goal.returns
returns c =
    let state : State = c.args.catalog.now in
    let bases : c.in_ok-copied_list.field-0 ≡ state.bases = c.in_ok-copied_list.ensures ∙ c.as_slice.ensures ∙ ap (λ (of : State). of.bases) c.catalog.view_is in
    let extensions : c.in_ok-copied_list-2.field-0 ≡ state.extensions = c.in_ok-copied_list-2.ensures ∙ c.as_slice-2.ensures ∙ ap (λ (of : State). of.extensions) c.catalog.view_is in
    let tenants : finite.from_entries c.in_ok-tenants_with.field-0.entries ≡ state.tenants =
    ap (λ (of : List (ℕ × TenantEntry)). finite.from_entries of) (c.in_ok-tenants_with.ensures ∙ entries_stay c.catalog.inside.tenants.entries) ∙ ap (λ (of : State). of.tenants) c.catalog.view_is in
    same_state _ state bases extensions tenants
