-- By its parts.
use Rattle.std.proofs.Common.{◌≡◌, ℕ, List, ap, ◌∙◌}
use Rattle.std.specs.FinMap as finite
use Rattle.mt_catalog.specs.declared.state.TenantEntry.{TenantEntry}
use Rattle.mt_catalog.specs.State.{State}
use Rattle.mt_prepare.proofs.Copied.{entries_stay, entry_put, same_state}
use Rattle.mt_schema.proofs.Put.{put_tenant}
use Rattle.mt_prepare.proofs.steps.with_tenant.Goals as goal

pub returns : goal.returns
returns c =
    let state : State = c.args.catalog.now in
    let bases : c.in_ok-copied_list.field-0 ≡ state.bases = c.in_ok-copied_list.ensures ∙ c.as_slice.ensures ∙ ap (λ (of : State). of.bases) c.catalog.view_is in
    let extensions : c.in_ok-copied_list-2.field-0 ≡ state.extensions = c.in_ok-copied_list-2.ensures ∙ c.as_slice-2.ensures ∙ ap (λ (of : State). of.extensions) c.catalog.view_is in
    let tenants : finite.from_entries c.put_entry.new.tenants.entries ≡ finite.insert state.tenants c.args.tenant c.args.entry =
    entry_put c.in_ok-tenants.tenants.entries c.put_entry.new.tenants.entries c.args.tenant c.args.entry c.in_ok-put_entry.ensures.looked
    ∙ ap (λ (of : List (ℕ × TenantEntry)). finite.insert (finite.from_entries of) c.args.tenant c.args.entry) (c.in_ok-tenants.ensures ∙ entries_stay c.catalog.inside.tenants.entries)
    ∙ ap (λ (of : State). finite.insert of.tenants c.args.tenant c.args.entry) c.catalog.view_is in
    same_state _ (put_tenant state c.args.tenant c.args.entry) bases extensions tenants
