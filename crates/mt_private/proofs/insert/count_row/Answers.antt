-- What is kept of the tenant is written back in its place.
use Rattle.std.proofs.Common.{◌≡◌, rules, Option, Some, None, IsSome, sym, ap, ◌∙◌, subst}
use Rattle.std.specs.FinMap as finite
use Rattle.mt_catalog.specs.declared.state.TenantEntry.{TenantEntry}
use Rattle.mt_catalog.specs.State.{State, table_in}
use Rattle.mt_catalog.proofs.Numbered.{got_looked}
use Rattle.mt_schema.specs.Steps.{with_table}
use Rattle.mt_prepare.proofs.Copied.{entry_put, same_state}
use Rattle.mt_schema.proofs.Put.{put_tenant}
use Rattle.mt_model.specs.Parts.{one_more_made}
use Rattle.mt_private.proofs.Made.{made_nowhere, made_there}
use Rattle.mt_private.proofs.insert.count_row.Goals as goal
use Rattle.mt_private.proofs.insert.count_row.Goals.{in-Some, in_default}

pub count_in-requires : goal.count_in-requires
count_in-requires c =
    let there : finite.get c.args.catalog.now.tenants c.args.tenant ≡ Some c.in-Some.entry.now =
    sym (c.in-Some.ensures.value ∙ sym (got_looked c.catalog.inside.tenants.entries c.args.tenant) ∙ ap (λ (of : State). finite.get of.tenants c.args.tenant) c.catalog.view_is) in
    λ table e. c.requires table (ap (table_in c.args.base) there ∙ e)

pub returns : goal.returns
returns c = elim c.match-get_mut.branch [
  | in-Some w ↦
      let state : State = c.args.catalog.now in
      let old = c.catalog.inside.tenants in
      let changed : TenantEntry = with_table c.args.base one_more_made w.in-Some.entry.now in
      let there : finite.get state.tenants c.args.tenant ≡ Some w.in-Some.entry.now =
      sym (w.in-Some.ensures.value ∙ sym (got_looked old.entries c.args.tenant) ∙ ap (λ (of : State). finite.get of.tenants c.args.tenant) c.catalog.view_is) in
      let written = c.get_mut.follows.holds w.count_in.new.entry in
      let some : IsSome _ = subst (λ (o : Option TenantEntry). IsSome o) w.in-Some.ensures.value (search rules) in
      let looked = (written.3 some).0 in
      let tenants =
      entry_put old.entries (c.get_mut.follows.lender w.count_in.new.entry).entries c.args.tenant w.count_in.new.entry looked
      ∙ ap (finite.insert (finite.from_entries old.entries) c.args.tenant) w.count_in.ensures
      ∙ ap (λ (of : State). finite.insert of.tenants c.args.tenant changed) c.catalog.view_is in
      ap (λ inside. record { bases = inside.bases; extensions = inside.extensions; tenants = finite.from_entries inside.tenants.entries }) w.catalog-inside-is
      ∙ same_state _ (put_tenant state c.args.tenant changed) (ap (λ (of : State). of.bases) c.catalog.view_is) (ap (λ (of : State). of.extensions) c.catalog.view_is) tenants
      ∙ sym (made_there state c.args.tenant c.args.base w.in-Some.entry.now there)
  | in_default w ↦
      let state : State = c.args.catalog.now in
      let old = c.catalog.inside.tenants in
      let none : finite.get state.tenants c.args.tenant ≡ None =
      sym (w.in_default.ensures.value ∙ sym (got_looked old.entries c.args.tenant) ∙ ap (λ (of : State). finite.get of.tenants c.args.tenant) c.catalog.view_is) in
      let tenants = ap (λ map. finite.from_entries map.entries) c.get_mut.follows.holds-at-none ∙ ap (λ (of : State). of.tenants) c.catalog.view_is in
      ap (λ inside. record { bases = inside.bases; extensions = inside.extensions; tenants = finite.from_entries inside.tenants.entries }) w.catalog-inside-is
      ∙ same_state _ state (ap (λ (of : State). of.bases) c.catalog.view_is) (ap (λ (of : State). of.extensions) c.catalog.view_is) tenants
      ∙ sym (made_nowhere state c.args.tenant c.args.base none)
]
