-- The numbers of the tenants are the keys of the map.
use Rattle.std.proofs.Common.{◌≡◌, ℕ, List, ◌∷◌, ◌++◌, length, map, ap, ◌∙◌}
use Rattle.std.specs.FinMap as finite
use Rattle.std.specs.Map.{keys_of}
use Rattle.mt_catslot.specs.declared.slot.Class.TheVariants as classes
use Rattle.mt_catslot.specs.declared.slot.CatKey.{CatKey}
use Rattle.mt_catslot.specs.declared.slot.CatKey.TheVariants as keys
use Rattle.mt_catalog.specs.declared.state.TenantEntry.{TenantEntry}
use Rattle.mt_catalog.specs.State.{State}
use Rattle.mt_schema.specs.Changed.{column_keys}
use Rattle.mt_prepare.proofs.Tenants.{listed_tenants}
use Rattle.mt_prepare.proofs.changed.table_keys.Goals as goal

pub returns : goal.returns
returns c =
    let state : State = c.args.catalog.now in
    let entries : List (ℕ × TenantEntry) = c.catalog.inside.tenants.entries in
    let number : ℕ = c.len-number.result in
    let is : finite.from_entries entries ≡ state.tenants = ap (λ (of : State). of.tenants) c.catalog.view_is in
    let number_is : number ≡ length state.bases = c.len-number.ensures ∙ ap (λ (of : State). length of.bases) c.catalog.view_is in (
      keys_of entries,
      listed_tenants state entries is c.in_ok-add_tables.ensures.once,
      c.in_ok-add_tables.ensures.ok ∙ ap (λ (of : List CatKey). of ++ map (λ tenant. keys.Placement tenant number) (keys_of entries)) c.in_ok-changed.ensures
          ∙ ap (λ (n : ℕ). keys.Relation classes.BaseTable n ∷ (column_keys classes.BaseTable n c.args.columns ++ map (λ tenant. keys.Placement tenant n) (keys_of entries))) number_is,
    )
