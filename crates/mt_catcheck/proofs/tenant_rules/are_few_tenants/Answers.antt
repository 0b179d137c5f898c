-- Few entries are few tenants.
use Rattle.std.proofs.Common.{◌≡◌, ℕ, List, ap}
use Rattle.std.specs.FinMap as finite
use Rattle.std.proofs.lemmas.Bool.Decides.{Decides-like}
use Rattle.mt_catalog.specs.declared.state.TenantEntry.{TenantEntry}
use Rattle.mt_catalog.specs.State.{State}
use Rattle.mt_catcheck.proofs.Judged.{few_tenants}
use Rattle.mt_catcheck.proofs.tenant_rules.are_few_tenants.Goals as goal

pub returns : goal.returns
returns c =
    let state : State = c.args.catalog.now in
    let es : List (ℕ × TenantEntry) = c.catalog.inside.tenants.entries in
    let is : finite.from_entries es ≡ state.tenants = ap (λ (of : State). of.tenants) c.catalog.view_is in
    let few = few_tenants state es is c.are_few.ensures.unique in
    Decides-like c.are_few.result few.0 few.1 c.are_few.ensures.fit
