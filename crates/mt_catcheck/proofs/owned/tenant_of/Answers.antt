-- By the map of the entries.
use Rattle.std.proofs.Common.{sym, ap, ◌∙◌}
use Rattle.std.specs.FinMap as finite
use Rattle.mt_catalog.specs.State.{State}
use Rattle.mt_catalog.proofs.Numbered.{got_looked}
use Rattle.mt_catcheck.proofs.owned.tenant_of.Goals as goal

pub returns : goal.returns
returns c = c.get.ensures.value ∙ sym (got_looked c.catalog.inside.tenants.entries c.args.tenant) ∙ ap (λ (of : State). finite.get of.tenants c.args.tenant) c.catalog.view_is
