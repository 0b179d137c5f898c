-- By the map of the entries.
use Rattle.std.proofs.Common.{sym, ap, ◌∙◌}
use Rattle.std.specs.FinMap as finite
use Rattle.mt_catalog.specs.State.{State}
use Rattle.mt_catalog.proofs.Numbered.{as_many}
use Rattle.mt_schema.proofs.refusals.tenant_count.Goals as goal

pub returns : goal.returns
returns c = c.len.ensures.len ∙ sym (as_many c.catalog.inside.tenants.entries c.len.ensures.unique) ∙ ap (λ (of : State). finite.len of.tenants) c.catalog.view_is
