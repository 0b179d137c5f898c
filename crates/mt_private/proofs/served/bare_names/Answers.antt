-- An item that is no bare column.
use Rattle.std.proofs.Common.{◌∙◌}
use Rattle.mt_model.specs.Served.{bare_item}
use Rattle.mt_private.proofs.Found.{map-unmade}
use Rattle.mt_private.proofs.served.bare_names.Goals as goal

pub returns-in_default : goal.returns-in_default
returns-in_default c = λ names e.
    map-unmade bare_item c.loop-item.yielded c.into_iter-item-iterator.result c.loop-item.item-iterator c.next.new.self c.in-Some.item c.loop-item.yielded_by c.in-Some.ensures.steps.0
    c.in_default.ensures names (c.into_iter-item-iterator.ensures.into_iter_gives.0 ∙ c.into_vec-item-items.ensures ∙ e)
