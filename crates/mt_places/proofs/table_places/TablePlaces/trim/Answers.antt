use Rattle.std.proofs.Common.{drop, ap, ◌∙◌}
use Rattle.std.proofs.lemmas.List.{drop-take}
use Rattle.mt_places.specs.Held.{trimmed}
use Rattle.mt_places.proofs.table_places.TablePlaces.trim.Goals as goal

pub returns-then-len-self : goal.returns-then-len-self
returns-then-len-self c =
    let it = c.self.inside in
    ap (λ free. record { named = it.named; wanted = it.wanted; free = free }) (ap (drop it.next) c.truncate.ensures.items ∙ drop-take it.next it.wanted it.positions.items)
    ∙ ap trimmed c.self.view_is
