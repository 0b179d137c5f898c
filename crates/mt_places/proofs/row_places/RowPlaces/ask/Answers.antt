use Rattle.std.proofs.Common.{None, sym, ap, ◌∙◌}
use Rattle.std.specs.FinMap as finite
use Rattle.mt_physplan.specs.Keys.{key_cmp}
use Rattle.mt_physplan.proofs.Keys.{keys_exact, keys_total}
use Rattle.mt_physplan.proofs.Maps.{one_put}
use Rattle.mt_places.specs.Held.{asking_one}
use Rattle.mt_places.proofs.row_places.RowPlaces.ask.Goals as goal

pub returns-in_ok-insert : goal.returns-in_ok-insert
returns-in_ok-insert c =
    one_put key_cmp keys_total keys_exact c.self.inside.places.entries c.insert.new.self.entries c.in-Some.key None c.in_ok-insert.ensures.updates.0
    ∙ ap (λ m. finite.insert m c.in-Some.key None) c.self.view_is
    ∙ ap (λ key. asking_one key c.args.self.now) (sym c.in-Some.is)
