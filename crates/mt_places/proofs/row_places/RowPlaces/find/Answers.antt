use Rattle.std.proofs.Common.{sym, ap, ◌∙◌}
use Rattle.std.specs.FinMap as finite
use Rattle.mt_physplan.proofs.Keys.{keys_exact, keys_total}
use Rattle.mt_places.proofs.Asked.{get-entries_of}
use Rattle.mt_places.proofs.row_places.RowPlaces.find.Goals as goal

pub returns : goal.returns
returns c =
    c.copied.ensures ∙ c.get.ensures.value
    ∙ sym (get-entries_of keys_total keys_exact c.self.inside.places.entries c.args.key.now)
    ∙ ap (λ m. finite.get m c.args.key.now) c.self.view_is
