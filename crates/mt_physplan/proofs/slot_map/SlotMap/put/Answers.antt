use Rattle.std.proofs.Common.{◌≡◌, refl, ◌∙◌, ap}
use Rattle.std.specs.FinMap as finite
use Rattle.mt_physplan.specs.Keys.{key_cmp}
use Rattle.mt_physplan.specs.Keys.{key_in, cell_of}
use Rattle.mt_physplan.proofs.Keys.{keys_exact, keys_total}
use Rattle.mt_physplan.proofs.Maps.{one_put}
use Rattle.mt_physplan.proofs.slot_map.SlotMap.put.Goals as goal

pub returns-clause-ok : goal.returns-clause-ok
returns-clause-ok c =
    one_put key_cmp keys_total keys_exact c.self.inside.slots.entries c.insert.new.self.entries (key_in c.args.table c.args.slot) (cell_of c.args.slot) c.in_ok-insert.ensures.updates.0
    ∙ ap (λ m. finite.insert m (key_in c.args.table c.args.slot) (cell_of c.args.slot)) c.self.view_is
