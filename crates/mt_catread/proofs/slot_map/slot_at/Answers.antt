-- By the test of keys.
use Rattle.std.proofs.Common.{◌∙◌}
use Rattle.mt_catalog.proofs.ByKey.{derived_same, looked_up}
use Rattle.mt_catread.proofs.slot_map.slot_at.Goals as goal

pub returns : goal.returns
returns c = c.get.ensures.value ∙ looked_up _ c.args.key (derived_same c.args.key) c.args.slots.now.entries
