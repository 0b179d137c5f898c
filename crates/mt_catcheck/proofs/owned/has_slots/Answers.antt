-- The first of what is left is one that the catalogue has.
use Rattle.std.proofs.Common.{◌≡◌, ◌∷◌, refl}
use Rattle.std.specs.Map.Iter.{deref}
use Rattle.std.proofs.lemmas.Map.Iter.{rest_more}
use Rattle.mt_catalog.specs.Slots.{HasSlot}
use Rattle.mt_catalog.proofs.Tested.{rest_decides}
use Rattle.mt_catcheck.proofs.owned.has_slots.Goals as goal

pub loop-slot-preserved : goal.loop-slot-preserved
loop-slot-preserved c =
    let first : c.loop-slot.slot-iterator ≡ c.in-Some.slot.now ∷ c.next.new.self = rest_more deref c.loop-slot.slot-iterator c.next.new.self c.next.result c.in-Some.slot c.in-Some.is c.next.ensures.steps in
    rest_decides (HasSlot c.args.catalog.now) c.loop-slot.slot-iterator c.next.new.self c.in-Some.slot.now first (c.if-not-has_slot.ensures.0 refl) c.loop-slot.invariant
