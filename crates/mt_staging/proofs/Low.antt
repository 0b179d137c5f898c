-- Slots of the pages lie below the end of what pages there may be.
use Rattle.std.proofs.Common.{◌≡◌, ℕ, zero, suc, ◌+◌, ◌-◌, ◌*◌, ◌^◌, ◌<◌, ◌≤◌, List, length, get_or, Option, sym, ap, subst, arith}
use Rattle.mt_journal.specs.Layout.{Area}
use Rattle.mt_tables.specs.Pages.{AreSlotSizes, SlotPlace, SlotSizes, places_below}
use Rattle.mt_tables.specs.Plan.{Says}
use Rattle.mt_tables.specs.Tables.{TableSlot}
use Rattle.mt_tables.proofs.Places.{AllUpto, end_of, pages_high, upto_get_or}

pub place_low : {K V : Type 0} (sizes : SlotSizes) (sound : AreSlotSizes sizes) (read : TableSlot → Option (K × V)) (count : ℕ) (area : Area) (place : SlotPlace) (entry : Option (K × V)) → count ≤ 2 ^ 28 → Says sizes read count area place entry
    → place.position + sizes.width place.table ≤ 2 ^ 40
place_low sizes sound read count area place entry few says =
    let high : AllUpto sizes (4096 * (count - 1 + 1)) (places_below sizes count area) = pages_high sizes sound area (count - 1 + 1) 1 (count - 1) (omega arith) in
    let end : end_of sizes (get_or (places_below sizes count area) says.number place) ≤ 4096 * (count - 1 + 1) = upto_get_or sizes (4096 * (count - 1 + 1)) (places_below sizes count area) says.number place high says.within in
    let here : end_of sizes place ≤ 4096 * (count - 1 + 1) = subst (λ p. end_of sizes p ≤ 4096 * (count - 1 + 1)) (says.stands place) end in
    omega (arith, here, few)
