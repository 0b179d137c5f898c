use Rattle.std.proofs.Common.{◌≡◌, ◌+◌, ◌-◌, suc, ◌∙◌, arith}
use Rattle.mt_places.proofs.Pages.{positions-next}
use Rattle.mt_places.proofs.walk.page_positions.Goals as goal

pub loop-number-preserved : goal.loop-number-preserved
loop-number-preserved c =
    let number = c.loop-number.number in
    let left = c.slots_per_page-count.result - number in
    let more = c.slots_per_page-count.result - (number + 1) in
    let fewer : left ≡ suc more = omega arith in
    positions-next c.slot_width-width.result c.args.page number left more c.loop-number.positions.items _ _ fewer c.slot_position.ensures c.in_ok-push.ensures.items ∙ c.loop-number.invariant
