use Rattle.std.proofs.Common.{◌≡◌, ℕ, ◌+◌, ◌-◌, ◌/◌, suc, sym, ap, ◌∙◌, arith}
use Rattle.mt_rowfile.proofs.Counting.{behind_head, free_counted, none_counted, room_for_all, room_for_others, used_passed}
use Rattle.mt_rowfile.proofs.page.free_slots.Goals as goal
use Rattle.mt_rowfile.proofs.page.free_slots.Goals.{then-slot-eq-FREE, else-slot-eq-FREE}

pub loop-i-init : goal.loop-i-init
loop-i-init c =
    let page = c.args.page.now in
    let rest = behind_head page c.told-page in
    let wide = c.slot_width-width.ensures.width in
    let many = c.slots_per_page-count.ensures in
    record {
      room = room_for_all page _ _ _ c.told-page rest (many ∙ ap (λ (width : ℕ). 4088 / width) (sym wide));
      few = omega arith;
      counted = none_counted c.args.layout.now page _ _ _ rest wide many;
    }

pub loop-i-preserved : goal.loop-i-preserved
loop-i-preserved c =
    let width = c.slot_width-width.result in
    let left = c.slots_per_page-count.result - c.loop-i._i in
    let more = c.slots_per_page-count.result - (c.loop-i._i + 1) in
    let fewer : left ≡ suc more = omega arith in
    let before = c.loop-i.invariant in
    let parts = c.split_at.ensures in
    let room = room_for_others width left more _ _ fewer before.room parts.back_len in
    elim c.if-slot-eq-FREE.branch [
      | then-slot-eq-FREE w ↦
          let counted = free_counted width left more c.loop-i.free _ _ _ fewer parts.front parts.back w.if-slot-eq-FREE.true in
          record { room = room; few = omega arith; counted = rw w.free-is (counted ∙ before.counted) }
      | else-slot-eq-FREE w ↦
          let passed = used_passed width left more c.loop-i.free _ _ _ fewer parts.front parts.back w.if-slot-eq-FREE.false in
          record { room = room; few = omega arith; counted = rw w.free-is (passed ∙ before.counted) }
    ]

pub returns : goal.returns
returns c =
    let none : c.slots_per_page-count.result - c.loop-i._i ≡ 0 = omega arith in
    let counted = rw none at c.loop-i.invariant.counted in
    omega arith
