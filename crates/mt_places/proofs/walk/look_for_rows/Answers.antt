use Rattle.std.proofs.Common.{◌≡◌, ℕ, ◌+◌, ◌-◌, ◌/◌, suc, Some, sym, ap, ◌∙◌, arith}
use Rattle.mt_rowfile.proofs.Counting.{behind_head, room_for_all, room_for_others}
use Rattle.mt_tables.specs.Plan.{sought, with_place}
use Rattle.mt_tables.specs.Rows.{row_with}
use Rattle.mt_places.proofs.Pages.{slots-begin, sought-next, within_page}
use Rattle.mt_places.proofs.walk.look_for_rows.Goals as goal

pub slot_position-position-requires-clause-within : goal.slot_position-position-requires-clause-within
slot_position-position-requires-clause-within c =
    let many = c.slots_per_page-count.ensures ∙ ap (λ (width : ℕ). 4088 / width) (sym c.slot_width-width.ensures.width) in
    within_page c.slot_width-width.result c.slots_per_page-count.result c.loop-number.number many c.loop-number-test.true

pub loop-number-init : goal.loop-number-init
loop-number-init c =
    let page = c.args.bytes.now in
    let rest = behind_head page c.told-bytes in
    let wide = c.slot_width-width.ensures.width in
    let many = c.slots_per_page-count.ensures in
    record {
      room = room_for_all page _ _ _ c.told-bytes rest (many ∙ ap (λ (width : ℕ). 4088 / width) (sym wide));
      found = ap (λ slots. sought (row_with (Some c.args.layout.now)) slots c.args.rows.now) (slots-begin c.args.layout.now c.args.table c.args.page page _ _ _ rest wide many);
    }

pub loop-number-preserved : goal.loop-number-preserved
loop-number-preserved c =
    let width = c.slot_width-width.result in
    let number = c.loop-number.number in
    let left = c.slots_per_page-count.result - number in
    let more = c.slots_per_page-count.result - (number + 1) in
    let fewer : left ≡ suc more = omega arith in
    let before = c.loop-number.invariant in
    let parts = c.split_at.ensures in
    let looked = c.look_for_row.ensures ∙ ap (λ (position : ℕ). with_place (row_with (Some c.args.layout.now) (c.args.table, c.split_at.result.0.now)) position c.loop-number.rows) c.slot_position-position.ensures in
    record {
      room = room_for_others width left more _ _ fewer before.room parts.back_len;
      found = sought-next (row_with (Some c.args.layout.now)) width c.args.table c.args.page number left more c.loop-number.rest.now c.split_at.result.0.now c.split_at.result.1.now c.loop-number.rows c.look_for_row.new.rows fewer parts.front parts.back looked ∙ before.found;
    }

pub returns : goal.returns
returns c =
    let none : c.slots_per_page-count.result - c.loop-number.number ≡ 0 = omega arith in
    rw none at c.loop-number.invariant.found
