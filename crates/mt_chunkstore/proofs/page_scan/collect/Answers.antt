-- One slot after another.
use Rattle.std.proofs.Common.{◌≡◌, ℕ, suc, ◌+◌, ◌-◌, ◌/◌, map, filter_map, All, sym, ap, ◌∙◌, subst, rules, arith}
use Rattle.mt_physplan.specs.Content.{in_scan}
use Rattle.mt_rowfile.specs.Slots.{IsSlot}
use Rattle.mt_rowfile.proofs.Counting.{behind_head, room_for_all, room_for_others}
use Rattle.mt_tables.specs.Rows.{row_in}
use Rattle.mt_tables.specs.Tables.{passing, with_entries}
use Rattle.mt_chunkstore.proofs.Slots.{all_slots, first_fits, first_left, no_more, others_left, slot_passed}
use Rattle.mt_chunkstore.proofs.page_scan.collect.Goals as goal

pub loop-i-init : goal.loop-i-init
loop-i-init c =
    let page = c.args.page.now in
    let rest = behind_head page c.told-page in
    let wide = c.slot_width-width.ensures.width in
    let many = c.slots_per_page-count.ensures in
    let all = all_slots c.args.layout.now page _ _ _ rest wide many in
    record {
      room = room_for_all page _ _ _ c.told-page rest (many ∙ ap (λ (width : ℕ). 4088 / width) (sym wide));
      found = λ known is. ap (λ slots. with_entries (passing (in_scan c.args.scan.now) (filter_map (row_in known) (map (λ bytes. (c.args.scan.now.table, bytes)) slots))) c.args.found.now) all;
      sound = λ sound. subst (All (IsSlot c.args.layout.now)) (sym all) sound;
    }

pub split_at-requires : goal.split_at-requires
split_at-requires c = first_fits c.slot_width-width.result (c.slots_per_page-count.result - c.loop-i._i) _ (omega arith) c.loop-i.invariant.room

pub loop-i-preserved : goal.loop-i-preserved
loop-i-preserved c =
    let left = c.slots_per_page-count.result - c.loop-i._i in
    let more = c.slots_per_page-count.result - (c.loop-i._i + 1) in
    let fewer : left ≡ suc more = omega arith in
    let before = c.loop-i.invariant in
    let parts = c.split_at.ensures in
    record {
      room = room_for_others c.slot_width-width.result left more _ _ fewer before.room parts.back_len;
      found = λ known is. slot_passed (row_in known) (in_scan c.args.scan.now) c.args.scan.now.table c.slot_width-width.result left more _ _ _ c.loop-i.found c.collect_slot.new.found _ fewer parts.front parts.back (before.found known is) (c.in_ok-collect_slot.ensures.ok known is);
      sound = λ sound. others_left (IsSlot c.args.layout.now) c.slot_width-width.result left more _ _ fewer parts.back (before.sound sound);
    }

pub returns-in_err-collect_slot-clause-disk : goal.returns-in_err-collect_slot-clause-disk
returns-in_err-collect_slot-clause-disk c = λ disk sound.
    let left = c.slots_per_page-count.result - c.loop-i._i in
    let more = c.slots_per_page-count.result - (c.loop-i._i + 1) in
    let fewer : left ≡ suc more = omega arith in
    c.in_err-collect_slot.ensures.disk (search rules) (first_left (IsSlot c.args.layout.now) c.slot_width-width.result left more _ _ fewer c.split_at.ensures.front (c.loop-i.invariant.sound sound))

pub returns-clause-ok : goal.returns-clause-ok
returns-clause-ok c = λ known is.
    let none : c.slots_per_page-count.result - c.loop-i._i ≡ 0 = omega arith in
    no_more (row_in known) (in_scan c.args.scan.now) c.args.scan.now.table c.slot_width-width.result (c.slots_per_page-count.result - c.loop-i._i) _ c.loop-i.found _ none (c.loop-i.invariant.found known is)
