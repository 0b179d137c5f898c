use Rattle.std.proofs.Common.{◌≡◌, ℕ, true, false, List, [], ◌∷◌, ◌+◌, ◌-◌, ◌/◌, suc, sym, ap, ◌∙◌, arith}
use Rattle.std.proofs.lemmas.Bool.{eq-eqb, ne_eqb}
use Rattle.mt_rowfile.proofs.Counting.{behind_head, room_for_all, room_for_others}
use Rattle.mt_tables.specs.Pages.{slot_position}
use Rattle.mt_tables.specs.Plan.{free_in}
use Rattle.mt_places.specs.Held.{offered}
use Rattle.mt_places.specs.Walked.{slots_from}
use Rattle.mt_places.proofs.Listed.{few-offered, offered-next, offered-none}
use Rattle.mt_places.proofs.Pages.{free-next, slots-begin, within_page}
use Rattle.mt_places.proofs.walk.offer_free.Goals as goal
use Rattle.mt_places.proofs.walk.offer_free.Goals.{then-slot-eq-FREE+in_ok-offer, else-slot-eq-FREE}

pub slot_position-requires-clause-within : goal.slot_position-requires-clause-within
slot_position-requires-clause-within c =
    let many = c.slots_per_page-count.ensures ∙ ap (λ (width : ℕ). 4088 / width) (sym c.slot_width-width.ensures.width) in
    within_page c.slot_width-width.result c.slots_per_page-count.result c.loop-number.number many c.loop-number-test.true

pub loop-number-init : goal.loop-number-init
loop-number-init c =
    let page = c.args.bytes.now in
    let rest = behind_head page c.told-bytes in
    let wide = c.slot_width-width.ensures.width in
    let many = c.slots_per_page-count.ensures in
    record {
      room = room_for_all page _ _ _ c.told-bytes rest (many ∙ ap (λ (width : ℕ). 4088 / width) (sym wide));
      few = c.requires.few;
      found = λ table. ap (λ slots. offered (free_in table slots) c.args.places.now) (slots-begin c.args.layout.now table c.args.page page _ _ _ rest wide many);
    }

pub loop-number-preserved : goal.loop-number-preserved
loop-number-preserved c =
    let width = c.slot_width-width.result in
    let number = c.loop-number.number in
    let left = c.slots_per_page-count.result - number in
    let more = c.slots_per_page-count.result - (number + 1) in
    let fewer : left ≡ suc more = omega arith in
    let before = c.loop-number.invariant in
    let parts = c.split_at.ensures in
    let old = c.loop-number.places in
    let room = room_for_others width left more _ _ fewer before.room parts.back_len in
    let others : ℕ → List ℕ = λ table. free_in table (slots_from width table c.args.page (number + 1) more c.split_at.result.1.now) in
    let next = λ (table : ℕ). free-next width table c.args.page number left more c.loop-number.rest.now c.split_at.result.0.now c.split_at.result.1.now in
    elim c.if-slot-eq-FREE.branch [
      | then-slot-eq-FREE+in_ok-offer w ↦
          let position = slot_position width c.args.page number in
          let now : c.if-slot-eq-FREE.places ≡ offered (position ∷ []) old = w.places-is ∙ w.in_ok-offer.ensures ∙ ap (λ (p : ℕ). offered (p ∷ []) old) w.slot_position.ensures in
          record {
            room = room;
            few = rw now (few-offered (position ∷ []) old);
            found = λ table. ap (offered (others table)) now ∙ offered-next position (others table) old
                ∙ ap (λ positions. offered positions old) (sym (next table true fewer parts.front parts.back (eq-eqb _ _ w.if-slot-eq-FREE.true))) ∙ before.found table;
          }
      | else-slot-eq-FREE w ↦ record {
        room = room;
        few = rw w.places-is before.few;
        found = λ table. ap (offered (others table)) w.places-is ∙ ap (λ positions. offered positions old) (sym (next table false fewer parts.front parts.back (ne_eqb _ _ w.if-slot-eq-FREE.false))) ∙ before.found table;
      }
    ]

pub returns : goal.returns
returns c =
    let none : c.slots_per_page-count.result - c.loop-number.number ≡ 0 = omega arith in
    λ table. sym (offered-none c.loop-number.places c.loop-number.invariant.few) ∙ (rw none at c.loop-number.invariant.found table)
