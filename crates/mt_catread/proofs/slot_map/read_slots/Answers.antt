-- The slot of one body more; a body that says none, or one with a key that stands already, is of no catalogue.
use Rattle.std.proofs.Common.{◌≡◌, ◌∙◌, ℕ, ◌<◌, ◌≤◌, All, List, [], ◌∷◌, ◌++◌, length, get_or, Some, sym, ap, subst, rules, arith}
use Rattle.std.specs.Prelude.{slice_get}
use Rattle.std.proofs.lemmas.List.{length-append}
use Rattle.std.proofs.lemmas.Option.{slice_get-get_or}
use Rattle.mt_rowfile.specs.Layouts.{body_width}
use Rattle.mt_rowfile.specs.Slots.{IsBody}
use Rattle.mt_catslot.specs.Bytes.{says}
use Rattle.mt_catslot.specs.Slots.{key_of}
use Rattle.mt_catslot.specs.declared.slot.CatKey.{CatKey}
use Rattle.mt_catslot.specs.declared.slot.CatSlot.{CatSlot}
use Rattle.mt_catread.specs.Entries.{AreKeyed}
use Rattle.mt_catread.proofs.Entries.{SaysAt, all_said, key_repeated, keyed_pushed, silent_body}
use Rattle.mt_catalog.proofs.Runs.{run_pushed}
use Rattle.mt_catread.proofs.slot_map.read_slots.Goals as goal

-- what holds of all bodies holds of the one that is read
one_of : {A : Type 0} (P : A → Type 0) (xs items : List A) (n : ℕ) (x : A) → items ≡ xs → n < length items → x ≡ get_or items n x → All P xs → P x
one_of {A} P xs items n x same within is all =
    subst P (sym (is ∙ ap (λ (of : List A). get_or of n x) same)) (all n x (subst (λ (of : List A). n < length of) same within))

placed : {A : Type 0} (xs items : List A) (n : ℕ) (x : A) → items ≡ xs → n < length items → x ≡ get_or items n x → slice_get xs n ≡ Some x
placed {A} xs items n x same within is =
    ap (λ (of : List A). slice_get of n) (sym same) ∙ slice_get-get_or items n x within ∙ ap Some (sym is)

pub read_body-requires-clause-from : goal.read_body-requires-clause-from
read_body-requires-clause-from c =
    (one_of (λ (body : ℕ × List ℕ). (8 ≤ body.0) × (body.0 ≤ 13)) c.args.bodies.now c.as_slice-table-items.result.now c.loop-table.table-index c.loop-table-item.result
    c.as_slice-table-items.ensures (omega (arith, c.loop-table-test.true)) c.loop-table-item.is c.requires.tables).0

pub read_body-requires-clause-upto : goal.read_body-requires-clause-upto
read_body-requires-clause-upto c =
    (one_of (λ (body : ℕ × List ℕ). (8 ≤ body.0) × (body.0 ≤ 13)) c.args.bodies.now c.as_slice-table-items.result.now c.loop-table.table-index c.loop-table-item.result
    c.as_slice-table-items.ensures (omega (arith, c.loop-table-test.true)) c.loop-table-item.is c.requires.tables).1

pub read_body-requires-clause-width : goal.read_body-requires-clause-width
read_body-requires-clause-width c =
    ap (λ (of : List ℕ). length of) c.as_slice.ensures
    ∙ one_of (λ (body : ℕ × List ℕ). length body.1 ≡ body_width body.0) c.args.bodies.now c.as_slice-table-items.result.now c.loop-table.table-index c.loop-table-item.result
    c.as_slice-table-items.ensures (omega (arith, c.loop-table-test.true)) c.loop-table-item.is c.requires.widths

pub read_body-requires-clause-readable : goal.read_body-requires-clause-readable
read_body-requires-clause-readable c =
    subst (IsBody c.loop-table-item.result.0) (sym c.as_slice.ensures)
    (one_of (λ (body : ℕ × List ℕ). IsBody body.0 body.1) c.args.bodies.now c.as_slice-table-items.result.now c.loop-table.table-index c.loop-table-item.result c.as_slice-table-items.ensures
    (omega (arith, c.loop-table-test.true)) c.loop-table-item.is c.requires.readable)

pub returns-in_default-clause-damaged : goal.returns-in_default-clause-damaged
returns-in_default-clause-damaged c damaged =
    let body = c.loop-table-item.result in
    silent_body c.args.bodies.now c.loop-table.table-index body
    (placed c.args.bodies.now c.as_slice-table-items.result.now c.loop-table.table-index body c.as_slice-table-items.ensures (omega (arith, c.loop-table-test.true)) c.loop-table-item.is)
    (ap (says body.0) (sym c.as_slice.ensures) ∙ sym c.in_ok-slot.ensures ∙ c.in_default.is)

pub returns-in_err-add_slot-clause-damaged : goal.returns-in_err-add_slot-clause-damaged
returns-in_err-add_slot-clause-damaged c damaged =
    let bodies = c.args.bodies.now in
    let entries = c.loop-table.slots.entries in
    let body = c.loop-table-item.result in
    let at : slice_get bodies c.loop-table.table-index ≡ Some body =
    placed bodies c.as_slice-table-items.result.now c.loop-table.table-index body c.as_slice-table-items.ensures (omega (arith, c.loop-table-test.true)) c.loop-table-item.is in
    let said : SaysAt bodies c.loop-table.table-index c.in-Some.slot = (body, at, ap (says body.0) (sym c.as_slice.ensures) ∙ sym c.in_ok-slot.ensures ∙ c.in-Some.is) in
    key_repeated bodies entries c.in-Some.slot c.loop-table.invariant.front c.loop-table.invariant.keyed
    (subst (λ (n : ℕ). SaysAt bodies n c.in-Some.slot) (sym c.loop-table.invariant.size) said) (c.in_err-add_slot.ensures.damaged (first_of (search rules, grind arith)))

pub loop-table-preserved : goal.loop-table-preserved
loop-table-preserved c =
    let bodies = c.args.bodies.now in
    let entries = c.loop-table.slots.entries in
    let body = c.loop-table-item.result in
    let slot = c.in-Some.slot in
    let entry : CatKey × CatSlot = (key_of slot, slot) in
    let at : slice_get bodies c.loop-table.table-index ≡ Some body =
    placed bodies c.as_slice-table-items.result.now c.loop-table.table-index body c.as_slice-table-items.ensures (omega (arith, c.loop-table-test.true)) c.loop-table-item.is in
    let said : SaysAt bodies c.loop-table.table-index slot = (body, at, ap (says body.0) (sym c.as_slice.ensures) ∙ sym c.in_ok-slot.ensures ∙ c.in-Some.is) in
    let pushed : c.add_slot.new.slots.entries ≡ entries ++ entry ∷ [] = c.in_ok-add_slot.ensures.ok in
    record {
      size = ap length pushed ∙ omega (arith, length-append entries (entry ∷ []), c.loop-table.invariant.size);
      front = λ n x is. run_pushed (λ (n : ℕ) (entry : CatKey × CatSlot). SaysAt bodies n entry.1) entries entry c.loop-table.invariant.front
          (subst (λ (n : ℕ). SaysAt bodies n slot) (sym c.loop-table.invariant.size) said) n x (subst (λ (of : List (CatKey × CatSlot)). slice_get of n ≡ Some x) pushed is);
      keyed = subst AreKeyed (sym pushed) (keyed_pushed entries slot c.loop-table.invariant.keyed c.in_ok-add_slot.ensures.apart);
    }

pub returns-clause-ok : goal.returns-clause-ok
returns-clause-ok c = record {
  said = all_said c.args.bodies.now c.loop-table.slots.entries
      (omega (arith, c.loop-table.invariant.size, c.loop-table-test.false, c.loop-table.auto.table-index-end, ap length c.as_slice-table-items.ensures)) c.loop-table.invariant.front;
  keyed = c.loop-table.invariant.keyed;
}
