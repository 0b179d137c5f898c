-- The slot that the catalogue has with the key can be said.
use Rattle.std.proofs.Common.{◌≡◌, ℕ, List, [], ◌∷◌, ◌++◌, Option, Some, sym, ap, ◌∙◌, subst}
use Rattle.std.specs.List.{cons_option}
use Rattle.mt_catslot.specs.declared.slot.CatSlot.{CatSlot}
use Rattle.mt_catslot.specs.Bytes.{body_of}
use Rattle.mt_catslot.specs.Slots.{table_of}
use Rattle.mt_catalog.specs.Slots.{slot_of}
use Rattle.mt_catalog.specs.State.{State}
use Rattle.mt_schema.specs.Turns.{AreWritten}
use Rattle.mt_schema.proofs.WrittenSlots.{more_written, sayable_at}
use Rattle.mt_schema.proofs.bodies.add_written.Goals as goal

pub write_body-requires : goal.write_body-requires
write_body-requires c = sayable_at c.args.catalog.now c.args.key c.in-Some.slot c.requires (sym c.in_ok-slot_of.ensures ∙ c.in-Some.is)

pub returns-in_ok-push-in-Some : goal.returns-in_ok-push-in-Some
returns-in_ok-push-in-Some c = λ slots are.
    let state : State = c.args.catalog.now in
    let slot : CatSlot = c.in-Some.slot in
    let body : List ℕ = c.in_ok-body-in-Some.body in
    let bodies : List (ℕ × List ℕ) = c.args.bodies.now in
    let there : slot_of state c.args.key ≡ Some slot = sym c.in_ok-slot_of.ensures ∙ c.in-Some.is in
    let pushed : c.push.new.self ≡ bodies ++ (c.table.result, body) ∷ [] = c.in_ok-push-in-Some.ensures.ok in
    let bodies_are : c.push.new.self ≡ bodies ++ (table_of slot, body_of slot) ∷ [] =
    pushed ∙ ap (λ (table : ℕ). bodies ++ (table, body) ∷ []) c.table.ensures ∙ ap (λ (of : List ℕ). bodies ++ (table_of slot, of) ∷ []) c.in_ok-body-in-Some.ensures in
    let slots_are : slots ++ cons_option (slot_of state c.args.key) [] ≡ slots ++ slot ∷ [] = ap (λ (o : Option CatSlot). slots ++ cons_option o []) there in
    subst (λ (of : List (ℕ × List ℕ)). AreWritten of (slots ++ cons_option (slot_of state c.args.key) [])) (sym bodies_are)
    (subst (λ (of : List CatSlot). AreWritten (bodies ++ (table_of slot, body_of slot) ∷ []) of) (sym slots_are) (more_written bodies slots slot are (sayable_at state c.args.key slot c.requires there)))
