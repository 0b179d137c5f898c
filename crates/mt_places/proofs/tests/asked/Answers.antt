use Rattle.std.proofs.Common.{◌≡◌, [], ◌∷◌, refl}
use Rattle.std.proofs.lemmas.Result.{IfOk-weaker}
use Rattle.mt_rowfile.specs.declared.slot.SlotRow.{SlotRow}
use Rattle.mt_physplan.specs.declared.change.Change.TheVariants.{Put, PutCat}
use Rattle.mt_places.specs.Held.{state_of}
use Rattle.mt_places.proofs.Stays.{begun-body, begun-row}
use Rattle.mt_places.proofs.tests.asked.Goals as goal

pub returns-clause-rows : goal.returns-clause-rows
returns-clause-rows c =
    let slot : SlotRow = record { mark = 1; tenant = 35; base = 0; chunk = 0; row = 7; values = c.new.result } in
    let changes : c.push-2.new.self ≡ Put 20 slot ∷ PutCat 10 c.args.body ∷ [] = rw (c.in_ok-push-2.ensures.ok, c.in_ok-push.ensures.ok, c.new-changes.ensures) refl in
    IfOk-weaker c.new-2.result _ _ (λ places begun. begun-row 20 slot (PutCat 10 c.args.body ∷ []) c.push-2.new.self (state_of places) changes begun) c.new-2.ensures

pub returns-clause-bodies : goal.returns-clause-bodies
returns-clause-bodies c =
    let slot : SlotRow = record { mark = 1; tenant = 35; base = 0; chunk = 0; row = 7; values = c.new.result } in
    let changes : c.push-2.new.self ≡ Put 20 slot ∷ PutCat 10 c.args.body ∷ [] = rw (c.in_ok-push-2.ensures.ok, c.in_ok-push.ensures.ok, c.new-changes.ensures) refl in
    IfOk-weaker c.new-2.result _ _ (λ places begun. begun-body 20 slot 10 c.args.body [] c.push-2.new.self (state_of places) changes begun) c.new-2.ensures
