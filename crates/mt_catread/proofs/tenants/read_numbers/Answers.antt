-- A thirty-third extension is of no catalogue.
use Rattle.std.proofs.Common.{◌≡◌, ℕ, ◌∙◌, List, [], ◌∷◌, ◌++◌, length, Some, sym, ap, subst, arith}
use Rattle.std.specs.Prelude.{slice_get}
use Rattle.std.proofs.lemmas.List.{length-append}
use Rattle.mt_catslot.specs.declared.slot.CatKey.TheVariants as keys
use Rattle.mt_catalog.specs.Found.{extended_found}
use Rattle.mt_catalog.specs.Keyed.{slot_in}
use Rattle.mt_catalog.proofs.Extensions.{too_many_numbers}
use Rattle.mt_catalog.proofs.Runs.{run_pushed}
use Rattle.mt_catread.proofs.tenants.read_numbers.Goals as goal

pub loop-position-preserved : goal.loop-position-preserved
loop-position-preserved c =
    let numbers : List ℕ = c.loop-position.numbers in
    let pushed : c.push.new.self ≡ numbers ++ c.in-Some.extension ∷ [] = c.in_ok-push.ensures.ok in
    let stands : ℕ → ℕ → Type 0 = λ p number. extended_found (slot_in c.args.slots.now.entries (keys.Extended c.args.tenant c.args.base p)) ≡ Some number in
    let here : stands c.loop-position.position c.in-Some.extension = sym c.in-Some.ensures in
    record {
      size = ap length pushed ∙ omega (arith, length-append numbers (c.in-Some.extension ∷ []), c.loop-position.invariant.size);
      each = λ p number is. run_pushed stands numbers c.in-Some.extension c.loop-position.invariant.each
          (subst (λ (p : ℕ). stands p c.in-Some.extension) (sym c.loop-position.invariant.size) here) p number (subst (λ (of : List ℕ). slice_get of p ≡ Some number) pushed is);
    }

pub returns-clause-damaged : goal.returns-clause-damaged
returns-clause-damaged c damaged = too_many_numbers (slot_in c.args.slots.now.entries) c.args.tenant c.args.base c.loop-position.numbers
    (omega (arith, c.loop-position.invariant.size, c.loop-position-test.false, c.loop-position.auto.position-end)) c.loop-position.invariant.each
