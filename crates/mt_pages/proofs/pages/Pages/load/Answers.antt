-- What is read stands in the pages, and nothing changed.
use Rattle.std.proofs.Common.{◌≡◌, ℕ, sym, ap, subst, IsTrue, Result, Ok}
use Rattle.mt_machine.specs.declared.machine.Area as machine
use Rattle.mt_machine.specs.declared.machine.Area.TheVariants as areas
use Rattle.mt_journal.specs.Layout.{Area, StandAt}
use Rattle.mt_pages.specs.Control.{IsPageZero}
use Rattle.mt_pages.proofs.pages.Pages.load.Goals as goal

pub returns-in-Some-clause-ok : goal.returns-in-Some-clause-ok
returns-in-Some-clause-ok g c =
    let old = g.M.Machine.meaning c.args.m.now in
    let new = g.M.Machine.meaning c.read.new.self in
    let said : IsTrue new.tells → _ = λ tells. c.in-Some.ensures.some (new.content areas.Pages) (subst (λ (content : machine.Area → ℕ → ℕ). StandAt (content areas.Pages) 0 c.read.new.buf) (sym (c.read.ensures.effect.content tells)) (c.in_ok-read.ensures.effect.bytes tells)) in
    record { page_zero = λ tells. (said tells).0; counted = λ tells. (said tells).1 }

pub returns-in-None-clause-damaged : goal.returns-in-None-clause-damaged
returns-in-None-clause-damaged g c = λ _ tells zero.
    let new = g.M.Machine.meaning c.read.new.self in
    c.in-None.ensures.none (new.content areas.Pages) (subst (λ (content : machine.Area → ℕ → ℕ). StandAt (content areas.Pages) 0 c.read.new.buf) (sym (c.read.ensures.effect.content tells)) (c.in_ok-read.ensures.effect.bytes tells)) zero
