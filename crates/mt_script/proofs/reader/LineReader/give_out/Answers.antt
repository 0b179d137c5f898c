use Rattle.std.proofs.Common.{◌≡◌, List, ℕ, false, length, sym, ◌∙◌, ap, subst, arith}
use Rattle.mt_script.specs.Lines.{has_line_feed}
use Rattle.mt_script.specs.Reader.{Reading}
use Rattle.mt_script.specs.Steps.{IsFirstFeed}
use Rattle.mt_script.proofs.Steps.{GivesLine-feed, GivesLine-rest}
use Rattle.mt_script.proofs.reader.LineReader.give_out.Goals as goal

pub returns-in-Some : goal.returns-in-Some
returns-in-Some c =
    let held = ap (λ (reading : Reading). reading.held) c.self.view_is in
    let first = subst (λ (bytes : List ℕ). IsFirstFeed bytes c.in-Some.at) held (rw c.deref.ensures.value at c.in-Some.ensures) in
    GivesLine-feed _ _ _ _ first c.let_go.ensures

pub returns-in-None-3 : goal.returns-in-None-3
returns-in-None-3 c =
    let held = ap (λ (reading : Reading). reading.held) c.self.view_is in
    let none = subst (λ (bytes : List ℕ). has_line_feed bytes ≡ false) held (rw c.deref.ensures.value at c.in-None.ensures) in
    let over = sym (ap (λ (reading : Reading). reading.ended) c.self.view_is) ∙ c.if-not-self.false in
    let size = ap length (rw (← c.deref.ensures.value) at held) in
    GivesLine-rest _ _ _ _ size (omega arith) none over c.let_go-in-None-3.ensures
