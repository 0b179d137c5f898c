use Rattle.std.proofs.Common.{◌≡◌, ◌+◌, ℕ, List, ◌++◌, length, take, drop, refl, slice_range, ◌∙◌, ap, arith, inl, inr, length-take}
use Rattle.std.proofs.lemmas.List.{length-drop}
use Rattle.std.proofs.lemmas.Bool.{eqb-true}
use Rattle.std.proofs.lemmas.Result.{err_from_is_err_and}
use Rattle.mt_script.specs.Lines.{has_line_feed}
use Rattle.mt_script.proofs.Lines.{has_line_feed-take}
use Rattle.mt_script.proofs.Parts.{placed_front, held_front, held_short, written_over}
use Rattle.mt_script.proofs.Steps.{AsksForLine-piece, TakesOn-nothing, TakesOn-piece, left_at_end}
use Rattle.mt_script.proofs.reader.LineReader.fill.Goals as goal

pub invariant_of-self : goal.invariant_of-self
invariant_of-self g c =
    let at = c.self.inside in
    let buffer = c.keep_short-kept.new.buffer in
    let kept = c.keep_short-kept.result in
    let size : length buffer ≡ 131072 = omega (arith, ap length c.deref_mut.ensures.value) in
    let written = written_over buffer at.buffer.items at.buffer.len (omega arith) in
    let none = rw (← c.self.view_is) at c.requires.unended in
    let front = rw c.deref_mut.ensures.value at c.keep_short-kept.ensures.bytes in
    rw written (placed_front 65537 (slice_range at.buffer.items at.from at.upto) buffer kept kept size (omega arith) (omega arith) front none)

pub returns-then-self-eq0-clause-takes : goal.returns-then-self-eq0-clause-takes
returns-then-self-eq0-clause-takes g c =
    let at = c.self.inside in
    let buffer = c.keep_short-kept.new.buffer in
    let kept = c.keep_short-kept.result in
    let written = written_over buffer at.buffer.items at.buffer.len (omega arith) in
    let none = rw (← c.self.view_is) at c.requires.unended in
    let going = rw (← c.self.view_is) at c.requires.not_ended in
    let front = rw c.deref_mut.ensures.value at c.keep_short-kept.ensures.bytes in
    rw (← c.self.view_is)
    (TakesOn-nothing 65537 _ _ _ _ (omega arith) going none
    (ap (λ (bytes : List ℕ). slice_range bytes 0 kept) written ∙ held_short 65537 (slice_range at.buffer.items at.from at.upto) buffer kept front)
    refl refl (λ tells. tells) (λ tells. refl) (λ tells. inl (refl, refl)))

pub returns-then-self-eq0-clause-outcome : goal.returns-then-self-eq0-clause-outcome
returns-then-self-eq0-clause-outcome g c =
    let at = c.self.inside in
    let buffer = c.keep_short-kept.new.buffer in
    let kept = c.keep_short-kept.result in
    let held = slice_range at.buffer.items at.from at.upto in
    let written = written_over buffer at.buffer.items at.buffer.len (omega arith) in
    let none = rw (← c.self.view_is) at c.requires.unended in
    let going = rw (← c.self.view_is) at c.requires.not_ended in
    let front = rw c.deref_mut.ensures.value at c.keep_short-kept.ensures.bytes in
    let same = ap (λ (bytes : List ℕ). slice_range bytes 0 kept) written ∙ held_short 65537 held buffer kept front in
    (going, ap has_line_feed same ∙ has_line_feed-take 65537 held none, (refl, c.if-self-eq0.true))

pub invariant_of-self-in_err-taken : goal.invariant_of-self-in_err-taken
invariant_of-self-in_err-taken g c =
    let at = c.self.inside in
    let first = c.keep_short-kept.new.buffer in
    let inner = take at.buffer.len (first ++ drop (length first) at.buffer.items) in
    let buffer = c.take_piece.new.buffer in
    let kept = c.keep_short-kept.result in
    let held = slice_range at.buffer.items at.from at.upto in
    let written = written_over first at.buffer.items at.buffer.len (omega arith) in
    let over = written_over buffer inner at.buffer.len (omega arith) in
    let none = rw (← c.self.view_is) at c.requires.unended in
    let front = rw c.deref_mut.ensures.value at c.keep_short-kept.ensures.bytes in
    let still = c.take_piece.ensures.kept ∙ ap (take kept) (c.deref_mut-2.ensures.value ∙ written) ∙ front in
    let size : length buffer ≡ 131072 = omega (arith, ap length c.deref_mut.ensures.value) in
    rw over (placed_front 65537 held buffer kept kept size (omega arith) (omega arith) still none)

pub returns-in_err-taken-clause-takes : goal.returns-in_err-taken-clause-takes
returns-in_err-taken-clause-takes g c =
    let at = c.self.inside in
    let first = c.keep_short-kept.new.buffer in
    let inner = take at.buffer.len (first ++ drop (length first) at.buffer.items) in
    let buffer = c.take_piece.new.buffer in
    let kept = c.keep_short-kept.result in
    let held = slice_range at.buffer.items at.from at.upto in
    let written = written_over first at.buffer.items at.buffer.len (omega arith) in
    let over = written_over buffer inner at.buffer.len (omega arith) in
    let none = rw (← c.self.view_is) at c.requires.unended in
    let front = rw c.deref_mut.ensures.value at c.keep_short-kept.ensures.bytes in
    let still = c.take_piece.ensures.kept ∙ ap (take kept) (c.deref_mut-2.ensures.value ∙ written) ∙ front in
    let going = rw (← c.self.view_is) at c.requires.not_ended in
    let same = ap (λ (bytes : List ℕ). slice_range bytes 0 kept) over ∙ held_short 65537 held buffer kept still in
    let takes = c.in_err-taken.ensures.takes in
    rw (← c.self.view_is)
    (TakesOn-nothing 65537 _ _ _ _ (omega arith) going none same refl refl takes.told takes.failed
    (λ tells. inr (AsksForLine-piece _ _ _ none (takes.gave_nothing tells))))

pub returns-in_err-taken-clause-outcome : goal.returns-in_err-taken-clause-outcome
returns-in_err-taken-clause-outcome g c =
    let at = c.self.inside in
    let first = c.keep_short-kept.new.buffer in
    let inner = take at.buffer.len (first ++ drop (length first) at.buffer.items) in
    let buffer = c.take_piece.new.buffer in
    let kept = c.keep_short-kept.result in
    let held = slice_range at.buffer.items at.from at.upto in
    let written = written_over first at.buffer.items at.buffer.len (omega arith) in
    let over = written_over buffer inner at.buffer.len (omega arith) in
    let none = rw (← c.self.view_is) at c.requires.unended in
    let front = rw c.deref_mut.ensures.value at c.keep_short-kept.ensures.bytes in
    let still = c.take_piece.ensures.kept ∙ ap (take kept) (c.deref_mut-2.ensures.value ∙ written) ∙ front in
    let going = rw (← c.self.view_is) at c.requires.not_ended in
    let same = ap (λ (bytes : List ℕ). slice_range bytes 0 kept) over ∙ held_short 65537 held buffer kept still in
    let p = err_from_is_err_and c.from_residual.result c.from_residual.ensures.1 in
    let cause = c.in_err-taken.ensures.takes.cause in
    rw (p.1, p.2, c.in_err-taken.ensures.stop) (going, ap has_line_feed same ∙ has_line_feed-take 65537 held none, (cause.no_lower, cause.failed refl, omega arith))

pub invariant_of-self-2 : goal.invariant_of-self-2
invariant_of-self-2 g c =
    let at = c.self.inside in
    let first = c.keep_short-kept.new.buffer in
    let inner = take at.buffer.len (first ++ drop (length first) at.buffer.items) in
    let buffer = c.take_piece.new.buffer in
    let kept = c.keep_short-kept.result in
    let held = slice_range at.buffer.items at.from at.upto in
    let written = written_over first at.buffer.items at.buffer.len (omega arith) in
    let over = written_over buffer inner at.buffer.len (omega arith) in
    let none = rw (← c.self.view_is) at c.requires.unended in
    let front = rw c.deref_mut.ensures.value at c.keep_short-kept.ensures.bytes in
    let still = c.take_piece.ensures.kept ∙ ap (take kept) (c.deref_mut-2.ensures.value ∙ written) ∙ front in
    let size : length buffer ≡ 131072 = omega (arith, ap length c.deref_mut.ensures.value) in
    let count = c.in_ok-taken.ensures.takes.count in
    rw over (placed_front 65537 held buffer (kept + c.in_ok-taken.taken) kept size (omega arith) (omega (arith, count, length-drop kept buffer)) still none)

pub returns-clause-takes : goal.returns-clause-takes
returns-clause-takes g c =
    let at = c.self.inside in
    let first = c.keep_short-kept.new.buffer in
    let inner = take at.buffer.len (first ++ drop (length first) at.buffer.items) in
    let buffer = c.take_piece.new.buffer in
    let kept = c.keep_short-kept.result in
    let held = slice_range at.buffer.items at.from at.upto in
    let written = written_over first at.buffer.items at.buffer.len (omega arith) in
    let over = written_over buffer inner at.buffer.len (omega arith) in
    let none = rw (← c.self.view_is) at c.requires.unended in
    let front = rw c.deref_mut.ensures.value at c.keep_short-kept.ensures.bytes in
    let still = c.take_piece.ensures.kept ∙ ap (take kept) (c.deref_mut-2.ensures.value ∙ written) ∙ front in
    let going = rw (← c.self.view_is) at c.requires.not_ended in
    let taken = c.in_ok-taken.taken in
    let takes = c.in_ok-taken.ensures.takes in
    let same = ap (λ (bytes : List ℕ). slice_range bytes 0 (kept + taken)) over ∙ held_front 65537 held buffer kept taken still in
    let piece = take taken (drop kept buffer) in
    let whole : length piece ≡ taken = omega (arith, takes.count, length-take taken (drop kept buffer)) in
    rw (← c.self.view_is)
    (TakesOn-piece 65537 piece _ _ _ _ (omega arith) going none same (omega (arith, c.in_ok-taken.ensures.in_budget))
    (λ yes.
    let nothing = eqb-true taken 0 yes in
    (left_at_end taken (drop kept buffer) (g.S.Source.supply c.args.source.now) (g.S.Source.supply c.take_piece.new.source) nothing takes.end takes.moved, omega arith))
    takes.told takes.moved (λ tells. inr (AsksForLine-piece _ _ _ none (takes.gave tells))))
