-- A condition by its first lexeme, and members as far as there are separators.
use Rattle.std.proofs.Common.{Some, sym, ap, ◌∙◌, subst, arith}
use Rattle.std.specs.Prelude.{codes}
use Rattle.std.proofs.lemmas.Result.{err_from_is_err_and}
use Rattle.mt_lexer.specs.Tokens.{Word}
use Rattle.mt_tree.specs.declared.expression.Cond.TheVariants as cond
use Rattle.mt_reader.specs.Descent.{pushed}
use Rattle.mt_reader.proofs.Shrinking.{after_shrinks}
use Rattle.mt_reader.proofs.Joining.{JoinedSoFar, joined_alone, joined_first, joined_first_fails, joined_more, joined_more_fails, joined_took}
use Rattle.mt_terms.specs.Descent.{and_of, or_of, neg_of}
use Rattle.mt_terms.specs.Inside.{IsCondInside}
use Rattle.mt_terms.proofs.Conditions.{neg_shrinks, and_shrinks}
use Rattle.mt_terms.proofs.Inside.{keeps_and, keeps_or}
use Rattle.mt_terms.proofs.Levels.{neg_of-none, neg_of-not, neg_of-open, neg_of-plain, neg_of-flat}
use Rattle.mt_terms.proofs.logic.+condition.Goals as goal

-- conjunction

pub conjunction-returns-in_err-first : goal.conjunction-returns-in_err-first
unfolding and_of
conjunction-returns-in_err-first t c =
    let p = err_from_is_err_and c.from_residual.result c.from_residual.ensures.1 in
    rw (p.1, p.2) (joined_first_fails (neg_of c.args.depth) (neg_shrinks c.args.depth) (Word (codes "and")) cond.And IsCondInside c.args.reader.now c.in_err-first.field-0.0 c.in_err-first.ensures)

pub conjunction-returns-then-not-is_at : goal.conjunction-returns-then-not-is_at
unfolding and_of
conjunction-returns-then-not-is_at t c = joined_alone (neg_of c.args.depth) (neg_shrinks c.args.depth) (Word (codes "and")) cond.And IsCondInside c.args.reader.now c.negation.new.reader c.in_ok-first.first (sym c.if-not-is_at.ensures) c.in_ok-first.ensures

pub conjunction-returns : goal.conjunction-returns
conjunction-returns t c = c.and_behind.ensures c.args.reader.now c.in_ok-first.ensures

pub and_behind-loop-alloc-init : goal.and_behind-loop-alloc-init
and_behind-loop-alloc-init t c = λ lexemes took.
    subst (JoinedSoFar (neg_of c.args.depth) (neg_shrinks c.args.depth) (Word (codes "and")) cond.And IsCondInside lexemes c.args.reader.now)
    (sym (c.in_ok-push.ensures ∙ ap (λ none. pushed (Some none) c.args.first) c.new.ensures))
    (joined_first (neg_of c.args.depth) (neg_shrinks c.args.depth) (Word (codes "and")) cond.And IsCondInside lexemes c.args.reader.now c.args.first c.requires took)

pub and_behind-returns-in_err-add_member : goal.and_behind-returns-in_err-add_member
unfolding and_of
and_behind-returns-in_err-add_member t c = λ lexemes took.
    let p = err_from_is_err_and c.from_residual-in_err-add_member.result c.from_residual-in_err-add_member.ensures.1 in
    rw (p.1, p.2) (joined_more_fails (neg_of c.args.depth) (neg_shrinks c.args.depth) (Word (codes "and")) cond.And IsCondInside lexemes c.loop-alloc.reader c.loop-alloc.members (c.loop-alloc.invariant lexemes took) c.takes_word.new.self c.in_err-add_member.field-0.0 c.loop-alloc-test.ensures c.in_err-add_member.ensures)

pub and_behind-loop-alloc-smaller : goal.and_behind-loop-alloc-smaller
and_behind-loop-alloc-smaller t c =
    let took = c.in_ok-add_member.ensures.took in
    let shorter = neg_shrinks c.args.depth c.takes_word.new.self c.add_member.new.reader took.tree took.reads in
    omega (arith, after_shrinks _ c.loop-alloc.reader c.takes_word.new.self c.loop-alloc-test.ensures)

pub and_behind-loop-alloc-preserved : goal.and_behind-loop-alloc-preserved
and_behind-loop-alloc-preserved t c = λ lexemes took.
    let member = c.in_ok-add_member.ensures in
    rw member.added
    (joined_more (neg_of c.args.depth) (neg_shrinks c.args.depth) (Word (codes "and")) cond.And IsCondInside lexemes c.loop-alloc.reader c.loop-alloc.members (c.loop-alloc.invariant lexemes took) c.takes_word.new.self c.add_member.new.reader member.kept c.loop-alloc-test.ensures member.took)

pub and_behind-returns : goal.and_behind-returns
unfolding and_of
and_behind-returns t c = λ lexemes took.
    rw (c.all_of.ensures, c.loop-alloc-test.ensures.1)
    (joined_took (neg_of c.args.depth) (neg_shrinks c.args.depth) (Word (codes "and")) cond.And IsCondInside lexemes c.loop-alloc.reader c.loop-alloc.members (c.loop-alloc.invariant lexemes took) keeps_and c.loop-alloc-test.ensures.0)

-- a condition behind an AND

pub add_member-returns-in_err-next : goal.add_member-returns-in_err-next
add_member-returns-in_err-next t c =
    let p = err_from_is_err_and c.from_residual.result c.from_residual.ensures.1 in
    rw (p.1, p.2, neg_of-flat c.args.depth c.args.reader.now (sym c.begins_nested.ensures ∙ c.if-begins_nested.false)) c.in_err-next.ensures

pub add_member-returns : goal.add_member-returns
add_member-returns t c = record {
  kept = c.in_ok-next.next;
  took = rw (neg_of-flat c.args.depth c.args.reader.now (sym c.begins_nested.ensures ∙ c.if-begins_nested.false)) c.in_ok-next.ensures;
  added = c.in_ok-push.ensures;
}

-- disjunction

pub disjunction-returns-in_err-first : goal.disjunction-returns-in_err-first
unfolding or_of
disjunction-returns-in_err-first t c =
    let p = err_from_is_err_and c.from_residual.result c.from_residual.ensures.1 in
    rw (p.1, p.2) (joined_first_fails (and_of (neg_of c.args.depth)) (and_shrinks c.args.depth) (Word (codes "or")) cond.Or IsCondInside c.args.reader.now c.in_err-first.field-0.0 c.in_err-first.ensures)

pub disjunction-returns-then-not-is_at : goal.disjunction-returns-then-not-is_at
unfolding or_of
disjunction-returns-then-not-is_at t c = joined_alone (and_of (neg_of c.args.depth)) (and_shrinks c.args.depth) (Word (codes "or")) cond.Or IsCondInside c.args.reader.now c.conjunction.new.reader c.in_ok-first.first (sym c.if-not-is_at.ensures) c.in_ok-first.ensures

pub disjunction-returns : goal.disjunction-returns
disjunction-returns t c = c.or_behind.ensures c.args.reader.now c.in_ok-first.ensures

pub or_behind-loop-alloc-init : goal.or_behind-loop-alloc-init
or_behind-loop-alloc-init t c = λ lexemes took.
    subst (JoinedSoFar (and_of (neg_of c.args.depth)) (and_shrinks c.args.depth) (Word (codes "or")) cond.Or IsCondInside lexemes c.args.reader.now)
    (sym (c.in_ok-push.ensures ∙ ap (λ none. pushed (Some none) c.args.first) c.new.ensures))
    (joined_first (and_of (neg_of c.args.depth)) (and_shrinks c.args.depth) (Word (codes "or")) cond.Or IsCondInside lexemes c.args.reader.now c.args.first c.requires took)

pub or_behind-returns-in_err-next : goal.or_behind-returns-in_err-next
unfolding or_of
or_behind-returns-in_err-next t c = λ lexemes took.
    let p = err_from_is_err_and c.from_residual-in_err-next.result c.from_residual-in_err-next.ensures.1 in
    rw (p.1, p.2) (joined_more_fails (and_of (neg_of c.args.depth)) (and_shrinks c.args.depth) (Word (codes "or")) cond.Or IsCondInside lexemes c.loop-alloc.reader c.loop-alloc.members (c.loop-alloc.invariant lexemes took) c.takes_word.new.self c.in_err-next.field-0.0 c.loop-alloc-test.ensures c.in_err-next.ensures)

pub or_behind-loop-alloc-smaller : goal.or_behind-loop-alloc-smaller
or_behind-loop-alloc-smaller t c =
    let took = c.in_ok-next.ensures in
    let shorter = and_shrinks c.args.depth c.takes_word.new.self c.conjunction.new.reader took.tree took.reads in
    omega (arith, after_shrinks _ c.loop-alloc.reader c.takes_word.new.self c.loop-alloc-test.ensures)

pub or_behind-loop-alloc-preserved : goal.or_behind-loop-alloc-preserved
or_behind-loop-alloc-preserved t c = λ lexemes took.
    rw c.in_ok-push-2.ensures
    (joined_more (and_of (neg_of c.args.depth)) (and_shrinks c.args.depth) (Word (codes "or")) cond.Or IsCondInside lexemes c.loop-alloc.reader c.loop-alloc.members (c.loop-alloc.invariant lexemes took) c.takes_word.new.self c.conjunction.new.reader c.in_ok-next.next c.loop-alloc-test.ensures c.in_ok-next.ensures)

pub or_behind-returns : goal.or_behind-returns
unfolding or_of
or_behind-returns t c = λ lexemes took.
    rw (c.any_of.ensures, c.loop-alloc-test.ensures.1)
    (joined_took (and_of (neg_of c.args.depth)) (and_shrinks c.args.depth) (Word (codes "or")) cond.Or IsCondInside lexemes c.loop-alloc.reader c.loop-alloc.members (c.loop-alloc.invariant lexemes took) keeps_or c.loop-alloc-test.ensures.0)

-- negation

pub negation-returns-then-depth-eq0 : goal.negation-returns-then-depth-eq0
negation-returns-then-depth-eq0 t c = rw (neg_of-none c.args.depth c.args.reader.now c.if-depth-eq0.true) c.predicate.ensures

pub negation-returns-then-is_at : goal.negation-returns-then-is_at
negation-returns-then-is_at t c = rw (neg_of-not c.args.depth c.args.reader.now c.if-depth-eq0.false (sym c.if-is_at.ensures)) c.denial.ensures

pub negation-returns-then-is_at_symbol : goal.negation-returns-then-is_at_symbol
negation-returns-then-is_at_symbol t c =
    rw (neg_of-open c.args.depth c.args.reader.now c.if-depth-eq0.false (sym c.if-is_at.ensures) (sym c.if-is_at_symbol.ensures)) c.condition_in_brackets.ensures

pub negation-returns : goal.negation-returns
negation-returns t c = rw (neg_of-plain c.args.depth c.args.reader.now c.if-depth-eq0.false (sym c.if-is_at.ensures) (sym c.if-is_at_symbol.ensures)) c.predicate-2.ensures
