-- A factor by its first lexeme, and members as far as there are separators.
use Rattle.std.proofs.Common.{Some, [], length, sym, ap, ◌∙◌, subst, arith}
use Rattle.std.specs.Option.{option_map}
use Rattle.std.proofs.lemmas.Result.{err_from_is_err_and}
use Rattle.mt_lexer.specs.Tokens.{Sign}
use Rattle.mt_lexer.specs.declared.token.Symbol.TheVariants.{Star}
use Rattle.mt_tree.specs.declared.expression.Expr.TheVariants as expr
use Rattle.mt_tree.specs.declared.expression.Expr.TheVariants.{Product}
use Rattle.mt_reader.specs.Descent.{pushed}
use Rattle.mt_reader.proofs.Shrinking.{after_shrinks}
use Rattle.mt_reader.proofs.Joining.{JoinedSoFar, joined_alone, joined_first, joined_first_fails, joined_more, joined_more_fails, joined_took}
use Rattle.mt_terms.specs.Descent.{factor_of, term_of, terms_of, int_atom}
use Rattle.mt_terms.specs.Inside.{IsExprInside, IsTermInside}
use Rattle.mt_terms.proofs.Expressions.{factor_shrinks, term_shrinks}
use Rattle.mt_terms.proofs.Inside.{keeps_product, keeps_term}
use Rattle.mt_terms.proofs.Integers.{took_factor}
use Rattle.mt_terms.proofs.Steps.{factor_of-none, factor_of-atom, factor_of-open, sum_alone, sum_took, sum_fails}
use Rattle.mt_terms.proofs.Tails.{TermsSoFar, sign_is, terms_so_far_first, terms_first_fault, terms_so_far_more, terms_so_far_fault}
use Rattle.mt_terms.proofs.sum.+expression.Goals as goal

-- factor

pub factor-returns-then-depth-eq0 : goal.factor-returns-then-depth-eq0
factor-returns-then-depth-eq0 t c = rw (factor_of-none c.args.depth c.args.reader.now c.if-depth-eq0.true) c.alone.ensures

pub factor-returns-then-not-is_at_symbol : goal.factor-returns-then-not-is_at_symbol
factor-returns-then-not-is_at_symbol t c = rw (factor_of-atom c.args.depth c.args.reader.now c.if-depth-eq0.false (sym c.if-not-is_at_symbol.ensures)) c.alone-then-not-is_at_symbol.ensures

pub factor-returns : goal.factor-returns
factor-returns t c = rw (factor_of-open c.args.depth c.args.reader.now c.if-depth-eq0.false (sym c.if-not-is_at_symbol.ensures)) c.sum_in_brackets.ensures

-- product

pub product-returns-in_err-first : goal.product-returns-in_err-first
unfolding term_of
product-returns-in_err-first t c =
    let p = err_from_is_err_and c.from_residual.result c.from_residual.ensures.1 in
    rw (p.1, p.2) (joined_first_fails (factor_of c.args.depth) (factor_shrinks c.args.depth) (Sign Star) Product IsExprInside c.args.reader.now c.in_err-first.field-0.0 c.in_err-first.ensures)

pub product-returns-then-not-is_at_symbol : goal.product-returns-then-not-is_at_symbol
unfolding term_of
product-returns-then-not-is_at_symbol t c =
    joined_alone (factor_of c.args.depth) (factor_shrinks c.args.depth) (Sign Star) Product IsExprInside c.args.reader.now c.factor.new.reader c.in_ok-first.first (sym c.if-not-is_at_symbol.ensures) c.in_ok-first.ensures

pub product-returns : goal.product-returns
product-returns t c = c.product_behind.ensures c.args.reader.now c.in_ok-first.ensures

pub product_behind-loop-alloc-init : goal.product_behind-loop-alloc-init
product_behind-loop-alloc-init t c = λ lexemes took.
    subst (JoinedSoFar (factor_of c.args.depth) (factor_shrinks c.args.depth) (Sign Star) Product IsExprInside lexemes c.args.reader.now)
    (sym (c.in_ok-push.ensures ∙ ap (λ none. pushed (Some none) c.args.first) c.new.ensures))
    (joined_first (factor_of c.args.depth) (factor_shrinks c.args.depth) (Sign Star) Product IsExprInside lexemes c.args.reader.now c.args.first c.requires took)

pub product_behind-returns-in_err-next : goal.product_behind-returns-in_err-next
unfolding term_of
product_behind-returns-in_err-next t c = λ lexemes took.
    let p = err_from_is_err_and c.from_residual-in_err-next.result c.from_residual-in_err-next.ensures.1 in
    rw (p.1, p.2) (joined_more_fails (factor_of c.args.depth) (factor_shrinks c.args.depth) (Sign Star) Product IsExprInside lexemes c.loop-alloc.reader c.loop-alloc.factors (c.loop-alloc.invariant lexemes took) c.takes_symbol.new.self c.in_err-next.field-0.0 c.loop-alloc-test.ensures c.in_err-next.ensures)

pub product_behind-loop-alloc-smaller : goal.product_behind-loop-alloc-smaller
product_behind-loop-alloc-smaller t c =
    let took = c.in_ok-next.ensures in
    let shorter = factor_shrinks c.args.depth c.takes_symbol.new.self c.factor.new.reader took.tree took.reads in
    omega (arith, after_shrinks _ c.loop-alloc.reader c.takes_symbol.new.self c.loop-alloc-test.ensures)

pub product_behind-loop-alloc-preserved : goal.product_behind-loop-alloc-preserved
product_behind-loop-alloc-preserved t c = λ lexemes took.
    rw c.in_ok-push-2.ensures
    (joined_more (factor_of c.args.depth) (factor_shrinks c.args.depth) (Sign Star) Product IsExprInside lexemes c.loop-alloc.reader c.loop-alloc.factors (c.loop-alloc.invariant lexemes took) c.takes_symbol.new.self c.factor.new.reader c.in_ok-next.next c.loop-alloc-test.ensures c.in_ok-next.ensures)

pub product_behind-returns : goal.product_behind-returns
unfolding term_of
product_behind-returns t c = λ lexemes took.
    rw (c.multiplied.ensures, c.loop-alloc-test.ensures.1)
    (joined_took (factor_of c.args.depth) (factor_shrinks c.args.depth) (Sign Star) Product IsExprInside lexemes c.loop-alloc.reader c.loop-alloc.factors (c.loop-alloc.invariant lexemes took) keeps_product c.loop-alloc-test.ensures.0)

-- sum

pub sum-returns-in_err-first : goal.sum-returns-in_err-first
sum-returns-in_err-first t c =
    let p = err_from_is_err_and c.from_residual.result c.from_residual.ensures.1 in
    rw (p.1, p.2)
    (sum_fails (factor_of c.args.depth) c.args.reader.now c.in_err-first.field-0.0 (terms_first_fault (term_of (factor_of c.args.depth)) IsTermInside c.args.reader.now c.in_err-first.field-0.0 c.in_err-first.ensures))

pub sum-returns-then-not-is_at_sign : goal.sum-returns-then-not-is_at_sign
sum-returns-then-not-is_at_sign t c =
    sum_alone (factor_of c.args.depth) c.args.reader.now c.product.new.reader c.in_ok-first.first (sym c.is_at_sign.ensures ∙ c.if-not-is_at_sign.true) c.in_ok-first.ensures

pub sum-returns : goal.sum-returns
sum-returns t c = c.sum_behind.ensures c.args.reader.now c.in_ok-first.ensures

pub sum_behind-loop-minus-init : goal.sum_behind-loop-minus-init
sum_behind-loop-minus-init t c = λ lexemes took.
    let first = terms_so_far_first (term_of (factor_of c.args.depth)) IsTermInside lexemes c.args.reader.now _ took.tree c.requires took.reads (keeps_term _ c.args.first took.tree took.keeps) in
    subst (TermsSoFar (term_of (factor_of c.args.depth)) IsTermInside (terms_of (term_of (factor_of c.args.depth)) lexemes) c.args.reader.now)
    (sym (c.in_ok-push.ensures ∙ ap (λ terms. pushed (Some terms) c.term.result) c.new.ensures ∙ ap (pushed (Some [])) c.term.ensures)) first

pub sum_behind-returns-in_err-add_term : goal.sum_behind-returns-in_err-add_term
sum_behind-returns-in_err-add_term t c = λ lexemes took.
    let p = err_from_is_err_and c.from_residual-in_err-add_term.result c.from_residual-in_err-add_term.ensures.1 in
    let e = c.in_err-add_term.field-0.0 in
    rw (p.1, p.2)
    (sum_fails (factor_of c.args.depth) lexemes e
    (terms_so_far_fault (term_of (factor_of c.args.depth)) IsTermInside _ c.loop-minus.reader c.loop-minus.terms (c.loop-minus.invariant lexemes took) c.sign.new.reader c.in-Some.minus e c.in-Some.ensures c.in_err-add_term.ensures))

pub sum_behind-loop-minus-smaller : goal.sum_behind-loop-minus-smaller
sum_behind-loop-minus-smaller t c =
    let took = c.in_ok-add_term.ensures.took in
    let shorter = term_shrinks c.args.depth c.sign.new.reader c.add_term.new.reader took.tree took.reads in
    omega (arith, ap length (sign_is c.loop-minus.reader c.sign.new.reader c.in-Some.minus c.in-Some.ensures))

pub sum_behind-loop-minus-preserved : goal.sum_behind-loop-minus-preserved
sum_behind-loop-minus-preserved t c = λ lexemes first.
    let term = c.in_ok-add_term.ensures in
    let took = term.took in
    let shorter = term_shrinks c.args.depth c.sign.new.reader c.add_term.new.reader took.tree took.reads in
    rw term.added
    (terms_so_far_more (term_of (factor_of c.args.depth)) IsTermInside _ c.loop-minus.reader c.loop-minus.terms (c.loop-minus.invariant lexemes first) c.sign.new.reader c.add_term.new.reader c.in-Some.minus _ took.tree c.in-Some.ensures took.reads shorter (keeps_term c.in-Some.minus term.kept took.tree took.keeps))

pub sum_behind-returns : goal.sum_behind-returns
sum_behind-returns t c = λ lexemes took.
    rw (c.summed.ensures, c.in_default.ensures.1)
    (sum_took (factor_of c.args.depth) lexemes c.loop-minus.reader c.loop-minus.terms (c.loop-minus.invariant lexemes took) c.in_default.ensures.0)

-- a term behind a sign

pub add_term-returns-then-is_at_symbol : goal.add_term-returns-then-is_at_symbol
add_term-returns-then-is_at_symbol t c = c.add_product_behind.ensures c.args.reader.now c.in-Some.ensures.some

pub add_term-returns : goal.add_term-returns
unfolding term_of
add_term-returns t c = record {
  kept = option_map expr.Atom (option_map int_atom c.in-Some.number);
  took =
      joined_alone (factor_of c.args.depth) (factor_shrinks c.args.depth) (Sign Star) Product IsExprInside c.args.reader.now c.integer.new.reader _ (sym c.is_at_symbol.ensures ∙ c.if-is_at_symbol.false)
      (took_factor c.args.depth c.in-Some.number c.args.reader.now c.integer.new.reader c.in-Some.ensures.some);
  added = c.in_ok-push.ensures ∙ ap (pushed c.args.terms.now) c.integer_term.ensures;
}

pub add_product_behind-returns-in_err-next : goal.add_product_behind-returns-in_err-next
add_product_behind-returns-in_err-next t c = λ lexemes took.
    let p = err_from_is_err_and c.from_residual.result c.from_residual.ensures.1 in
    rw (p.1, p.2)
    (c.in_err-next.ensures lexemes (rw c.integer_alone.ensures (took_factor c.args.depth c.args.number lexemes c.args.reader.now took)))

pub add_product_behind-returns : goal.add_product_behind-returns
add_product_behind-returns t c = λ lexemes took. record {
  kept = c.in_ok-next.next;
  took = c.in_ok-next.ensures lexemes (rw c.integer_alone.ensures (took_factor c.args.depth c.args.number lexemes c.args.reader.now took));
  added = c.in_ok-push.ensures ∙ ap (pushed c.args.terms.now) c.term.ensures;
}
