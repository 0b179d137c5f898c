-- A tuple, and a comma where more follow, as long as more may.
use Rattle.std.proofs.Common.{arith}
use Rattle.std.proofs.lemmas.Result.{err_from_is_err_and}
use Rattle.mt_lexer.specs.Tokens.{Sign}
use Rattle.mt_lexer.specs.declared.token.Symbol.TheVariants.{Comma}
use Rattle.mt_statements.specs.ChangeDescent.{tuple_of, few_tuples_of}
use Rattle.mt_statements.specs.ChangeInside.{IsTupleInside}
use Rattle.mt_statements.proofs.Counted.{counted_none, counted_more, counted_all, counted_full, counted_fault}
use Rattle.mt_statements.proofs.tuples.few_tuples.Goals as goal

pub loop-init : goal.loop-init
loop-init c = rw c.new.ensures (counted_none tuple_of (Sign Comma) IsTupleInside c.args.reader.now)

pub returns-in_err-take : goal.returns-in_err-take
unfolding few_tuples_of
returns-in_err-take c =
    let p = err_from_is_err_and c.from_residual.result c.from_residual.ensures.1 in
    rw (p.1, p.2) (counted_fault tuple_of (Sign Comma) IsTupleInside _ c.loop.reader c.loop.tuples c.loop.counter c.args.limit c.in_err-take.field-0.0 c.loop.invariant c.in_err-take.ensures.taken)

pub returns-then-not-takes_symbol : goal.returns-then-not-takes_symbol
unfolding few_tuples_of
returns-then-not-takes_symbol c =
    let took = c.in_ok-take.ensures.taken in
    let shorter = c.in_ok-take.ensures.shrinks in
    rw (c.in_ok-tuples.ensures, c.if-not-takes_symbol.ensures.1)
    (counted_all tuple_of (Sign Comma) IsTupleInside _ c.loop.reader c.take.new.reader c.loop.tuples c.loop.counter c.args.limit c.in_ok-take.field-0 took.tree c.loop.invariant c.loop-test.true took.reads shorter took.keeps c.if-not-takes_symbol.ensures.0)

pub loop-preserved : goal.loop-preserved
loop-preserved c =
    let took = c.in_ok-take.ensures.taken in
    let shorter = c.in_ok-take.ensures.shrinks in
    rw c.in_ok-tuples.ensures
    (counted_more tuple_of (Sign Comma) IsTupleInside _ c.loop.reader c.take.new.reader c.takes_symbol.new.self c.loop.tuples c.loop.counter c.in_ok-take.field-0 took.tree c.loop.invariant took.reads shorter took.keeps c.if-not-takes_symbol.ensures)

pub returns : goal.returns
unfolding few_tuples_of
returns c = counted_full tuple_of (Sign Comma) IsTupleInside _ c.loop.reader c.loop.tuples c.loop.counter c.args.limit c.loop.invariant (omega (arith, c.loop-test.false))
