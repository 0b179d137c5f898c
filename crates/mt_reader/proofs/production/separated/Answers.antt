-- An item, and a comma where more follow.
use Rattle.std.proofs.Common.{arith}
use Rattle.std.proofs.lemmas.Result.{err_from_is_err_and}
use Rattle.mt_lexer.specs.Tokens.{Sign}
use Rattle.mt_lexer.specs.declared.token.Symbol.TheVariants.{Comma}
use Rattle.mt_reader.proofs.Shrinking.{after_shrinks}
use Rattle.mt_reader.proofs.Lists.{so_far_none, so_far_more, so_far_all, so_far_fault}
use Rattle.mt_reader.proofs.production.separated.Goals as goal

pub loop-items-init : goal.loop-items-init
loop-items-init g c = rw c.new.ensures (so_far_none g.P.Production.read (Sign Comma) g.P.Production.is_inside c.args.reader.now)

pub returns-in_err-take : goal.returns-in_err-take
returns-in_err-take g c =
    let p = err_from_is_err_and c.from_residual.result c.from_residual.ensures.1 in
    rw (p.1, p.2) (so_far_fault g.P.Production.read (Sign Comma) g.P.Production.is_inside _ c.loop-items.reader c.loop-items.items c.in_err-take.field-0.0 c.loop-items.invariant c.in_err-take.ensures.taken)

pub returns-then-not-takes_symbol : goal.returns-then-not-takes_symbol
returns-then-not-takes_symbol g c =
    let took = c.in_ok-take.ensures.taken in
    let shorter = c.in_ok-take.ensures.shrinks in
    rw (c.in_ok-items.ensures, c.if-not-takes_symbol.ensures.1)
    (so_far_all g.P.Production.read (Sign Comma) g.P.Production.is_inside _ c.loop-items.reader c.take.new.reader c.loop-items.items c.in_ok-take.field-0 took.tree c.loop-items.invariant took.reads shorter took.keeps c.if-not-takes_symbol.ensures.0)

pub loop-items-smaller : goal.loop-items-smaller
loop-items-smaller g c =
    let took = c.in_ok-take.ensures.taken in
    let shorter = c.in_ok-take.ensures.shrinks in
    omega (arith, after_shrinks _ c.take.new.reader c.takes_symbol.new.self c.if-not-takes_symbol.ensures)

pub loop-items-preserved : goal.loop-items-preserved
loop-items-preserved g c =
    let took = c.in_ok-take.ensures.taken in
    let shorter = c.in_ok-take.ensures.shrinks in
    rw c.in_ok-items.ensures
    (so_far_more g.P.Production.read (Sign Comma) g.P.Production.is_inside _ c.loop-items.reader c.take.new.reader c.takes_symbol.new.self c.loop-items.items c.in_ok-take.field-0 took.tree c.loop-items.invariant took.reads shorter took.keeps c.if-not-takes_symbol.ensures)
