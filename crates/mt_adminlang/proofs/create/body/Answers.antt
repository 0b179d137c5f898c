-- A column, and more where a comma follows and no PRIMARY.
use Rattle.std.proofs.Common.{Some, length, ap, ◌∙◌, arith}
use Rattle.mt_adminlang.proofs.Bodies.{next_comma}
use Rattle.mt_adminlang.proofs.Loops.{columns_none, columns_key, columns_more}
use Rattle.mt_adminlang.proofs.create.body.Goals as goal

pub loop-columns-init : goal.loop-columns-init
loop-columns-init c = rw c.new.ensures (columns_none c.args.reader.now)

pub returns-in-Some : goal.returns-in-Some
returns-in-Some c =
    let took = c.in_ok-take.ensures.taken in
    let next = c.in_ok-key.ensures ∙ ap (λ next. Some (next, c.behind_column.new.reader)) c.in-Some.is in
    rw (c.with_key.ensures, c.in_ok-columns.ensures)
    (columns_key _ c.loop-columns.reader c.loop-columns.columns c.loop-columns.invariant c.take.new.reader c.in_ok-take.field-0 took.tree took.reads took.keeps c.behind_column.new.reader c.in-Some.key next)

pub loop-columns-smaller : goal.loop-columns-smaller
loop-columns-smaller c =
    let shorter = c.in_ok-take.ensures.shrinks in
    let next = c.in_ok-key.ensures ∙ ap (λ next. Some (next, c.behind_column.new.reader)) c.in-None.is in
    omega (arith, ap length (next_comma c.take.new.reader c.behind_column.new.reader next))

pub loop-columns-preserved : goal.loop-columns-preserved
loop-columns-preserved c =
    let took = c.in_ok-take.ensures.taken in
    let next = c.in_ok-key.ensures ∙ ap (λ next. Some (next, c.behind_column.new.reader)) c.in-None.is in
    rw c.in_ok-columns.ensures
    (columns_more _ c.loop-columns.reader c.loop-columns.columns c.loop-columns.invariant c.take.new.reader c.in_ok-take.field-0 took.tree took.reads took.keeps c.behind_column.new.reader next)
