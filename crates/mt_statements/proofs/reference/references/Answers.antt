-- The first reference, and others as far as one begins.
use Rattle.std.proofs.Common.{Some, ◌-◌, sym, ap, ◌∙◌, subst, arith}
use Rattle.std.specs.Prelude.{IfSome}
use Rattle.std.proofs.lemmas.Result.{err_from_is_err_and}
use Rattle.mt_terms.specs.Inside.{IsCondInside}
use Rattle.mt_statements.proofs.Refs.{refs_first_fails, refs_so_far_first, refs_so_far_more, refs_so_far_all}
use Rattle.mt_statements.proofs.Tables.{table_alone}
use Rattle.mt_statements.proofs.reference.references.Goals as goal

pub returns-in_err-first : goal.returns-in_err-first
returns-in_err-first c =
    let p = err_from_is_err_and c.from_residual.result c.from_residual.ensures.1 in
    rw (p.1, p.2) (refs_first_fails c.args.reader.now c.in_err-first.field-0.0 c.in_err-first.ensures)

pub loop-refs-init : goal.loop-refs-init
loop-refs-init c =
    let ref = c.in_ok-first.first in
    let read = c.in_ok-first.ensures in
    let inside = subst (λ on. IfSome on IsCondInside) (sym (table_alone c.args.reader.now c.table.new.reader ref read)) tt in
    rw (c.in_ok-refs.ensures, c.new.ensures) (refs_so_far_first c.args.reader.now c.table.new.reader ref read inside)

pub loop-refs-preserved : goal.loop-refs-preserved
loop-refs-preserved c =
    let took = c.in_ok-following.ensures in
    let starts = c.in_ok-start.ensures ∙ ap (λ start. Some (start, c.next_start.new.reader)) c.in-Some.is in
    rw c.in_ok-refs-2.ensures
    (refs_so_far_more _ c.loop-refs.reader c.loop-refs.room c.loop-refs.refs c.loop-refs.invariant c.in-Some.start c.next_start.new.reader c.following.new.reader (c.loop-refs.room - 1) c.in_ok-following.field-0 took.tree (omega (arith, c.if-room-eq0.false)) starts took.reads took.keeps)

pub returns : goal.returns
returns c =
    refs_so_far_all _ c.loop-refs.reader c.loop-refs.room c.loop-refs.refs c.loop-refs.invariant c.next_start.new.reader
    (c.in_ok-start.ensures ∙ ap (λ start. Some (start, c.next_start.new.reader)) c.in_default.is)
