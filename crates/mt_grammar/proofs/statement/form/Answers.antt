-- The word SELECT decides.
use Rattle.std.proofs.Common.{sym}
use Rattle.std.proofs.lemmas.Result.{err_from_is_err_and}
use Rattle.mt_grammar.proofs.Statements.{change_takes, selection_took, selection_fails}
use Rattle.mt_grammar.proofs.statement.form.Goals as goal

pub returns-then-not-is_at : goal.returns-then-not-is_at
returns-then-not-is_at c = change_takes c.args.reader.now c.read_change.new.reader c.read_change.result (sym c.if-not-is_at.ensures) c.read_change.ensures.taken

pub returns-in_err-select : goal.returns-in_err-select
returns-in_err-select c =
    let p = err_from_is_err_and c.from_residual.result c.from_residual.ensures.1 in
    rw (p.1, p.2) (selection_fails c.args.reader.now c.read_select.new.reader (sym c.if-not-is_at.ensures) c.in_err-select.field-0.0 c.in_err-select.ensures.taken)

pub returns : goal.returns
returns c = rw c.selection.ensures (selection_took c.args.reader.now c.read_select.new.reader (sym c.if-not-is_at.ensures) c.in_ok-select.select c.in_ok-select.ensures.taken)
