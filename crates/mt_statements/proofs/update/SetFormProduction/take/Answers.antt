-- An assignment is read with its expression, and has a token at least.
use Rattle.mt_statements.proofs.Assignments.{set_took, set_shrinks}
use Rattle.mt_statements.proofs.update.SetFormProduction.take.Goals as goal

pub returns-clause-taken : goal.returns-clause-taken
returns-clause-taken c =
    rw c.assignment.ensures (set_took c.in_ok-column.column c.args.reader.now c.name.new.self c.symbol.new.self c.take.new.reader c.in_ok-expr.expr c.in_ok-column.ensures c.in_ok-symbol.ensures c.in_ok-expr.ensures.taken)

pub returns-clause-shrinks : goal.returns-clause-shrinks
returns-clause-shrinks c =
    let t = set_took c.in_ok-column.column c.args.reader.now c.name.new.self c.symbol.new.self c.take.new.reader c.in_ok-expr.expr c.in_ok-column.ensures c.in_ok-symbol.ensures c.in_ok-expr.ensures.taken in
    set_shrinks c.args.reader.now c.take.new.reader t.tree t.reads
