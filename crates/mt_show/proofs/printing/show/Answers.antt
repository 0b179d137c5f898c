-- The tokens that are printed spell the statement, and the text of them says them.
use Rattle.mt_show.proofs.Printed.{shows_again}
use Rattle.mt_show.proofs.printing.show.Goals as goal

pub returns-clause-reads : goal.returns-clause-reads
returns-clause-reads c = shows_again c.args.statement.now c.print.result c.print.ensures
