-- A column takes a token at least.
use Rattle.mt_terms.proofs.Atoms.{column_shrinks}
use Rattle.mt_terms.proofs.form.ColumnFormProduction.take.Goals as goal

pub returns-clause-shrinks : goal.returns-clause-shrinks
returns-clause-shrinks c = column_shrinks c.args.reader.now c.column.new.reader c.in_ok-column.field-0 c.in_ok-column.ensures
