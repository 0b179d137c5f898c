-- A tuple takes a token at least.
use Rattle.mt_reader.proofs.Fronts.{took_shrinks}
use Rattle.mt_statements.specs.ChangeDescent.{tuple_of}
use Rattle.mt_statements.specs.ChangeInside.{IsTupleInside}
use Rattle.mt_statements.proofs.Inserts.{tuple_shrinks}
use Rattle.mt_statements.proofs.tuples.TupleFormProduction.take.Goals as goal

pub returns-clause-shrinks : goal.returns-clause-shrinks
unfolding tuple_of
returns-clause-shrinks c = took_shrinks IsTupleInside tuple_of tuple_shrinks c.bracketed.result c.args.reader.now c.bracketed.new.reader c.bracketed.ensures
