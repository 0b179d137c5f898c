-- A literal has a token at least.
use Rattle.mt_reader.specs.Descent.{literal_of}
use Rattle.mt_reader.specs.Literals.{IsLiteralInside}
use Rattle.mt_reader.proofs.Shrinking.{literal_shrinks}
use Rattle.mt_reader.proofs.Fronts.{took_shrinks}
use Rattle.mt_reader.proofs.literal.LiteralFormProduction.take.Goals as goal

pub returns-clause-shrinks : goal.returns-clause-shrinks
returns-clause-shrinks c = took_shrinks IsLiteralInside literal_of literal_shrinks c.literal.result c.args.reader.now c.literal.new.reader c.literal.ensures
