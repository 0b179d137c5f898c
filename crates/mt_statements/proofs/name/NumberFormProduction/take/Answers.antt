-- A number is a token.
use Rattle.mt_reader.specs.Descent.{number_of}
use Rattle.mt_reader.proofs.Fronts.{took_shrinks}
use Rattle.mt_reader.proofs.Shrinking.{number_shrinks}
use Rattle.mt_statements.specs.QueryInside.{IsNumberInside}
use Rattle.mt_statements.proofs.name.NumberFormProduction.take.Goals as goal

pub returns-clause-shrinks : goal.returns-clause-shrinks
returns-clause-shrinks c = took_shrinks IsNumberInside number_of number_shrinks c.number.result c.args.reader.now c.number.new.reader c.number.ensures
