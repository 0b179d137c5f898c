-- A name is a token.
use Rattle.mt_reader.proofs.Shrinking.{name_shrinks}
use Rattle.mt_reader.proofs.production.NameFormProduction.take.Goals as goal

pub returns-clause-shrinks : goal.returns-clause-shrinks
returns-clause-shrinks c = name_shrinks c.args.reader.now c.name.new.self c.in_ok-name.field-0 c.in_ok-name.ensures
