-- It takes a token at least.
use Rattle.mt_reader.proofs.Fronts.{took_shrinks}
use Rattle.mt_adminlang.specs.Descent.{def_of}
use Rattle.mt_adminlang.specs.Inside.{IsDefInside}
use Rattle.mt_adminlang.proofs.Definitions.{def_shrinks}
use Rattle.mt_adminlang.proofs.column.DefFormProduction.take.Goals as goal

pub returns-clause-shrinks : goal.returns-clause-shrinks
returns-clause-shrinks c = took_shrinks IsDefInside def_of def_shrinks c.definition.result c.args.reader.now c.definition.new.reader c.definition.ensures
