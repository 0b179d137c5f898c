-- A key takes a token at least.
use Rattle.mt_reader.proofs.Fronts.{took_shrinks}
use Rattle.mt_statements.specs.QueryDescent.{key_of}
use Rattle.mt_statements.specs.QueryInside.{IsKeyInside}
use Rattle.mt_statements.proofs.Keys.{key_shrinks}
use Rattle.mt_statements.proofs.key.KeyFormProduction.take.Goals as goal

pub returns-clause-shrinks : goal.returns-clause-shrinks
returns-clause-shrinks c = took_shrinks IsKeyInside key_of key_shrinks c.key.result c.args.reader.now c.key.new.reader c.key.ensures
