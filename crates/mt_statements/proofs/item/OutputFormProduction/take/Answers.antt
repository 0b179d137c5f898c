-- An item takes a token at least.
use Rattle.mt_reader.proofs.Fronts.{took_shrinks}
use Rattle.mt_statements.specs.QueryDescent.{item_of}
use Rattle.mt_statements.specs.QueryInside.{IsItemInside}
use Rattle.mt_statements.proofs.Outputs.{item_shrinks}
use Rattle.mt_statements.proofs.item.OutputFormProduction.take.Goals as goal

pub returns-clause-shrinks : goal.returns-clause-shrinks
returns-clause-shrinks c = took_shrinks IsItemInside item_of item_shrinks c.item.result c.args.reader.now c.item.new.reader c.item.ensures
