-- It takes a token at least.
use Rattle.mt_adminlang.proofs.Folds.{chunk_shrinks}
use Rattle.mt_adminlang.proofs.fold.ChunkFormProduction.take.Goals as goal

pub returns-clause-shrinks : goal.returns-clause-shrinks
returns-clause-shrinks c = chunk_shrinks c.args.reader.now c.chunk.new.reader c.in_ok-chunk.field-0 c.in_ok-chunk.ensures
