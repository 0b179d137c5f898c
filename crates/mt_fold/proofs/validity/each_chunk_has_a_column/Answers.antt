use Rattle.std.proofs.Common.{below_more}
use Rattle.mt_fold.proofs.validity.each_chunk_has_a_column.Goals as goal

pub loop-chunk-preserved : goal.loop-chunk-preserved
loop-chunk-preserved c = below_more _ _ c.loop-chunk.invariant (c.has_column.ensures.0 c.if-not-has_column.false)
