-- One more byte passes.
use Rattle.std.proofs.Common.{◌∙◌, sym, arith}
use Rattle.mt_lexer.proofs.Runs.{run_more}
use Rattle.mt_lexer.proofs.piece.run_len.Goals as goal

pub loop-len-preserved : goal.loop-len-preserved
loop-len-preserved c =
    (omega arith, run_more c.args.rest.now c.loop-len.len c.loop-len-test.true c.loop-len.invariant.1 (sym c.is_in_word.ensures ∙ c.if-is_in_word.true))
