-- One more part is printed behind the others.
use Rattle.mt_lexer.specs.Tokens.{Sign}
use Rattle.mt_lexer.specs.declared.token.Symbol.TheVariants as symbol
use Rattle.mt_show.proofs.PrintSteps.{member_printed}
use Rattle.mt_show.proofs.part.listed.Goals as goal

pub loop-index-preserved : goal.loop-index-preserved
loop-index-preserved g c =
    member_printed g.T.Part.tokens (Sign symbol.Comma) c.args.parts.now c.loop-index.index c.index-parts-index.result _ _ _ _ c.loop-index-test.true c.index-parts-index.is c.loop-index.invariant c.in_ok-symbol_between.ensures c.in_ok-print.ensures
