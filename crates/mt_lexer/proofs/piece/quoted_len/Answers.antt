-- A quote that stands once closes the text.
use Rattle.std.proofs.Common.{◌∙◌, sym}
use Rattle.mt_lexer.proofs.Quotes.{open_first, open_more, open_twice, open_at_end}
use Rattle.mt_lexer.proofs.piece.quoted_len.Goals as goal

pub loop-at-init : goal.loop-at-init
loop-at-init c = open_first c.args.rest.now (sym c.byte_at.ensures ∙ c.if-byte_at-ne-QUOTE.false)

pub loop-at-preserved-then-rest-at-ne-QUOTE : goal.loop-at-preserved-then-rest-at-ne-QUOTE
loop-at-preserved-then-rest-at-ne-QUOTE c =
    open_more c.args.rest.now c.loop-at.at c.loop-at-test.true c.if-rest-at-ne-QUOTE.true c.loop-at.invariant

pub loop-at-preserved : goal.loop-at-preserved
loop-at-preserved c =
    open_twice c.args.rest.now c.loop-at.at c.loop-at-test.true c.if-rest-at-ne-QUOTE.false (sym c.byte_at-else-rest-at-ne-QUOTE.ensures ∙ c.if-byte_at-eq-QUOTE.true) c.loop-at.invariant

pub returns-clause-none : goal.returns-clause-none
returns-clause-none c =
    λ n text r. open_at_end c.args.rest.now c.loop-at.at n text c.loop-at-test.false c.loop-at.invariant r
