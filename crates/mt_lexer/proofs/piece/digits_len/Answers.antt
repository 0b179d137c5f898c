-- One more byte passes.
use Rattle.std.proofs.Common.{◌≡◌, true, ◌∙◌, sym, arith}
use Rattle.std.proofs.lemmas.List.Elements.{All-more}
use Rattle.mt_lexer.specs.Tokens.{is_digit}
use Rattle.mt_lexer.proofs.piece.digits_len.Goals as goal

pub loop-len-preserved : goal.loop-len-preserved
loop-len-preserved c =
    (omega arith, All-more (λ b. is_digit b ≡ true) c.args.rest.now c.loop-len.len 0 c.loop-len-test.true c.loop-len.invariant.1 (sym c.is_digit.ensures ∙ c.if-is_digit.true))
