-- Where a number stands there are digits, and no byte of a word follows them.
use Rattle.std.proofs.Common.{◌∙◌, sym, ap, arith}
use Rattle.std.proofs.lemmas.Bool.{false≢true}
use Rattle.mt_lexer.specs.Tokens.{is_in_word}
use Rattle.mt_lexer.proofs.Reading.{number_is_digits}
use Rattle.mt_lexer.proofs.piece.number_len.Goals as goal
use Rattle.mt_lexer.proofs.piece.number_len.Goals.{else-len-gt0-via-then-len-gt0+else-not-is_in_word, else-len-gt0-via-else-len-gt0}

pub returns-else-len-gt0-clause-none : goal.returns-else-len-gt0-clause-none
returns-else-len-gt0-clause-none c =
    let digits = c.digits_len-len.ensures in
    λ n value r. let h = number_is_digits c.args.rest.now c.digits_len-len.result n value digits.within digits.run digits.ends r in
    elim c.else-len-gt0.branch [
      | else-len-gt0-via-then-len-gt0+else-not-is_in_word w ↦ false≢true (sym h.1 ∙ ap is_in_word (sym w.byte_at.ensures) ∙ sym w.is_in_word.ensures ∙ w.if-not-is_in_word.false)
      | else-len-gt0-via-else-len-gt0 w ↦ omega arith
    ]
