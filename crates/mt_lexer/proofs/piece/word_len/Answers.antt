-- A word is a whole run.
use Rattle.std.proofs.Common.{◌∙◌, sym, arith}
use Rattle.std.proofs.lemmas.Bool.{false≢true}
use Rattle.mt_lexer.proofs.Reading.{word_from_run, word_is_run}
use Rattle.mt_lexer.proofs.piece.word_len.Goals as goal
use Rattle.mt_lexer.proofs.piece.word_len.Goals.{else-len-gt0-via-then-len-gt0+then-len-le-WORD_LIMIT+else-begins_word, else-len-gt0-via-then-len-gt0+else-len-le-WORD_LIMIT, else-len-gt0-via-else-len-gt0}

pub returns-then-begins_word-clause-some : goal.returns-then-begins_word-clause-some
returns-then-begins_word-clause-some c =
    word_from_run c.args.rest.now c.run_len-len.result c.run_len-len.ensures (omega arith) (omega arith) (sym c.begins_word.ensures ∙ c.if-begins_word.true)

pub returns-else-len-gt0-clause-none : goal.returns-else-len-gt0-clause-none
returns-else-len-gt0-clause-none c =
    λ n name r. let h = word_is_run c.args.rest.now c.run_len-len.result n name c.run_len-len.ensures r in
    elim c.else-len-gt0.branch [
      | else-len-gt0-via-then-len-gt0+then-len-le-WORD_LIMIT+else-begins_word w ↦ false≢true (sym w.if-begins_word.false ∙ w.begins_word.ensures ∙ h.2)
      | else-len-gt0-via-then-len-gt0+else-len-le-WORD_LIMIT w ↦ omega arith
      | else-len-gt0-via-else-len-gt0 w ↦ omega arith
    ]
