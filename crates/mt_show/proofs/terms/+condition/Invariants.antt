-- The first members are printed.
use Rattle.std.proofs.Common.{◌≡◌, ◌++◌, take, map}
use Rattle.mt_lexer.specs.Tokens.{Word}
use Rattle.mt_show.specs.Spaced.{spaced}
use Rattle.mt_show.specs.Shown.{between, cond_places}
use Rattle.mt_show.specs.Printing.{placed}
use Rattle.mt_show.proofs.terms.+condition.Given as goal

abbrev pub invariant-joined-loop-index : goal.invariant-joined-loop-index
invariant-joined-loop-index l = l.printer ≡ l.fn.printer ++ spaced (between (Word l.word) (map (λ member. placed l.place (cond_places member)) (take l.index l.members)))
