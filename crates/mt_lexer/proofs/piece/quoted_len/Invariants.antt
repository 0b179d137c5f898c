-- Behind the first quote stands a text so far, each quote in it twice.
use Rattle.std.proofs.Common.{◌-◌, length}
use Rattle.mt_lexer.proofs.Quotes.{IsOpenQuote}
use Rattle.mt_lexer.proofs.piece.quoted_len.Given as goal

abbrev pub invariant-loop-at : goal.invariant-loop-at
invariant-loop-at l = IsOpenQuote l.rest l.at

abbrev pub decreases-loop-at : goal.decreases-loop-at
decreases-loop-at l = length l.rest - l.at
