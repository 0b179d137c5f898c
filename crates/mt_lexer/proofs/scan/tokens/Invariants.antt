-- The tokens found are the text's up to this place.
use Rattle.std.proofs.Common.{◌-◌, length}
use Rattle.mt_lexer.proofs.Tiling.{Reached}
use Rattle.mt_lexer.proofs.scan.tokens.Given as goal

abbrev pub invariant-loop-at : goal.invariant-loop-at
invariant-loop-at l = Reached l.bytes l.found l.at

abbrev pub decreases-loop-at : goal.decreases-loop-at
decreases-loop-at l = length l.bytes - l.at
