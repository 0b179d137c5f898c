-- the text so far, and that of the bytes to come
use Rattle.std.proofs.Common.{◌≡◌, ◌++◌, length}
use Rattle.mt_reader.specs.Pieces.{undoubled}
use Rattle.mt_reader.proofs.piece.undoubled.Given as goal

abbrev pub invariant-loop-front : goal.invariant-loop-front
invariant-loop-front l = l.text.items ++ undoubled l.rest ≡ undoubled l.bytes

abbrev pub decreases-loop-front : goal.decreases-loop-front
decreases-loop-front l = length l.rest
