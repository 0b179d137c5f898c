-- The bytes so far are digits.
use Rattle.std.proofs.Common.{◌-◌, ◌≤◌, length, take}
use Rattle.std.specs.List.{AllPass}
use Rattle.mt_lexer.specs.Tokens.{is_digit}
use Rattle.mt_lexer.proofs.piece.digits_len.Given as goal

abbrev pub invariant-loop-len : goal.invariant-loop-len
invariant-loop-len l = (l.len ≤ length l.rest) × AllPass is_digit (take l.len l.rest)

abbrev pub decreases-loop-len : goal.decreases-loop-len
decreases-loop-len l = length l.rest - l.len
