-- Three symbols have two bytes, and the others one.
use Rattle.mt_lexer.proofs.Signs.{two_bytes, one_byte}
use Rattle.mt_lexer.proofs.piece.symbol_len.Goals as goal

pub returns-in-NotEqual : goal.returns-in-NotEqual
returns-in-NotEqual c = two_bytes c.args.symbol c.in-NotEqual.is

pub returns-in_default : goal.returns-in_default
returns-in_default c = one_byte c.args.symbol c.in_default.not-NotEqual c.in_default.not-LessEqual c.in_default.not-GreaterEqual
