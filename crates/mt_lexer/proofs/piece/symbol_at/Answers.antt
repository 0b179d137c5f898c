-- The first two bytes tell.
use Rattle.mt_lexer.proofs.Signs.{symbol_found, symbol_not_found}
use Rattle.mt_lexer.proofs.piece.symbol_at.Goals as goal

pub returns-clause-some : goal.returns-clause-some
returns-clause-some c = rw (c.symbol_of.ensures, c.byte_at.ensures) (symbol_found c.args.rest.now)

pub returns-clause-none : goal.returns-clause-none
returns-clause-none c = rw (c.symbol_of.ensures, c.byte_at.ensures) (symbol_not_found c.args.rest.now)
