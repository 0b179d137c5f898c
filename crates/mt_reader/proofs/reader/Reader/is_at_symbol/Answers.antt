-- By the first piece.
use Rattle.std.proofs.Common.{◌∙◌}
use Rattle.mt_lexer.specs.Tokens.{Sign}
use Rattle.mt_reader.specs.Pieces.{lexeme_of}
use Rattle.mt_reader.proofs.Steps.{at_front, at_end}
use Rattle.mt_reader.proofs.reader.Reader.is_at_symbol.Goals as goal

pub returns-in-Some : goal.returns-in-Some
returns-in-Some c = c.is_symbol.ensures ∙ at_front (lexeme_of c.in-Some.first) (Sign c.args.symbol) c.args.self.now c.in-Some.ensures.first

pub returns-in-None : goal.returns-in-None
returns-in-None c = at_end (Sign c.args.symbol) c.args.self.now c.in-None.ensures.none
