-- By the first piece.
use Rattle.std.proofs.Common.{map, ◌∙◌}
use Rattle.mt_lexer.specs.Tokens.{Word, lower}
use Rattle.mt_reader.specs.Pieces.{lexeme_of}
use Rattle.mt_reader.proofs.Steps.{at_front, at_end}
use Rattle.mt_reader.proofs.reader.Reader.is_at.Goals as goal

pub returns-in-Some : goal.returns-in-Some
returns-in-Some c = c.is_word.ensures ∙ at_front (lexeme_of c.in-Some.first) (Word (map lower c.args.word.now)) c.args.self.now c.in-Some.ensures.first

pub returns-in-None : goal.returns-in-None
returns-in-None c = at_end (Word (map lower c.args.word.now)) c.args.self.now c.in-None.ensures.none
