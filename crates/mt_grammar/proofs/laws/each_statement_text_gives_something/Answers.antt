use Rattle.mt_reader.proofs.Decided.{text_gives}
use Rattle.mt_grammar.specs.Descent.{statement_of}
use Rattle.mt_grammar.specs.Statement.{SpellsStmt, IsStmtInside}
use Rattle.mt_grammar.proofs.Insides.{stmt_or_not}
use Rattle.mt_grammar.proofs.Statements.{statement_sound, statement_complete}
use Rattle.mt_grammar.proofs.laws.each_statement_text_gives_something.Goals as goal

pub returns : goal.returns
returns c = text_gives SpellsStmt IsStmtInside statement_of statement_sound statement_complete stmt_or_not
