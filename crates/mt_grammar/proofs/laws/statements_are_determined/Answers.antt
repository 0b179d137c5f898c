-- A reading is what reading from the left gives, and that is one.
use Rattle.mt_reader.proofs.Texts.{reads_unique}
use Rattle.mt_grammar.specs.Descent.{statement_of}
use Rattle.mt_grammar.specs.Statement.{SpellsStmt}
use Rattle.mt_grammar.proofs.Statements.{statement_complete}
use Rattle.mt_grammar.proofs.laws.statements_are_determined.Goals as goal

pub returns : goal.returns
returns c = reads_unique SpellsStmt statement_of statement_complete
