-- Statements as a function, which reads lexemes from the left: the tree, and the lexemes behind it.
use Rattle.std.specs.Prelude.{Option, Some, is_some, if◌then◌else◌, List, codes}
use Rattle.mt_lexer.specs.Tokens.{Lexeme, Word}
use Rattle.mt_tree.specs.declared.statement.Stmt.{Stmt}
use Rattle.mt_tree.specs.declared.statement.Stmt.TheVariants as stmt
use Rattle.mt_reader.specs.Descent.{◌>>=◌, after, ended}
use Rattle.mt_statements.specs.QueryDescent.{select_of}
use Rattle.mt_statements.specs.ChangeDescent.{change_of}

-- a SELECT as a statement
abbrev pub selection_of : List Lexeme → Option (Stmt × List Lexeme)
selection_of lexemes = do
  select ← select_of lexemes
  Some (stmt.Select select.0, select.1)

-- a SELECT where the word comes first, and else a change
unfoldable pub form_of : List Lexeme → Option (Stmt × List Lexeme)
form_of lexemes = if is_some (after (Word (codes "select")) lexemes) then selection_of lexemes else change_of lexemes

-- a whole statement
unfoldable pub statement_of : List Lexeme → Option Stmt
statement_of lexemes = ended (form_of lexemes)
