-- The statements of a tenant, over the tokens of a text.
use Rattle.std.specs.Prelude.{List}
use Rattle.mt_lexer.specs.Tokens.{Lexeme}
use Rattle.mt_tree.specs.declared.statement.Stmt.{Stmt}
use Rattle.mt_tree.specs.declared.statement.Stmt.TheVariants as stmt
use Rattle.mt_statements.specs.Query.{SpellsSelect}
use Rattle.mt_statements.specs.QueryInside.{IsSelectInside}
use Rattle.mt_statements.specs.Change.{SpellsChange}
use Rattle.mt_statements.specs.ChangeInside.{IsChangeInside}

-- select | insert | update | delete | restore | purge
unfoldable pub SpellsStmt : List Lexeme → Stmt → Type 0
SpellsStmt tokens (stmt.Select select) = SpellsSelect tokens select
SpellsStmt tokens other = SpellsChange tokens other

-- each number of a statement is inside 64 bits
unfoldable pub IsStmtInside : Stmt → Type 0
IsStmtInside (stmt.Select select) = IsSelectInside select
IsStmtInside other = IsChangeInside other
