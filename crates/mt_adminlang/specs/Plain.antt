-- The commands but EXPLAIN.
use Rattle.std.specs.Prelude.{List}
use Rattle.mt_lexer.specs.Tokens.{Lexeme}
use Rattle.mt_tree.specs.declared.command.AdminCmd.{AdminCmd}
use Rattle.mt_tree.specs.declared.command.AdminCmd.TheVariants.{Explain}
use Rattle.mt_adminlang.specs.Command.{SpellsCommand}

-- any command but an EXPLAIN
abbrev pub SpellsPlainCommand : List Lexeme → AdminCmd → Type 0
SpellsPlainCommand tokens (Explain tenant select) = ⊥
SpellsPlainCommand tokens command = SpellsCommand tokens command
