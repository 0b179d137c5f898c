-- What a text gives is what it says.
use Rattle.mt_grammar.specs.Statement.{SpellsStmt, IsStmtInside}
use Rattle.mt_adminlang.specs.Command.{SpellsCommand}
use Rattle.mt_adminlang.specs.Inside.{IsCommandInside}
use Rattle.mt_schema.specs.Steps.{IsSchemaStep}
use Rattle.mt_model.specs.Served.{statement_tree}
use Rattle.mt_model.proofs.OneRequest.{gives-said}
use Rattle.mt_model.proofs.ServedTrees.{statement-served, command-served}
use Rattle.mt_model.proofs.laws.each_text_says_something.Goals as goal

pub returns-clause-statement : goal.returns-clause-statement
returns-clause-statement c = λ text. let g = c.each_statement_text_gives_something.ensures text in gives-said SpellsStmt IsStmtInside statement_tree (λ statement. Unit {0}) statement-served text g.0 g.1 g.2

pub returns-clause-command : goal.returns-clause-command
returns-clause-command c = λ text. let g = c.each_command_text_gives_something.ensures text in gives-said SpellsCommand IsCommandInside (λ command. command) IsSchemaStep command-served text g.0 g.1 g.2
