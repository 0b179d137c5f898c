-- What a text says to the service.
use Rattle.std.specs.Prelude.{◌≡◌, ℕ, List}
use Rattle.mt_tree.specs.declared.simple.SimpleStmt.{SimpleStmt}
use Rattle.mt_tree.specs.declared.command.AdminCmd.{AdminCmd}
use Rattle.mt_reader.specs.Forms.{Form}
use Rattle.mt_reader.specs.Reading.{ReadsAs}
use Rattle.mt_grammar.specs.Statement.{SpellsStmt, IsStmtInside}
use Rattle.mt_adminlang.specs.Command.{SpellsCommand}
use Rattle.mt_adminlang.specs.Inside.{IsCommandInside}
use Rattle.mt_schema.specs.Steps.{IsSchemaStep}
use Rattle.mt_model.specs.Served.{statement_tree}

-- What a text says.
pub data Said (T : Type 0) : Type 0 where
  -- it has no reading
  Unread : Said T
  -- it has one, with a number outside 64 bits
  Outside : Said T
  -- it has one inside 64 bits, which is not served
  Unserved : Said T
  Says : (served : T) → Said T

-- the tree is of something that is served
abbrev pub IsServed : {Tree T : Type 0} → (T → Tree) → (T → Type 0) → Tree → Type 0
IsServed {Tree} {T} tree_of served tree = (x : T) × (tree ≡ tree_of x) × served x

-- what a text says in a form, with a test for numbers inside 64 bits, and what is served, with its tree
abbrev pub IsSaid : {Tree T : Type 0} → Form Tree → (Tree → Type 0) → (T → Tree) → (T → Type 0) → List ℕ → Said T → Type 0
IsSaid {Tree} form inside tree_of served text Unread = (tree : Tree) → ReadsAs form text tree → ⊥
IsSaid {Tree} form inside tree_of served text Outside = (tree : Tree) × ReadsAs form text tree × (inside tree → ⊥)
IsSaid {Tree} form inside tree_of served text Unserved = (tree : Tree) × ReadsAs form text tree × inside tree × (IsServed tree_of served tree → ⊥)
IsSaid form inside tree_of served text (Says x) = ReadsAs form text (tree_of x) × inside (tree_of x) × served x

-- what a tenant's text says
abbrev pub IsStatementSaid : List ℕ → Said SimpleStmt → Type 0
IsStatementSaid text said = IsSaid SpellsStmt IsStmtInside statement_tree (λ statement. Unit {0}) text said

-- what the administrator's text says: the schema steps are served
abbrev pub IsCommandSaid : List ℕ → Said AdminCmd → Type 0
IsCommandSaid text said = IsSaid SpellsCommand IsCommandInside (λ command. command) IsSchemaStep text said
