-- What a line says.
use Rattle.std.specs.Prelude.{ℕ, List}
use Rattle.mt_tree.specs.declared.who.Who.{Who}
use Rattle.mt_tree.specs.declared.who.Who.TheVariants.{Admin, Tenant}
use Rattle.mt_tree.specs.declared.simple.SimpleStmt.{SimpleStmt}
use Rattle.mt_tree.specs.declared.command.AdminCmd.{AdminCmd}
use Rattle.mt_script.specs.Lines as lines
use Rattle.mt_script.specs.Lines.{Line}
use Rattle.mt_script.specs.Tags.{HasTag}
use Rattle.mt_model.specs.Said.{Said, IsStatementSaid, IsCommandSaid}

-- what a line asks: of a tenant's database, or of the service
pub data Request : Type 0 where
  Overlong : Request
  -- the line is not UTF-8, or has no tag
  Unreadable : Request
  Statement : (tenant : ℕ) (said : Said SimpleStmt) → Request
  Command : (said : Said AdminCmd) → Request

-- the line has the tag, and the text behind it says this
pub record IsSent (bytes : List ℕ) (who : Who) (says_it : List ℕ → Type 0) : Type 0 where
  pub text : List ℕ
  pub tagged : HasTag bytes who text
  pub says : says_it text

-- the line says this; each line says one thing
abbrev pub IsRequest : Line → Request → Type 0
IsRequest lines.TooLong Overlong = Unit {0}
IsRequest lines.TooLong request = ⊥
IsRequest (lines.Text bytes) Overlong = ⊥
IsRequest (lines.Text bytes) Unreadable = (who : Who) (text : List ℕ) → HasTag bytes who text → ⊥
IsRequest (lines.Text bytes) (Statement tenant said) = IsSent bytes (Tenant tenant) (λ text. IsStatementSaid text said)
IsRequest (lines.Text bytes) (Command said) = IsSent bytes Admin (λ text. IsCommandSaid text said)
