-- The reading of a text, and what a call that reads a whole text answers.
use Rattle.std.specs.Prelude.{ℕ, List, Result, Ok, Err}
use Rattle.mt_lexer.specs.declared.token.Token.{Token}
use Rattle.mt_lexer.specs.Tokens as lexer
use Rattle.mt_lexer.specs.Tokens.{Lexeme}
use Rattle.mt_reader.specs.declared.parse.ParseFault.{ParseFault}
use Rattle.mt_reader.specs.declared.parse.ParseFault.TheVariants as fault
use Rattle.mt_reader.specs.Forms.{Form, WithSemicolon}

-- the text has the form, perhaps with a semicolon at the end, and this tree
pub record ReadsAs {T : Type 0} (form : Form T) (text : List ℕ) (tree : T) : Type 0 where
  pub tokens : List Token
  pub lexemes : List Lexeme
  pub says : lexer.Says text tokens lexemes
  pub spelled : WithSemicolon form lexemes tree

-- The tree that the text reads as, each number of it inside 64 bits; or why not: there is no reading,
-- or one with a number outside. Want of memory says nothing.
abbrev pub Gives : {T : Type 0} → Form T → (T → Type 0) → List ℕ → Result T ParseFault → Type 0
Gives form inside text (Ok tree) = ReadsAs form text tree × inside tree
Gives {T} form inside text (Err fault.Syntax) = (tree : T) → ReadsAs form text tree → ⊥
Gives {T} form inside text (Err fault.Literal) = (tree : T) × ReadsAs form text tree × (inside tree → ⊥)
Gives form inside text (Err fault.Memory) = Unit {0}
