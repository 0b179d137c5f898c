-- What a call that reads a form from the left promises.
use Rattle.std.specs.Prelude.{◌≡◌, ◌⊎◌, Result, Ok, Err, List, [], ◌∷◌, ◌++◌}
use Rattle.mt_lexer.specs.Tokens.{Lexeme, Sign}
use Rattle.mt_lexer.specs.declared.token.Symbol.TheVariants.{Semicolon}
use Rattle.mt_reader.specs.declared.fault.ReadFault.{ReadFault}
use Rattle.mt_reader.specs.declared.fault.ReadFault.TheVariants as fault
use Rattle.mt_reader.specs.Forms.{Form}

-- The tokens begin with a spelling of the tree, and the rest follows.
pub record Begins {T : Type 0} (form : Form T) (tokens rest : List Lexeme) (tree : T) : Type 0 where
  pub front : List Lexeme
  pub whole : tokens ≡ front ++ rest
  pub spelled : form front tree

-- none of these words and symbols comes first
abbrev pub BeginsWithNone : List Lexeme → List Lexeme → Type 0
BeginsWithNone [] tokens = Unit {0}
BeginsWithNone (lexeme ∷ lexemes) tokens = ((rest : List Lexeme) → tokens ≡ lexeme ∷ rest → ⊥) × BeginsWithNone lexemes tokens

-- nothing follows, but perhaps a semicolon
abbrev pub AtEnd : List Lexeme → Type 0
AtEnd tokens = (tokens ≡ []) ⊎ (tokens ≡ Sign Semicolon ∷ [])

-- The front of the tokens spells a tree, this is left, and this is kept of the tree. It is the one
-- front that spells a tree, of those behind which the form ends.
pub record TookFront {X T : Type 0} (form : Form T) (ends : List Lexeme → Type 0) (keeps : X → T → Type 0) (kept : X) (tokens left : List Lexeme) : Type 0 where
  pub tree : T
  pub begins : Begins form tokens left tree
  pub keeps_it : keeps kept tree
  pub only : (other : T) (rest : List Lexeme) → ends rest → Begins form tokens rest other → (other ≡ tree) × (rest ≡ left)

-- The call took a front, or there is none to take; want of memory says nothing.
abbrev pub TakesFront : {X T : Type 0} → Form T → (List Lexeme → Type 0) → (X → T → Type 0) → Result X ReadFault → List Lexeme → List Lexeme → Type 0
TakesFront form ends keeps (Ok kept) tokens left = TookFront form ends keeps kept tokens left
TakesFront {X} {T} form ends keeps (Err fault.Unread) tokens left = (tree : T) (rest : List Lexeme) → ends rest → Begins form tokens rest tree → ⊥
TakesFront form ends keeps (Err fault.Memory) tokens left = Unit {0}
