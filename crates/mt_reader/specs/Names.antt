-- Names.
use Rattle.std.specs.Prelude.{◌≡◌, ℕ, false, List, [], ◌∷◌}
use Rattle.mt_lexer.specs.Reserved.{is_reserved_name}
use Rattle.mt_lexer.specs.Tokens.{Lexeme, Word}
use Rattle.mt_reader.specs.Forms.{Bracketed, Commas}

-- a word that is not reserved
abbrev pub IsName : List Lexeme → List ℕ → Type 0
IsName tokens name = (tokens ≡ Word name ∷ []) × (is_reserved_name name ≡ false)

-- '(' name {',' name} ')'
abbrev pub SpellsNames : List Lexeme → List (List ℕ) → Type 0
SpellsNames tokens names = Bracketed (Commas IsName) tokens names
