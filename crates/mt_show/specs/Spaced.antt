-- The text that tokens are collected as: a space in front of each.
use Rattle.std.specs.Prelude.{ℕ, List, ◌∷◌, flat_map}
use Rattle.mt_lexer.specs.Tokens.{Lexeme}
use Rattle.mt_show.specs.Text.{lexeme_text}

-- for each token a space and its text
unfoldable pub spaced : List Lexeme → List ℕ
spaced lexemes = flat_map (λ lexeme. 32 ∷ lexeme_text lexeme) lexemes
