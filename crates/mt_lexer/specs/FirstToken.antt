-- What the bytes from a place on begin with.
use Rattle.std.specs.Prelude.{ℕ, ◌≤◌, ◌==◌, nat_le, Bool, false, not, ◌&&◌, if◌then◌else◌, Option, Some, None, List, [], ◌∷◌, length, take, drop}
use Rattle.std.specs.List.{AllPass, list_all, list_any}
use Rattle.mt_lexer.specs.declared.token.Symbol.{Symbol}
use Rattle.mt_lexer.specs.declared.token.Symbol.TheVariants as symbol
use Rattle.mt_lexer.specs.Tokens.{Lexeme, Spells, EndsBefore, BeginsNoWith, begins_word, is_in_word, is_upper}

-- The first n bytes spell this, and it ends there.
pub record IsFirstToken (rest : List ℕ) (n : ℕ) (lexeme : Lexeme) : Type 0 where
  pub within : n ≤ length rest
  pub spelling : Spells (take n rest) lexeme
  pub ends : EndsBefore lexeme (drop n rest)

-- The first n bytes may stand in a word, and the next one not.
pub record IsWordRun (rest : List ℕ) (n : ℕ) : Type 0 where
  pub within : n ≤ length rest
  pub run : AllPass is_in_word (take n rest)
  pub ends : BeginsNoWith is_in_word (drop n rest)

-- the symbol that a byte begins, where this byte follows it, or 0 none
abbrev pub symbol_of : ℕ → ℕ → Option Symbol
symbol_of first next =
    if first == 40 then Some symbol.Open else (
    if first == 41 then Some symbol.Close else (
    if first == 44 then Some symbol.Comma else (
    if first == 46 then Some symbol.Dot else (
    if first == 42 then Some symbol.Star else (
    if first == 43 then Some symbol.Plus else (
    if first == 45 then Some symbol.Minus else (
    if first == 61 then Some symbol.Equal else (
    if first == 59 then Some symbol.Semicolon else (
    if first == 60 then (if next == 62 then Some symbol.NotEqual else (if next == 61 then Some symbol.LessEqual else Some symbol.Less)) else (
    if first == 62 then (if next == 61 then Some symbol.GreaterEqual else Some symbol.Greater) else None))))))))))

-- the tests of a word in lower case
abbrev pub passes_as_lower_word : List ℕ → Bool
passes_as_lower_word [] = false
passes_as_lower_word (b ∷ bs) = begins_word b && (nat_le (length (b ∷ bs)) 30 && (list_all is_in_word bs && not (list_any is_upper (b ∷ bs))))
