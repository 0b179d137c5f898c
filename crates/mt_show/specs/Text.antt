-- The text that tokens are printed as.
use Rattle.std.specs.Prelude.{ℕ, ◌+◌, ◌-◌, ◌==◌, if◌then◌else◌, List, [], ◌∷◌, ◌++◌, map, codes}
use Rattle.std.specs.Int.Digits.{digits_of}
use Rattle.std.specs.List.{join_with_byte}
use Rattle.mt_lexer.specs.Tokens.{Lexeme, Word, Number, Quoted, Sign, Spells, is_lower, doubled, symbol_bytes}
use Rattle.mt_lexer.specs.Reserved.{is_reserved_name}

-- a capital letter for a small one
abbrev pub upper : ℕ → ℕ
upper b = if is_lower b then b - 32 else b

-- a number of any size in decimal, without leading zeros
unfoldable pub numeral : ℕ → List ℕ
numeral n = if n == 0 then codes "0" else map (λ digit. 48 + digit) (digits_of 10 n)

-- reserved words in upper case and other words as they are, numbers without leading zeros, texts in
-- quotes with each quote in them twice
abbrev pub lexeme_text : Lexeme → List ℕ
lexeme_text (Word name) = if is_reserved_name name then map upper name else name
lexeme_text (Number value) = numeral value
lexeme_text (Quoted text) = 39 ∷ (doubled text ++ 39 ∷ [])
lexeme_text (Sign sign) = symbol_bytes sign

-- the tokens with one space between
abbrev pub text_of : List Lexeme → List ℕ
text_of lexemes = join_with_byte 32 (map lexeme_text lexemes)

-- a word that some bytes spell; other tokens are always spelled
abbrev pub IsWritten : Lexeme → Type 0
IsWritten (Word name) = (bytes : List ℕ) × Spells bytes (Word name)
IsWritten other = Unit {0}
