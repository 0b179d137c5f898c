-- The tokens of a text.
use Rattle.std.specs.Prelude.{◌≡◌, ℕ, ◌+◌, ◌<◌, ◌≤◌, Bool, false, ◌||◌, ◌&&◌, ◌==◌, nat_le, if◌then◌else◌, List, [], ◌∷◌, ◌++◌, length, map, drop, slice_index, slice_range, codes, IsTrue}
use Rattle.std.specs.List.{AllPass}
use Rattle.std.specs.Str.Parse.{digits_value}
pub use Rattle.mt_value.specs.Printed.{doubled}
use Rattle.mt_lexer.specs.declared.token.Symbol.{Symbol}
use Rattle.mt_lexer.specs.declared.token.Symbol.TheVariants as symbol
use Rattle.mt_lexer.specs.declared.token.TokenKind.{TokenKind}
use Rattle.mt_lexer.specs.declared.token.TokenKind.TheVariants as kind
use Rattle.mt_lexer.specs.declared.token.Token.{Token}

-- an ASCII capital letter
abbrev pub is_upper : ℕ → Bool
is_upper b = nat_le 65 b && nat_le b 90

-- an ASCII small letter
abbrev pub is_lower : ℕ → Bool
is_lower b = nat_le 97 b && nat_le b 122

-- an ASCII digit
abbrev pub is_digit : ℕ → Bool
is_digit b = nat_le 48 b && nat_le b 57

-- an ASCII letter or the underscore
abbrev pub begins_word : ℕ → Bool
begins_word b = is_upper b || is_lower b || (b == 95)

-- what a word goes on with: a letter, the underscore or a digit
abbrev pub is_in_word : ℕ → Bool
is_in_word b = begins_word b || is_digit b

-- a space or a tab
abbrev pub is_blank : ℕ → Bool
is_blank b = (b == 32) || (b == 9)

-- words compare without regard to ASCII case, and are kept in lower case
abbrev pub lower : ℕ → ℕ
lower b = if is_upper b then b + 32 else b

-- how a symbol is written
unfoldable pub symbol_bytes : Symbol → List ℕ
symbol_bytes symbol.Open = codes "("
symbol_bytes symbol.Close = codes ")"
symbol_bytes symbol.Comma = codes ","
symbol_bytes symbol.Dot = codes "."
symbol_bytes symbol.Star = codes "*"
symbol_bytes symbol.Plus = codes "+"
symbol_bytes symbol.Minus = codes "-"
symbol_bytes symbol.Equal = codes "="
symbol_bytes symbol.NotEqual = codes "<>"
symbol_bytes symbol.Less = codes "<"
symbol_bytes symbol.LessEqual = codes "<="
symbol_bytes symbol.Greater = codes ">"
symbol_bytes symbol.GreaterEqual = codes ">="
symbol_bytes symbol.Semicolon = codes ";"

-- What a token says.
pub data Lexeme : Type 0 where
  -- a word, in lower case
  Word : (name : List ℕ) → Lexeme
  -- a number, of any size
  Number : (value : ℕ) → Lexeme
  -- the text between the quotes, with doubled quotes undone
  Quoted : (text : List ℕ) → Lexeme
  Sign : (sign : Symbol) → Lexeme

-- the bytes spell this
abbrev pub Spells : List ℕ → Lexeme → Type 0
Spells [] (Word name) = ⊥
Spells (b ∷ bs) (Word name) = IsTrue (begins_word b) × AllPass is_in_word bs × (length (b ∷ bs) ≤ 30) × (name ≡ map lower (b ∷ bs))
Spells bytes (Number value) = (0 < length bytes) × AllPass is_digit bytes × (value ≡ digits_value 10 bytes)
Spells bytes (Quoted text) = bytes ≡ 39 ∷ (doubled text ++ 39 ∷ [])
Spells bytes (Sign sign) = bytes ≡ symbol_bytes sign

-- there is no first byte, or the test does not hold of it
abbrev pub BeginsNoWith : (ℕ → Bool) → List ℕ → Type 0
BeginsNoWith test [] = Unit {0}
BeginsNoWith test (b ∷ bs) = test b ≡ false

-- The token ends before these bytes: with them it would go on, as another symbol or a longer run.
abbrev pub EndsBefore : Lexeme → List ℕ → Type 0
EndsBefore (Word name) rest = BeginsNoWith is_in_word rest
EndsBefore (Number value) rest = BeginsNoWith is_in_word rest
EndsBefore (Quoted text) rest = BeginsNoWith (λ b. b == 39) rest
EndsBefore (Sign symbol.Less) rest = BeginsNoWith (λ b. (b == 61) || (b == 62)) rest
EndsBefore (Sign symbol.Greater) rest = BeginsNoWith (λ b. b == 61) rest
EndsBefore (Sign sign) rest = Unit {0}

-- a kind of token goes with what it says
abbrev pub IsOfKind : TokenKind → Lexeme → Type 0
IsOfKind kind.Word (Word name) = Unit {0}
IsOfKind kind.Number (Number value) = Unit {0}
IsOfKind kind.Text (Quoted text) = Unit {0}
IsOfKind (kind.Symbol symbol) (Sign sign) = sign ≡ symbol
IsOfKind kind lexeme = ⊥

-- At this place of the text the token stands and says this.
pub record IsToken (text : List ℕ) (token : Token) (lexeme : Lexeme) : Type 0 where
  pub forward : token.from ≤ token.upto
  pub within : token.upto ≤ length text
  pub kind : IsOfKind token.kind lexeme
  pub spelling : Spells (slice_range text token.from token.upto) lexeme
  pub ends : EndsBefore lexeme (drop token.upto text)

-- Between the two places there are blanks alone, or none.
pub record IsGap (text : List ℕ) (from upto : ℕ) : Type 0 where
  pub forward : from ≤ upto
  pub within : upto ≤ length text
  pub blank : AllPass is_blank (slice_range text from upto)

-- From one place of the text to another there are these tokens, which say this, and blanks between
-- and before them.
abbrev pub Stand : List ℕ → ℕ → List Token → List Lexeme → ℕ → Type 0
Stand text from [] [] upto = from ≡ upto
Stand text from (token ∷ tokens) (lexeme ∷ lexemes) upto = IsGap text from token.from × IsToken text token lexeme × Stand text token.upto tokens lexemes upto
Stand text from [] (lexeme ∷ lexemes) upto = ⊥
Stand text from (token ∷ tokens) [] upto = ⊥

-- The text is these tokens, which say this, and blanks between them.
pub record Says (text : List ℕ) (tokens : List Token) (lexemes : List Lexeme) : Type 0 where
  pub upto : ℕ
  pub stand : Stand text 0 tokens lexemes upto
  pub rest : IsGap text upto (length text)

-- Behind tokens and blanks there is a byte at this place, not blank, at which no token stands.
pub record HasNoTokenAt (text : List ℕ) (at : ℕ) : Type 0 where
  pub tokens : List Token
  pub lexemes : List Lexeme
  pub upto : ℕ
  pub stand : Stand text 0 tokens lexemes upto
  pub gap : IsGap text upto at
  pub byte : at < length text
  pub found : is_blank (slice_index text at) ≡ false
  pub none : (token : Token) (lexeme : Lexeme) → token.from ≡ at → IsToken text token lexeme → ⊥
