-- What the tokens of a text say, token by token.
use Rattle.std.specs.Prelude.{ℕ, ◌-◌, ◌==◌, Bool, false, true, List, [], ◌∷◌, length, map, slice_range, Option, Some, None}
use Rattle.std.specs.Borrow.{Bor}
use Rattle.std.specs.List.{All, AllPass}
use Rattle.std.specs.Str.{IsAscii, IsUtf8}
use Rattle.std.specs.Str.Parse.{digits_value}
use Rattle.mt_lexer.specs.declared.token.Token.{Token}
use Rattle.mt_lexer.specs.declared.token.TokenKind.{TokenKind}
use Rattle.mt_lexer.specs.declared.token.TokenKind.TheVariants as kind
use Rattle.mt_lexer.specs.Tokens.{Lexeme, Word, Number, Quoted, Sign, IsToken, lower, is_digit}
use Rattle.mt_reader.specs.declared.piece.Piece.{Piece}
use Rattle.mt_reader.specs.declared.piece.Piece.TheVariants as piece

-- The text between quotes: each byte but the one behind a quote that is kept, its second.
abbrev pub undoubled_behind : Bool → List ℕ → List ℕ
undoubled_behind quote [] = []
undoubled_behind true (b ∷ bs) = undoubled_behind false bs
undoubled_behind false (b ∷ bs) = b ∷ undoubled_behind (b == 39) bs

-- from the first byte on
abbrev pub undoubled : List ℕ → List ℕ
undoubled bytes = undoubled_behind false bytes

-- what bytes of this kind say
abbrev pub said : TokenKind → List ℕ → Lexeme
said kind.Word bytes = Word (map lower bytes)
said kind.Number bytes = Number (digits_value 10 bytes)
said kind.Text bytes = Quoted (undoubled (slice_range bytes 1 (length bytes - 1)))
said (kind.Symbol symbol) bytes = Sign symbol

-- what a token says
unfoldable pub lexeme_at : List ℕ → Token → Lexeme
lexeme_at text token = said token.kind (slice_range text token.from token.upto)

-- each of these is a token of the text
abbrev pub AreTokens : List ℕ → List Token → Type 0
AreTokens text tokens = All (λ token. IsToken text token (lexeme_at text token)) tokens

-- what a piece says
abbrev pub lexeme_of : Piece → Lexeme
lexeme_of (piece.Word bytes) = Word (map lower bytes.now)
lexeme_of (piece.Number bytes) = Number (digits_value 10 bytes.now)
lexeme_of (piece.Text bytes) = Quoted (undoubled bytes.now)
lexeme_of (piece.Symbol symbol) = Sign symbol

-- words are ASCII, numbers are digits, and texts are UTF-8
abbrev pub IsPiece : Piece → Type 0
IsPiece (piece.Word bytes) = IsAscii bytes.now
IsPiece (piece.Number bytes) = AllPass is_digit bytes.now
IsPiece (piece.Text bytes) = IsUtf8 (undoubled bytes.now)
IsPiece (piece.Symbol symbol) = Unit {0}

-- the bytes of a word
abbrev pub word_of : Piece → Option (Bor (List ℕ))
word_of (piece.Word bytes) = Some bytes
word_of (piece.Number bytes) = None
word_of (piece.Text bytes) = None
word_of (piece.Symbol symbol) = None

-- the digits of a number
abbrev pub digits_of : Piece → Option (Bor (List ℕ))
digits_of (piece.Word bytes) = None
digits_of (piece.Number bytes) = Some bytes
digits_of (piece.Text bytes) = None
digits_of (piece.Symbol symbol) = None
