-- A token says one lexeme.
use Rattle.std.proofs.Common.{◌≡◌, ℕ, ◌-◌, List, [], ◌∷◌, length, map, refl, sym, ap, ◌∙◌, subst}
use Rattle.std.proofs.lemmas.List.Elements.{All-nil, All-cons}
use Rattle.std.specs.List.{slice_range}
use Rattle.std.specs.Str.{IsUtf8}
use Rattle.mt_lexer.specs.declared.token.Token.{Token}
use Rattle.mt_lexer.specs.declared.token.TokenKind.{TokenKind}
use Rattle.mt_lexer.specs.declared.token.TokenKind.TheVariants as kind
use Rattle.mt_lexer.specs.Tokens.{Lexeme, Word, Number, Quoted, Sign, IsToken, IsOfKind, Spells, Stand, Says, doubled}
use Rattle.mt_reader.specs.Pieces.{lexeme_at, said, undoubled, AreTokens}
use Rattle.mt_reader.proofs.Quoting.{quoted_utf8, between_quotes, undoubled-doubled}

-- a token of a text in quotes says a text
pub text_utf8 : (text : List ℕ) (token : Token) → IsUtf8 text → token.kind ≡ kind.Text → IsToken text token (lexeme_at text token) → let bytes = slice_range text token.from token.upto in IsUtf8 (undoubled (slice_range bytes 1 (length bytes - 1)))
unfolding lexeme_at
text_utf8 text token u e t =
    let bytes = slice_range text token.from token.upto in
    let spelling : Spells bytes (said kind.Text bytes) = subst (λ k. Spells bytes (said k bytes)) e t.spelling in
    quoted_utf8 text token.from token.upto (undoubled (slice_range bytes 1 (length bytes - 1))) u spelling

-- bytes of a kind say one lexeme
said_unique : (k : TokenKind) (lexeme : Lexeme) (bytes : List ℕ) → IsOfKind k lexeme → Spells bytes lexeme → lexeme ≡ said k bytes
said_unique kind.Word (Word name) [] k s = elim s [ ]
said_unique kind.Word (Word name) (b ∷ bs) k s = ap Word s.3
said_unique kind.Number (Number value) bytes k s = ap Number s.2
said_unique kind.Text (Quoted text) bytes k s = ap Quoted (sym (ap undoubled (between_quotes bytes (doubled text) s) ∙ undoubled-doubled text))
said_unique (kind.Symbol symbol) (Sign sign) bytes k s = ap Sign k
said_unique kind.Word (Number value) bytes k s = elim k [ ]
said_unique kind.Word (Quoted text) bytes k s = elim k [ ]
said_unique kind.Word (Sign sign) bytes k s = elim k [ ]
said_unique kind.Number (Word name) bytes k s = elim k [ ]
said_unique kind.Number (Quoted text) bytes k s = elim k [ ]
said_unique kind.Number (Sign sign) bytes k s = elim k [ ]
said_unique kind.Text (Word name) bytes k s = elim k [ ]
said_unique kind.Text (Number value) bytes k s = elim k [ ]
said_unique kind.Text (Sign sign) bytes k s = elim k [ ]
said_unique (kind.Symbol symbol) (Word name) bytes k s = elim k [ ]
said_unique (kind.Symbol symbol) (Number value) bytes k s = elim k [ ]
said_unique (kind.Symbol symbol) (Quoted text) bytes k s = elim k [ ]

-- a token says what stands there
token_says : (text : List ℕ) (token : Token) (lexeme : Lexeme) → IsToken text token lexeme → lexeme ≡ lexeme_at text token
unfolding lexeme_at
token_says text token lexeme t = said_unique token.kind lexeme (slice_range text token.from token.upto) t.kind t.spelling

-- tokens of a text, and what they say
stand_says : (text : List ℕ) (from upto : ℕ) (tokens : List Token) (lexemes : List Lexeme) → Stand text from tokens lexemes upto → AreTokens text tokens × (lexemes ≡ map (lexeme_at text) tokens)
stand_says text from upto [] [] s = (All-nil (λ token. IsToken text token (lexeme_at text token)), refl)
stand_says text from upto (token ∷ tokens) (lexeme ∷ lexemes) s =
    let P : Token → Type 0 = λ token. IsToken text token (lexeme_at text token) in
    let same = token_says text token lexeme s.1 in
    let more = stand_says text token.upto upto tokens lexemes s.2 in
    (All-cons P token tokens (subst (IsToken text token) same s.1) more.0, cc (same, more.1))
stand_says text from upto [] (lexeme ∷ lexemes) s = elim s [ ]
stand_says text from upto (token ∷ tokens) [] s = elim s [ ]

-- the tokens of a text, and what they say
pub tokens_say : (text : List ℕ) (tokens : List Token) (lexemes : List Lexeme) → Says text tokens lexemes → AreTokens text tokens × (lexemes ≡ map (lexeme_at text) tokens)
tokens_say text tokens lexemes s = stand_says text 0 s.upto tokens lexemes s.stand
