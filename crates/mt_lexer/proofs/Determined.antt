-- What a text says is determined. The crates above cite these lemmas.
use Rattle.std.proofs.Common.{◌≡◌, ℕ, List, length, arith}
pub use Rattle.mt_lexer.proofs.Quotes.{quoted_unique}
pub use Rattle.mt_lexer.proofs.Tiling.{token_unique, said_at, said_length}
use Rattle.mt_lexer.specs.declared.token.Token.{Token}
use Rattle.mt_lexer.specs.Tokens.{Lexeme, Says, HasNoTokenAt}
use Rattle.mt_lexer.proofs.Tiling.{stand_unique, stand_from_says, stand_from_none}

-- a text is one list of tokens, which say one thing
pub says_unique : (text : List ℕ) (ts us : List Token) (ls ms : List Lexeme) → Says text ts ls → Says text us ms → (ts ≡ us) × (ls ≡ ms)
says_unique text ts us ls ms g h =
    let r = stand_unique text 0 (length text) (length text) ts us ls ms (stand_from_says text ts ls g) (stand_from_says text us ms h) in
    (r.0, r.1)

-- a text that has a place with no token says nothing
pub refused_says_nothing : (text : List ℕ) (at : ℕ) (ts : List Token) (ls : List Lexeme) → HasNoTokenAt text at → Says text ts ls → ⊥
refused_says_nothing text at ts ls g h =
    let r = stand_unique text 0 at (length text) g.tokens ts g.lexemes ls (stand_from_none text at g) (stand_from_says text ts ls h) in
    omega (arith, r.2, g.byte)

-- there is one such place
pub refused_place_unique : (text : List ℕ) (at other : ℕ) → HasNoTokenAt text at → HasNoTokenAt text other → at ≡ other
refused_place_unique text at other g h =
    (stand_unique text 0 at other g.tokens h.tokens g.lexemes h.lexemes (stand_from_none text at g) (stand_from_none text other h)).2
