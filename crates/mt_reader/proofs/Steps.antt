-- One step of a reader.
use Rattle.std.proofs.Common.{◌≡◌, ℕ, Bool, true, false, cond, Some, None, is_some, List, [], ◌∷◌, drop, map, refl, sym, ap, ◌∙◌, subst, unwrap_or, arith}
use Rattle.std.proofs.lemmas.Bool.{cond-true, cond-false}
use Rattle.std.proofs.lemmas.Bool.Decides.{nat_tests}
use Rattle.std.specs.Borrow.{Bor}
use Rattle.std.specs.Char.{to_ascii_lowercase}
use Rattle.std.specs.Str.{IsAscii}
use Rattle.std.specs.Str.Parse.{digits_value}
use Rattle.mt_lexer.specs.declared.token.Symbol.TheVariants as symbol
use Rattle.mt_lexer.specs.Tokens.{Lexeme, Sign, lower}
use Rattle.mt_reader.specs.declared.piece.Piece.{Piece}
use Rattle.mt_reader.specs.declared.piece.Piece.TheVariants as piece
use Rattle.mt_reader.specs.Descent.{is_same, after, is_end, end_of, name_of, number_of}
use Rattle.mt_lexer.specs.Reserved.{is_reserved_name}
use Rattle.mt_reader.specs.Pieces.{lexeme_of, word_of, digits_of, IsPiece}
use Rattle.mt_reader.specs.Taken.{Skips}

-- at the end nothing is taken
pub stays_at_end : (lexeme : Lexeme) (lexemes : List Lexeme) → lexemes ≡ [] → Skips false lexemes lexemes (after lexeme lexemes)
unfolding after
stays_at_end lexeme lexemes e = (ap (after lexeme) e, refl)

-- another first lexeme stays
pub stays : (first lexeme : Lexeme) (lexemes : List Lexeme) → lexemes ≡ first ∷ drop 1 lexemes → is_same first lexeme ≡ false → Skips false lexemes lexemes (after lexeme lexemes)
unfolding after
stays first lexeme lexemes e other = (ap (after lexeme) e ∙ cond-false (is_same first lexeme) (Some (drop 1 lexemes)) None other, refl)

-- the same first lexeme is taken
pub skips : (first lexeme : Lexeme) (lexemes rest : List Lexeme) → lexemes ≡ first ∷ drop 1 lexemes → is_same first lexeme ≡ true → rest ≡ drop 1 lexemes → Skips true lexemes rest (after lexeme lexemes)
unfolding after
skips first lexeme lexemes rest e same r = ap (after lexeme) e ∙ cond-true (is_same first lexeme) (Some (drop 1 lexemes)) None same ∙ ap Some (sym r)

-- what is left behind a semicolon, if there is one
pub end_of-skip : (skipped : Bool) (old new : List Lexeme) → Skips skipped old new (after (Sign symbol.Semicolon) old) → end_of old ≡ cond (is_end new) (Some tt) None
unfolding end_of
end_of-skip true old new s = ap (λ read. cond (is_end (unwrap_or read old)) (Some tt) None) s
end_of-skip false old new s = ap (λ read. cond (is_end (unwrap_or read old)) (Some tt) None) s.0 ∙ ap (λ left. cond (is_end left) (Some tt) None) (sym s.1)

-- the bytes of a word are ASCII
pub word_ascii : (p : Piece) (word : Bor (List ℕ)) → IsPiece p → word_of p ≡ Some word → IsAscii word.now
word_ascii (piece.Word bytes) word h e = let same : bytes ≡ word = cc in subst (λ w. IsAscii w.now) same h
word_ascii (piece.Number bytes) word h e = cc
word_ascii (piece.Text bytes) word h e = cc
word_ascii (piece.Symbol symbol) word h e = cc

-- at the end there is no name
pub name_of_end : (lexemes : List Lexeme) → lexemes ≡ [] → name_of lexemes ≡ None
unfolding name_of
name_of_end lexemes e = ap name_of e

-- at the end there is no number
pub number_of_end : (lexemes : List Lexeme) → lexemes ≡ [] → number_of lexemes ≡ None
unfolding number_of
number_of_end lexemes e = ap number_of e

-- what is no word is no name
pub name_of_other : (p : Piece) (lexemes : List Lexeme) → lexemes ≡ lexeme_of p ∷ drop 1 lexemes → word_of p ≡ None → name_of lexemes ≡ None
unfolding name_of
name_of_other (piece.Word bytes) lexemes e h = cc
name_of_other (piece.Number bytes) lexemes e h = ap name_of e
name_of_other (piece.Text bytes) lexemes e h = ap name_of e
name_of_other (piece.Symbol symbol) lexemes e h = ap name_of e

-- what is no number is none
pub number_of_other : (p : Piece) (lexemes : List Lexeme) → lexemes ≡ lexeme_of p ∷ drop 1 lexemes → digits_of p ≡ None → number_of lexemes ≡ None
unfolding number_of
number_of_other (piece.Word bytes) lexemes e h = ap number_of e
number_of_other (piece.Number bytes) lexemes e h = cc
number_of_other (piece.Text bytes) lexemes e h = ap number_of e
number_of_other (piece.Symbol symbol) lexemes e h = ap number_of e

-- a word that is reserved is no name
pub name_of_reserved : (p : Piece) (lexemes : List Lexeme) (word : Bor (List ℕ)) → lexemes ≡ lexeme_of p ∷ drop 1 lexemes → word_of p ≡ Some word → is_reserved_name (map lower word.now) ≡ true → name_of lexemes ≡ None
unfolding name_of
name_of_reserved (piece.Word bytes) lexemes word e h r =
    let same : bytes ≡ word = cc in
    ap name_of e ∙ cond-true (is_reserved_name (map lower bytes.now)) None _ (ap (λ w. is_reserved_name (map lower w.now)) same ∙ r)
name_of_reserved (piece.Number bytes) lexemes word e h r = cc
name_of_reserved (piece.Text bytes) lexemes word e h r = cc
name_of_reserved (piece.Symbol symbol) lexemes word e h r = cc

-- one byte in lower case
lower_is : (b : ℕ) → to_ascii_lowercase b ≡ lower b
lower_is b = grind (arith, nat_tests)

-- bytes in lower case
map-lower : (bytes : List ℕ) → map to_ascii_lowercase bytes ≡ map lower bytes
map-lower [] = refl
map-lower (b ∷ bs) = cc (lower_is b, map-lower bs)

-- any other word is a name
pub name_of_word : (p : Piece) (lexemes rest : List Lexeme) (word : Bor (List ℕ)) (name : List ℕ) → lexemes ≡ lexeme_of p ∷ drop 1 lexemes → word_of p ≡ Some word → is_reserved_name (map lower word.now) ≡ false → rest ≡ drop 1 lexemes → name ≡ map to_ascii_lowercase word.now → name_of lexemes ≡ Some (name, rest)
unfolding name_of
name_of_word (piece.Word bytes) lexemes rest word name e h r s n =
    let same : bytes ≡ word = cc in
    let free : is_reserved_name (map lower bytes.now) ≡ false = ap (λ w. is_reserved_name (map lower w.now)) same ∙ r in
    let named : name ≡ map lower bytes.now = n ∙ map-lower word.now ∙ ap (λ w. map lower w.now) (sym same) in
    let read : name_of lexemes ≡ Some (map lower bytes.now, drop 1 lexemes) = ap name_of e ∙ cond-false (is_reserved_name (map lower bytes.now)) None (Some (map lower bytes.now, drop 1 lexemes)) free in
    rw (named, s) read
name_of_word (piece.Number bytes) lexemes rest word name e h r s n = cc
name_of_word (piece.Text bytes) lexemes rest word name e h r s n = cc
name_of_word (piece.Symbol symbol) lexemes rest word name e h r s n = cc

-- digits are a number
pub number_of_digits : (p : Piece) (lexemes rest : List Lexeme) (digits : Bor (List ℕ)) → lexemes ≡ lexeme_of p ∷ drop 1 lexemes → digits_of p ≡ Some digits → rest ≡ drop 1 lexemes → number_of lexemes ≡ Some (digits_value 10 digits.now, rest)
unfolding number_of
number_of_digits (piece.Word bytes) lexemes rest digits e h s = cc
number_of_digits (piece.Number bytes) lexemes rest digits e h s =
    let same : bytes ≡ digits = cc in
    ap number_of e ∙ ap (λ d. Some (digits_value 10 d.now, drop 1 lexemes)) same ∙ ap (λ left. Some (digits_value 10 digits.now, left)) (sym s)
number_of_digits (piece.Text bytes) lexemes rest digits e h s = cc
number_of_digits (piece.Symbol symbol) lexemes rest digits e h s = cc

-- a test, and something where it holds
some-test : {A : Type 0} (test : Bool) (x : A) → is_some (cond test (Some x) None) ≡ test
some-test true x = refl
some-test false x = refl

-- the first lexeme tells whether another is at the front
pub at_front : (first lexeme : Lexeme) (lexemes : List Lexeme) → lexemes ≡ first ∷ drop 1 lexemes → is_same first lexeme ≡ is_some (after lexeme lexemes)
unfolding after
at_front first lexeme lexemes e = sym (ap (λ ls. is_some (after lexeme ls)) e ∙ some-test (is_same first lexeme) (drop 1 lexemes))

-- at the end nothing is at the front
pub at_end : (lexeme : Lexeme) (lexemes : List Lexeme) → lexemes ≡ [] → false ≡ is_some (after lexeme lexemes)
unfolding after
at_end lexeme lexemes e = sym (ap (λ ls. is_some (after lexeme ls)) e)
