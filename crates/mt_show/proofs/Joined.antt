-- The text of tokens with one space between, and with one in front of each.
use Rattle.std.proofs.Common.{◌≡◌, ℕ, ◌^◌, ◌<◌, List, [], ◌∷◌, ◌++◌, true, false, map, decimal, refl, sym, ap, ◌∙◌}
use Rattle.std.proofs.lemmas.Bool.{cond-true, cond-false}
use Rattle.std.proofs.lemmas.List.{append-nil}
use Rattle.std.proofs.lemmas.List.Concat.{flat_map-append}
use Rattle.mt_lexer.specs.Tokens.{Lexeme, Word, Number}
use Rattle.mt_lexer.specs.Reserved.{is_reserved_name}
use Rattle.mt_show.specs.Text.{upper, lexeme_text, text_of}
use Rattle.mt_show.specs.Spaced.{spaced}
use Rattle.mt_show.proofs.Numerals.{decimal_is_numeral}

-- a text behind a space is the text of a token, and more tokens with a space in front of each
pub text-cons : (lexeme : Lexeme) (lexemes : List Lexeme) → spaced (lexeme ∷ lexemes) ≡ 32 ∷ text_of (lexeme ∷ lexemes)
unfolding spaced
text-cons x [] = ap (λ text. 32 ∷ text) (append-nil (lexeme_text x))
text-cons x (y ∷ ys) = ap (λ text. 32 ∷ (lexeme_text x ++ text)) (text-cons y ys)

-- tokens behind tokens
pub spaced-append : (front back : List Lexeme) → spaced (front ++ back) ≡ spaced front ++ spaced back
unfolding spaced
spaced-append front back = flat_map-append (λ lexeme. 32 ∷ lexeme_text lexeme) front back

-- no tokens
pub spaced-nil : spaced [] ≡ []
unfolding spaced
spaced-nil = refl

-- a word that is not reserved, as it is printed
pub spaced-name : (name : List ℕ) → is_reserved_name name ≡ false → spaced (Word name ∷ []) ≡ 32 ∷ name
unfolding spaced
spaced-name name h = ap (λ text. 32 ∷ text) (append-nil (lexeme_text (Word name)) ∙ cond-false (is_reserved_name name) (map upper name) name h)

-- and one that is
pub spaced-reserved : (name : List ℕ) → is_reserved_name name ≡ true → spaced (Word name ∷ []) ≡ 32 ∷ map upper name
unfolding spaced
spaced-reserved name h = ap (λ text. 32 ∷ text) (append-nil (lexeme_text (Word name)) ∙ cond-true (is_reserved_name name) (map upper name) name h)

-- a number that a machine's word holds, as std prints it
pub spaced-number : (n : ℕ) → n < 2 ^ 64 → spaced (Number n ∷ []) ≡ 32 ∷ decimal n
unfolding spaced
spaced-number n small = ap (λ text. 32 ∷ text) (append-nil (lexeme_text (Number n)) ∙ sym (decimal_is_numeral n small))
