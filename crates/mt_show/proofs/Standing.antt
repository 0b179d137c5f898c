-- What is printed of tokens is read as the same tokens, from the left.
use Rattle.std.proofs.Common.{◌≡◌, ℕ, ◌+◌, ◌-◌, ◌≤◌, true, List, [], ◌∷◌, ◌++◌, length, take, drop, refl, sym, ap, ◌∙◌, subst, arith}
use Rattle.std.proofs.lemmas.List.{length-append, append-nil, append_assoc, take_at, drop_at}
use Rattle.std.proofs.lemmas.List.Elements.{All-nil, All-cons, All-head, All-tail}
use Rattle.std.specs.List.{All, AllPass, slice_range}
use Rattle.mt_lexer.specs.declared.token.Token.{Token}
use Rattle.mt_lexer.specs.declared.token.Symbol.TheVariants as symbol
use Rattle.mt_lexer.specs.Tokens.{Lexeme, Word, Number, Quoted, Sign, Spells, EndsBefore, IsOfKind, IsToken, IsGap, Stand, Says, is_blank}
use Rattle.mt_lexer.proofs.Tiling.{kind_of}
use Rattle.mt_show.specs.Text.{lexeme_text, text_of, IsWritten}
use Rattle.mt_show.proofs.Spelled.{spells_printed}

-- a token is of its kind
kind_fits : (lexeme : Lexeme) → IsOfKind (kind_of lexeme) lexeme
unfolding kind_of
kind_fits (Word name) = tt
kind_fits (Number value) = tt
kind_fits (Quoted text) = tt
kind_fits (Sign sign) = refl

-- each token ends before the end of the text
ends_at_end : (lexeme : Lexeme) → EndsBefore lexeme []
ends_at_end (Word name) = tt
ends_at_end (Number value) = tt
ends_at_end (Quoted text) = tt
ends_at_end (Sign symbol.Less) = tt
ends_at_end (Sign symbol.Greater) = tt
ends_at_end (Sign sign) = tt

-- and before a space
ends_at_space : (lexeme : Lexeme) (rest : List ℕ) → EndsBefore lexeme (32 ∷ rest)
ends_at_space (Word name) rest = refl
ends_at_space (Number value) rest = refl
ends_at_space (Quoted text) rest = refl
ends_at_space (Sign symbol.Less) rest = refl
ends_at_space (Sign symbol.Greater) rest = refl
ends_at_space (Sign sign) rest = tt

-- the token that stands behind so many bytes
placed : Lexeme → ℕ → Token
placed lexeme at = record { kind = kind_of lexeme; from = at; upto = at + length (lexeme_text lexeme) }

-- the text of a token, behind other bytes and with others behind it, is that token
is_token : (text front rest : List ℕ) (lexeme : Lexeme) → IsWritten lexeme → text ≡ front ++ (lexeme_text lexeme ++ rest) → EndsBefore lexeme rest → IsToken text (placed lexeme (length front)) lexeme
unfolding placed
is_token text front rest lexeme written e ends =
    let word = lexeme_text lexeme in
    let upto = length front + length word in
    let behind : drop (length front) text ≡ word ++ rest = ap (drop (length front)) e ∙ drop_at front (word ++ rest) (length front) refl in
    let n : upto - length front ≡ length word = omega arith in
    let piece : slice_range text (length front) upto ≡ word = ap (take (upto - length front)) behind ∙ take_at word rest (upto - length front) (sym n) in
    let left : drop upto text ≡ rest = ap (drop upto) (e ∙ sym (append_assoc front word rest)) ∙ drop_at (front ++ word) rest upto (length-append front word) in
    let long : length text ≡ length front + (length word + length rest) = ap length e ∙ length-append front (word ++ rest) ∙ ap (λ k. length front + k) (length-append word rest) in
    record {
      forward = omega arith;
      within = omega arith;
      kind = kind_fits lexeme;
      spelling = subst (λ bytes. Spells bytes lexeme) (sym piece) (spells_printed lexeme written);
      ends = subst (λ bytes. EndsBefore lexeme bytes) (sym left) ends;
    }

-- no blanks
no_gap : (text : List ℕ) (at : ℕ) → at ≤ length text → IsGap text at at
no_gap text at within =
    let nothing : slice_range text at at ≡ [] = let none : at - at ≡ 0 = omega arith in ap (λ n. take n (drop at text)) none in
    record {
      forward = omega arith;
      within = within;
      blank = subst (AllPass is_blank) (sym nothing) (All-nil (λ b. is_blank b ≡ true));
    }

-- a space
one_blank : (text front rest : List ℕ) → text ≡ front ++ 32 ∷ rest → IsGap text (length front) (length front + 1)
one_blank text front rest e =
    let n : length front + 1 - length front ≡ 1 = omega arith in
    let piece : slice_range text (length front) (length front + 1) ≡ 32 ∷ [] = ap (λ k. take k (drop (length front) text)) n ∙ ap (take 1) (ap (drop (length front)) e ∙ drop_at front (32 ∷ rest) (length front) refl) in
    record {
      forward = omega arith;
      within = omega (arith, ap length e, length-append front (32 ∷ rest));
      blank = subst (AllPass is_blank) (sym piece) (All-cons (λ b. is_blank b ≡ true) 32 [] refl (All-nil (λ b. is_blank b ≡ true)));
    }

-- From a place of the text on there are tokens that say this, and blanks between, before and behind them.
record StandsBehind (text : List ℕ) (from : ℕ) (lexemes : List Lexeme) : Type 0 where
  tokens : List Token
  upto : ℕ
  stand : Stand text from tokens lexemes upto
  rest : IsGap text upto (length text)

-- a token more in front of them
with_first : (text : List ℕ) (from : ℕ) (token : Token) (lexeme : Lexeme) (lexemes : List Lexeme) → IsGap text from token.from → IsToken text token lexeme → StandsBehind text token.upto lexemes → StandsBehind text from (lexeme ∷ lexemes)
with_first text from token lexeme lexemes gap is_token behind = record {
  tokens = token ∷ behind.tokens;
  upto = behind.upto;
  stand = (gap, is_token, behind.stand);
  rest = behind.rest;
}

-- what is printed stands there
stands : (text front : List ℕ) (from : ℕ) (lexemes : List Lexeme) → All IsWritten lexemes → IsGap text from (length front) → text ≡ front ++ text_of lexemes → StandsBehind text from lexemes
unfolding placed
stands text front from [] all gap e =
    let whole : length front ≡ length text = ap length (sym (e ∙ append-nil front)) in
    record { tokens = []; upto = from; stand = refl; rest = subst (IsGap text from) whole gap }
stands text front from (x ∷ []) all gap e =
    let word = lexeme_text x in
    let here = is_token text front [] x (All-head IsWritten x [] all) (e ∙ ap (λ bytes. front ++ bytes) (sym (append-nil word))) (ends_at_end x) in
    let whole : length front + length word ≡ length text = sym (ap length e ∙ length-append front word) in
    let end : IsGap text (length front + length word) (length text) = subst (IsGap text (length front + length word)) whole (no_gap text (length front + length word) (omega arith)) in
    with_first text from (placed x (length front)) x [] gap here (record { tokens = []; upto = length front + length word; stand = refl; rest = end })
stands text front from (x ∷ y ∷ ys) all gap e =
    let word = lexeme_text x in
    let rest = text_of (y ∷ ys) in
    let here = is_token text front (32 ∷ rest) x (All-head IsWritten x (y ∷ ys) all) e (ends_at_space x rest) in
    let behind : text ≡ (front ++ word) ++ 32 ∷ rest = e ∙ sym (append_assoc front word (32 ∷ rest)) in
    let all_behind : text ≡ ((front ++ word) ++ 32 ∷ []) ++ rest = behind ∙ sym (append_assoc (front ++ word) (32 ∷ []) rest) in
    let start : length (front ++ word) ≡ length front + length word = length-append front word in
    let end : length (front ++ word) + 1 ≡ length ((front ++ word) ++ 32 ∷ []) = sym (length-append (front ++ word) (32 ∷ [])) in
    let space : IsGap text (length front + length word) (length ((front ++ word) ++ 32 ∷ [])) = subst (λ k. IsGap text k (length ((front ++ word) ++ 32 ∷ []))) start (subst (IsGap text (length (front ++ word))) end (one_blank text (front ++ word) rest behind)) in
    with_first text from (placed x (length front)) x (y ∷ ys) gap here (stands text ((front ++ word) ++ 32 ∷ []) (length front + length word) (y ∷ ys) (All-tail IsWritten x (y ∷ ys) all) space all_behind)

-- what is printed of tokens says the same tokens
pub printed_says : (lexemes : List Lexeme) → All IsWritten lexemes → (tokens : List Token) × Says (text_of lexemes) tokens lexemes
printed_says lexemes all =
    let text = text_of lexemes in
    let found = stands text [] 0 lexemes all (no_gap text 0 (omega arith)) refl in
    (found.tokens, record { upto = found.upto; stand = found.stand; rest = found.rest })

-- a token that stands somewhere can be written
written : (lexeme : Lexeme) (bytes : List ℕ) → Spells bytes lexeme → IsWritten lexeme
written (Word name) bytes s = (bytes, s)
written (Number value) bytes s = tt
written (Quoted text) bytes s = tt
written (Sign sign) bytes s = tt

-- and so can all of them
stand_written : (text : List ℕ) (from upto : ℕ) (tokens : List Token) (lexemes : List Lexeme) → Stand text from tokens lexemes upto → All IsWritten lexemes
stand_written text from upto [] [] s = All-nil IsWritten
stand_written text from upto (token ∷ tokens) (lexeme ∷ lexemes) s =
    All-cons IsWritten lexeme lexemes (written lexeme (slice_range text token.from token.upto) s.1.spelling) (stand_written text token.upto upto tokens lexemes s.2)
stand_written text from upto [] (lexeme ∷ lexemes) s = absurd s
stand_written text from upto (token ∷ tokens) [] s = absurd s

-- the tokens of a text can be written
pub says_written : (text : List ℕ) (tokens : List Token) (lexemes : List Lexeme) → Says text tokens lexemes → All IsWritten lexemes
says_written text tokens lexemes s = stand_written text 0 s.upto tokens lexemes s.stand
