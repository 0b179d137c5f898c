-- Each text says something, or has a place with no token.
use Rattle.std.proofs.Common.{◌≡◌, ℕ, zero, suc, ◌+◌, ◌-◌, ◌<◌, ◌≤◌, Bool, true, false, Option, Some, None, IfSome, IfNone, List, [], ◌∷◌, ◌++◌, length, take, drop, get_or, map, refl, sym, ◌∙◌, subst, ◌⊎◌, inl, inr, arith}
use Rattle.std.specs.List.{AllPass, list_all}
use Rattle.std.specs.Str.Parse.{digits_value}
use Rattle.std.proofs.lemmas.Bool.{cases_lt, cases_eq}
use Rattle.std.proofs.lemmas.List.Sums.{AllPass-from_list_all, list_all-from_AllPass}
use Rattle.mt_lexer.specs.declared.token.Symbol.{Symbol}
use Rattle.mt_lexer.specs.declared.token.TokenKind.{TokenKind}
use Rattle.mt_lexer.specs.declared.token.Token.{Token}
use Rattle.mt_lexer.specs.Tokens.{Lexeme, Word, Number, Quoted, Sign, IsOfKind, IsToken, Says, HasNoTokenAt, begins_word, is_in_word, is_digit, is_blank, lower, symbol_bytes}
use Rattle.mt_lexer.specs.FirstToken.{IsFirstToken, IsWordRun, symbol_of}
use Rattle.mt_lexer.proofs.Runs.{run_of_all, run_up_to, run_more}
use Rattle.mt_lexer.proofs.Reading.{word_is_run, number_is_run, word_from_run, number_from_run}
use Rattle.mt_lexer.proofs.Quotes.{IsOpenQuote, open_first, open_more, open_twice, quoted_closed, open_at_end, quoted_begins}
use Rattle.mt_lexer.proofs.Signs.{symbol_found, symbol_not_found}
use Rattle.mt_lexer.proofs.Tiling.{Reached, Reached-start, Reached-push, Reached-blank, says_from_reached, none_from_reached, token_from_read, read_from_token, read_fits, kind_of}

-- the run of bytes that may stand in a word, from n bytes of it on
run_from : (fuel : ℕ) (rest : List ℕ) (n : ℕ) → length rest ≤ n + fuel → n ≤ length rest → AllPass is_in_word (take n rest) → (m : ℕ) × IsWordRun rest m
run_from zero rest n enough within run = (length rest, run_of_all rest n within (omega arith) run)
run_from (suc fuel) rest n enough within run = elim (cases_lt n (length rest)) [
  | inl below ↦ by (is_in_word (get_or rest n 0)) refl below (λ more. run_from fuel rest (n + 1) (omega arith) (omega arith) more)
  | inr all ↦ (length rest, run_of_all rest n within all run)
]
  where
    by : (b : Bool) → is_in_word (get_or rest n 0) ≡ b → n < length rest → (AllPass is_in_word (take (n + 1) rest) → (m : ℕ) × IsWordRun rest m) → (m : ℕ) × IsWordRun rest m
    by true e below on = on (run_more rest n below run e)
    by false e below on = (n, run_up_to rest n within run e)

run_at : (rest : List ℕ) → (m : ℕ) × IsWordRun rest m
run_at rest = run_from (length rest) rest 0 (omega arith) (omega arith) (λ k d below. absurd (omega arith))

-- what is read from here on, of the lexemes that a function makes, or that nothing is
abbrev ReadOrNot : {X : Type 0} → (X → Lexeme) → List ℕ → Type 0
ReadOrNot {X} make rest = ((n : ℕ) × (x : X) × IsFirstToken rest n (make x)) ⊎ ((n : ℕ) (x : X) → IsFirstToken rest n (make x) → ⊥)

word_or_not : (rest : List ℕ) → ReadOrNot Word rest
word_or_not rest = let (m, run) = run_at rest in by m run (cases_lt 0 m) (cases_lt 30 m) (begins_word (get_or rest 0 0)) refl
  where
    by : (m : ℕ) → IsWordRun rest m → (0 < m) ⊎ (m ≤ 0) → (30 < m) ⊎ (m ≤ 30) → (b : Bool) → begins_word (get_or rest 0 0) ≡ b → ReadOrNot Word rest
    by m run (inr none) limit b e = inr (λ n name r. let w = word_is_run rest m n name run r in omega (arith, w.0))
    by m run (inl some) (inl long) b e = inr (λ n name r. let w = word_is_run rest m n name run r in omega (arith, w.1))
    by m run (inl some) (inr short) true e = inl (m, map lower (take m rest), word_from_run rest m run some short e)
    by m run (inl some) (inr short) false e = inr (λ n name r. let w = word_is_run rest m n name run r in let f = sym e ∙ w.2 in cc)

number_or_not : (rest : List ℕ) → ReadOrNot Number rest
number_or_not rest = let (m, run) = run_at rest in by m run (cases_lt 0 m) (list_all is_digit (take m rest)) refl
  where
    by : (m : ℕ) → IsWordRun rest m → (0 < m) ⊎ (m ≤ 0) → (b : Bool) → list_all is_digit (take m rest) ≡ b → ReadOrNot Number rest
    by m run (inr none) b e = inr (λ n value r. let w = number_is_run rest m n value run r in omega (arith, w.0))
    by m run (inl some) true e = inl (m, digits_value 10 (take m rest), number_from_run rest m run some (AllPass-from_list_all is_digit (take m rest) e))
    by m run (inl some) false e = inr (λ n value r.
        let w = number_is_run rest m n value run r in
        let f = sym e ∙ list_all-from_AllPass is_digit (take m rest) w.1 in
        cc)

-- the quote that closes a text, from n bytes of it on
closed_or_not : (fuel : ℕ) (rest : List ℕ) (n : ℕ) → length rest ≤ n + fuel → IsOpenQuote rest n → ReadOrNot Quoted rest
closed_or_not zero rest n enough open_ = inr (λ m text r. open_at_end rest n m text (omega arith) open_ r)
closed_or_not (suc fuel) rest n enough open_ = elim (cases_lt n (length rest)) [
  | inl below ↦ elim (cases_eq (get_or rest n 0) 39) [
    | inl quote ↦ elim (cases_eq (get_or rest (n + 1) 0) 39) [
      | inl next ↦ closed_or_not fuel rest (n + 2) (omega arith) (open_twice rest n below quote next open_)
      | inr next ↦ inl (n + 1, open_.text, quoted_closed rest n below quote next open_)
    ]
    | inr other ↦ closed_or_not fuel rest (n + 1) (omega arith) (open_more rest n below other open_)
  ]
  | inr all ↦ inr (λ m text r. open_at_end rest n m text all open_ r)
]

quoted_or_not : (rest : List ℕ) → ReadOrNot Quoted rest
quoted_or_not rest = elim (cases_eq (get_or rest 0 0) 39) [
  | inl quote ↦ closed_or_not (length rest) rest 1 (omega arith) (open_first rest quote)
  | inr other ↦ inr (λ m text r. quoted_begins rest m text other r)
]

sign_or_not : (rest : List ℕ) → ReadOrNot Sign rest
sign_or_not rest = by (symbol_of (get_or rest 0 0) (get_or rest 1 0)) (symbol_found rest) (symbol_not_found rest) where
  by : (o : Option Symbol) → IfSome o (λ s. IsFirstToken rest (length (symbol_bytes s)) (Sign s)) → IfNone o ((n : ℕ) (s : Symbol) → IsFirstToken rest n (Sign s) → ⊥) → ReadOrNot Sign rest
  by None found none = inr none
  by (Some s) found none = inl (length (symbol_bytes s), s, found)

read_or_not : (rest : List ℕ) → ReadOrNot (λ lexeme. lexeme) rest
read_or_not rest = by (word_or_not rest) (number_or_not rest) (quoted_or_not rest) (sign_or_not rest) where
  none : ((n : ℕ) (x : List ℕ) → IsFirstToken rest n (Word x) → ⊥) → ((n x : ℕ) → IsFirstToken rest n (Number x) → ⊥) → ((n : ℕ) (x : List ℕ) → IsFirstToken rest n (Quoted x) → ⊥) → ((n : ℕ) (x : Symbol) → IsFirstToken rest n (Sign x) → ⊥) →
      (n : ℕ) (lexeme : Lexeme) → IsFirstToken rest n lexeme → ⊥
  none a b c d n (Word x) r = a n x r
  none a b c d n (Number x) r = b n x r
  none a b c d n (Quoted x) r = c n x r
  none a b c d n (Sign x) r = d n x r

  by : ReadOrNot Word rest → ReadOrNot Number rest → ReadOrNot Quoted rest → ReadOrNot Sign rest → ReadOrNot (λ lexeme. lexeme) rest
  by (inl a) b c d = inl (a.0, Word a.1, a.2)
  by (inr a) (inl b) c d = inl (b.0, Number b.1, b.2)
  by (inr a) (inr b) (inl c) d = inl (c.0, Quoted c.1, c.2)
  by (inr a) (inr b) (inr c) (inl d) = inl (d.0, Sign d.1, d.2)
  by (inr a) (inr b) (inr c) (inr d) = inr (none a b c d)

-- a lexeme goes with its kind
kind_of_is : (lexeme : Lexeme) → IsOfKind (kind_of lexeme) lexeme
unfolding kind_of
kind_of_is (Word x) = tt
kind_of_is (Number x) = tt
kind_of_is (Quoted x) = tt
kind_of_is (Sign x) = refl

-- the token at a place, or none
abbrev TokenOrNot : List ℕ → ℕ → Type 0
TokenOrNot text at = ((t : Token) × (l : Lexeme) × (t.from ≡ at) × (at < t.upto) × IsToken text t l) ⊎ ((t : Token) (l : Lexeme) → t.from ≡ at → IsToken text t l → ⊥)

token_at : TokenKind → ℕ → ℕ → Token
token_at kind from upto = record { kind = kind; from = from; upto = upto }

token_or_not : (text : List ℕ) (at : ℕ) → at ≤ length text → TokenOrNot text at
unfolding token_at
token_or_not text at within = by (read_or_not (drop at text)) where
  by : ReadOrNot (λ lexeme. lexeme) (drop at text) → TokenOrNot text at
  by (inl (n, l, r)) =
      let fits = read_fits text at n l within r in
      let long : at + n - at ≡ n = omega arith in
      inl (token_at (kind_of l) at (at + n), l, refl, omega (arith, fits.0), token_from_read text (token_at (kind_of l) at (at + n)) l (omega arith) within (kind_of_is l) (subst (λ m. IsFirstToken (drop at text) m l) (sym long) r))
  by (inr none) = inr (λ t l e h. none (t.upto - t.from) l (subst (λ place. IsFirstToken (drop place text) (t.upto - t.from) l) e (read_from_token text t l h)))

abbrev SaysOrNot : List ℕ → Type 0
SaysOrNot text = ((tokens : List Token) × (lexemes : List Lexeme) × Says text tokens lexemes) ⊎ ((at : ℕ) × HasNoTokenAt text at)

whole : {text : List ℕ} (tokens : List Token) → (lexemes : List Lexeme) × Says text tokens lexemes → (tokens : List Token) × (lexemes : List Lexeme) × Says text tokens lexemes
whole tokens says = (tokens, says.0, says.1)

-- the tokens of a text, from these on
says_from : (fuel : ℕ) (text : List ℕ) (tokens : List Token) (at : ℕ) → length text ≤ at + fuel → Reached text tokens at → SaysOrNot text
says_from zero text tokens at enough reached = inl (whole tokens (says_from_reached text tokens at reached (omega arith)))
says_from (suc fuel) text tokens at enough reached = elim (cases_lt at (length text)) [
  | inl below ↦ by (token_or_not text at (omega arith)) (is_blank (get_or text at 0)) refl below (λ more next enough reached. says_from fuel text more next enough reached)
  | inr all ↦ inl (whole tokens (says_from_reached text tokens at reached all))
]
  where
    by : TokenOrNot text at → (b : Bool) → is_blank (get_or text at 0) ≡ b → at < length text → ((more : List Token) (next : ℕ) → length text ≤ next + fuel → Reached text more next → SaysOrNot text) → SaysOrNot text
    by (inl (t, l, e, more, h)) b blank below on =
        on (tokens ++ t ∷ []) t.upto (omega arith) (Reached-push text tokens t l (subst (Reached text tokens) (sym e) reached) h)
    by (inr none) true blank below on = on tokens (at + 1) (omega arith) (Reached-blank text tokens at reached below blank)
    by (inr none) false blank below on = inr (at, none_from_reached text tokens at reached below blank none)

-- each text says something, or has a place with no token
pub says_or_not : (text : List ℕ) → SaysOrNot text
says_or_not text = says_from (length text) text [] 0 (omega arith) (Reached-start text)
