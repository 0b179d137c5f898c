-- What one place of a text can be read as.
use Rattle.std.proofs.Common.{◌≡◌, ℕ, zero, suc, ◌<◌, ◌≤◌, true, false, ◌||◌, List, [], ◌∷◌, ◌++◌, length, take, drop, get_or, map, refl, sym, ap, ◌∙◌, subst, ◌==◌, leb, ◌⊎◌, inl, inr, ◌≢◌, arith}
use Rattle.std.proofs.lemmas.Bool.{false≢true, eqb-true, leb-true, ne_eqb, or_from, or_cases, or_left, or_right, or_parts, and_parts}
use Rattle.std.proofs.lemmas.List.{length-take-le, length-drop}
use Rattle.std.proofs.lemmas.List.Elements.{All-cons, All-tail, All-weaker}
use Rattle.std.specs.List.{AllPass}
use Rattle.std.specs.Str.Parse.{digits_value}
use Rattle.mt_lexer.specs.declared.token.Symbol.{Symbol}
use Rattle.mt_lexer.specs.declared.token.Symbol.TheVariants as symbol
use Rattle.mt_lexer.specs.Tokens.{Lexeme, Word, Number, Quoted, Sign, Spells, begins_word, is_in_word, is_digit, is_upper, is_lower, is_blank, lower, doubled, symbol_bytes}
use Rattle.mt_lexer.specs.FirstToken.{IsFirstToken, IsWordRun}
use Rattle.mt_lexer.proofs.Runs.{BeginsNoWith_at, BeginsNoWith_from, run_length_unique}
use Rattle.mt_lexer.proofs.Quotes.{quoted_unique, quoted_rest}
use Rattle.mt_lexer.proofs.Signs.{StandsAt, stands_where_read, symbol_read}

-- what the bytes of a word are
pub record IsWord (bytes : List ℕ) (name : List ℕ) : Type 0 where
  pub run : AllPass is_in_word bytes
  pub first : begins_word (get_or bytes 0 0) ≡ true
  pub long : 0 < length bytes
  pub short : length bytes ≤ 30
  pub lowered : name ≡ map lower bytes

-- a byte that begins a word may stand in it
pub in_word_from_begins : (b : ℕ) → begins_word b ≡ true → is_in_word b ≡ true
in_word_from_begins b h = or_left (begins_word b) (is_digit b) h

-- bytes that spell a word are one
pub word_from_spells : (bytes name : List ℕ) → Spells bytes (Word name) → IsWord bytes name
word_from_spells [] name h = elim h [ ]
word_from_spells (b ∷ bs) name h = record {
  run = All-cons (λ x. is_in_word x ≡ true) b bs (in_word_from_begins b h.0) h.1;
  first = h.0;
  long = omega arith;
  short = h.2;
  lowered = h.3;
}

-- which bytes a lexeme begins with
abbrev pub BeginsAt : Lexeme → ℕ → Type 0
BeginsAt (Word name) b = 65 ≤ b
BeginsAt (Number value) b = (48 ≤ b) × (b ≤ 57)
BeginsAt (Quoted text) b = b ≡ 39
BeginsAt (Sign sign) b = (40 ≤ b) × (b ≤ 62) × ((b ≤ 46) ⊎ (59 ≤ b))

-- a letter or an underscore
word_byte : (b : ℕ) → begins_word b ≡ true → 65 ≤ b
word_byte b h = elim (or_cases (is_upper b || is_lower b) (b == 95) h) [
  | inl w ↦ elim (or_cases (is_upper b) (is_lower b) w) [
    | inl u ↦ leb-true 65 b ((and_parts (leb 65 b) (leb b 90) u).0)
    | inr l ↦ let k = leb-true 97 b ((and_parts (leb 97 b) (leb b 122) l).0) in omega arith
  ]
  | inr w ↦ let k = eqb-true b 95 w in omega arith
]

-- a digit
digit_byte : (b : ℕ) → is_digit b ≡ true → (48 ≤ b) × (b ≤ 57)
digit_byte b h = let p = and_parts (leb 48 b) (leb b 57) h in (leb-true 48 b p.0, leb-true b 57 p.1)

-- the first byte of a symbol
sign_byte : (s : Symbol) (first next : ℕ) → StandsAt s first next → (40 ≤ first) × (first ≤ 62) × ((first ≤ 46) ⊎ (59 ≤ first))
sign_byte symbol.Open b n h = (omega arith, omega arith, inl (omega arith))
sign_byte symbol.Close b n h = (omega arith, omega arith, inl (omega arith))
sign_byte symbol.Comma b n h = (omega arith, omega arith, inl (omega arith))
sign_byte symbol.Dot b n h = (omega arith, omega arith, inl (omega arith))
sign_byte symbol.Star b n h = (omega arith, omega arith, inl (omega arith))
sign_byte symbol.Plus b n h = (omega arith, omega arith, inl (omega arith))
sign_byte symbol.Minus b n h = (omega arith, omega arith, inl (omega arith))
sign_byte symbol.Equal b n h = (omega arith, omega arith, inr (omega arith))
sign_byte symbol.NotEqual b n h = (omega arith, omega arith, inr (omega arith))
sign_byte symbol.Less b n h = (omega arith, omega arith, inr (omega arith))
sign_byte symbol.LessEqual b n h = (omega arith, omega arith, inr (omega arith))
sign_byte symbol.Greater b n h = (omega arith, omega arith, inr (omega arith))
sign_byte symbol.GreaterEqual b n h = (omega arith, omega arith, inr (omega arith))
sign_byte symbol.Semicolon b n h = (omega arith, omega arith, inr (omega arith))

-- a symbol has a byte
symbol_is_long : (s : Symbol) → 0 < length (symbol_bytes s)
unfolding symbol_bytes
symbol_is_long symbol.Open = omega arith
symbol_is_long symbol.Close = omega arith
symbol_is_long symbol.Comma = omega arith
symbol_is_long symbol.Dot = omega arith
symbol_is_long symbol.Star = omega arith
symbol_is_long symbol.Plus = omega arith
symbol_is_long symbol.Minus = omega arith
symbol_is_long symbol.Equal = omega arith
symbol_is_long symbol.NotEqual = omega arith
symbol_is_long symbol.Less = omega arith
symbol_is_long symbol.LessEqual = omega arith
symbol_is_long symbol.Greater = omega arith
symbol_is_long symbol.GreaterEqual = omega arith
symbol_is_long symbol.Semicolon = omega arith

-- the first byte of what is taken
first_taken : (rest : List ℕ) (n : ℕ) → 0 < length (take n rest) → get_or (take n rest) 0 0 ≡ get_or rest 0 0
first_taken [] zero h = refl
first_taken [] (suc n) h = refl
first_taken (x ∷ xs) zero h = absurd (omega arith)
first_taken (x ∷ xs) (suc n) h = refl

-- a word begins as words do
word_begins : (rest : List ℕ) (n : ℕ) (name : List ℕ) → IsFirstToken rest n (Word name) → begins_word (get_or rest 0 0) ≡ true
word_begins rest n name r =
    let w = word_from_spells (take n rest) name r.spelling in
    ap begins_word (sym (first_taken rest n w.long)) ∙ w.first

-- and a number with a digit
number_begins : (rest : List ℕ) (n value : ℕ) → IsFirstToken rest n (Number value) → is_digit (get_or rest 0 0) ≡ true
number_begins rest n value r = ap is_digit (sym (first_taken rest n r.spelling.0)) ∙ r.spelling.1 0 0 r.spelling.0

-- a token has a byte, and the first one tells its kind
pub begins_at_read : (l : Lexeme) (rest : List ℕ) (n : ℕ) → IsFirstToken rest n l → (0 < n) × BeginsAt l (get_or rest 0 0)
begins_at_read (Word name) rest n r =
    let w = word_from_spells (take n rest) name r.spelling in
    (omega (arith, length-take-le n rest r.within, w.long), word_byte _ (word_begins rest n name r))
begins_at_read (Number v) rest n r =
    (omega (arith, length-take-le n rest r.within, r.spelling.0), digit_byte _ (number_begins rest n v r))
begins_at_read (Quoted text) rest n r =
    let long : 0 < length (take n rest) = rw r.spelling (omega arith) in
    (omega (arith, length-take-le n rest r.within), sym (first_taken rest n long) ∙ ap (λ xs. get_or xs 0 0) r.spelling)
begins_at_read (Sign s) rest n r =
    let w = stands_where_read s rest n r in
    (omega (arith, symbol_is_long s, w.1), sign_byte s _ _ w.0)

-- a digit may stand in a word
in_word_from_digit : (b : ℕ) → is_digit b ≡ true → is_in_word b ≡ true
in_word_from_digit b h = or_right (begins_word b) (is_digit b) h

-- one word at a place
same_word : (name other : List ℕ) (rest : List ℕ) (n m : ℕ) → IsFirstToken rest n (Word name) → IsFirstToken rest m (Word other) → (n ≡ m) × (Word name ≡ Word other)
same_word name other rest n m r s =
    let v = word_from_spells (take n rest) name r.spelling in
    let w = word_from_spells (take m rest) other s.spelling in
    let e = run_length_unique is_in_word refl rest n m r.within s.within v.run w.run r.ends s.ends in
    (e, ap Word (v.lowered ∙ ap (λ k. map lower (take k rest)) e ∙ sym w.lowered))

-- one number at a place
same_number : (value other : ℕ) (rest : List ℕ) (n m : ℕ) → IsFirstToken rest n (Number value) → IsFirstToken rest m (Number other) → (n ≡ m) × (Number value ≡ Number other)
same_number value other rest n m r s =
    let P : ℕ → Type 0 = λ b. is_digit b ≡ true in
    let Q : ℕ → Type 0 = λ b. is_in_word b ≡ true in
    let v = All-weaker P Q in_word_from_digit (take n rest) r.spelling.1 in
    let w = All-weaker P Q in_word_from_digit (take m rest) s.spelling.1 in
    let e = run_length_unique is_in_word refl rest n m r.within s.within v w r.ends s.ends in
    (e, ap Number (r.spelling.2 ∙ ap (λ k. digits_value 10 (take k rest)) e ∙ sym s.spelling.2))

-- one text at a place
same_quoted : (text other : List ℕ) (rest : List ℕ) (n m : ℕ) → IsFirstToken rest n (Quoted text) → IsFirstToken rest m (Quoted other) → (n ≡ m) × (Quoted text ≡ Quoted other)
same_quoted text other rest n m r s =
    let both : 39 ∷ (doubled text ++ 39 ∷ drop n rest) ≡ 39 ∷ (doubled other ++ 39 ∷ drop m rest) = sym (quoted_rest text rest n r) ∙ quoted_rest other rest m s in
    let q = quoted_unique text other (drop n rest) (drop m rest) (cc) r.ends s.ends in
    let len : length (drop n rest) ≡ length (drop m rest) = ap length q.1 in
    (omega (arith, length-drop n rest, length-drop m rest, r.within, s.within), ap Quoted q.0)

-- one symbol at a place
same_sign : (sign other : Symbol) (rest : List ℕ) (n m : ℕ) → IsFirstToken rest n (Sign sign) → IsFirstToken rest m (Sign other) → (n ≡ m) × (Sign sign ≡ Sign other)
same_sign sign other rest n m r s =
    let v = symbol_read sign rest n r in
    let w = symbol_read other rest m s in
    let e : sign ≡ other = cc (v.0, w.0) in
    (v.1 ∙ ap (λ x. length (symbol_bytes x)) e ∙ sym w.1, ap Sign e)

-- one place is read in one way
pub reads_unique : (l k : Lexeme) (rest : List ℕ) (n m : ℕ) → IsFirstToken rest n l → IsFirstToken rest m k → (n ≡ m) × (l ≡ k)
reads_unique l k rest n m r s = by_kind l k r s (begins_at_read l rest n r).1 (begins_at_read k rest m s).1 where
  by_kind : (l k : Lexeme) → IsFirstToken rest n l → IsFirstToken rest m k → BeginsAt l (get_or rest 0 0) → BeginsAt k (get_or rest 0 0) → (n ≡ m) × (l ≡ k)
  by_kind (Word a) (Word b) r s f g = same_word a b rest n m r s
  by_kind (Word a) (Number b) r s f g = absurd (omega arith)
  by_kind (Word a) (Quoted b) r s f g = absurd (omega arith)
  by_kind (Word a) (Sign b) r s f g = absurd (omega arith)
  by_kind (Number a) (Word b) r s f g = absurd (omega arith)
  by_kind (Number a) (Number b) r s f g = same_number a b rest n m r s
  by_kind (Number a) (Quoted b) r s f g = absurd (omega arith)
  by_kind (Number a) (Sign b) r s f g = absurd (elim g.2 [ inl w ↦ omega arith | inr w ↦ omega arith ])
  by_kind (Quoted a) (Word b) r s f g = absurd (omega arith)
  by_kind (Quoted a) (Number b) r s f g = absurd (omega arith)
  by_kind (Quoted a) (Quoted b) r s f g = same_quoted a b rest n m r s
  by_kind (Quoted a) (Sign b) r s f g = absurd (omega arith)
  by_kind (Sign a) (Word b) r s f g = absurd (omega arith)
  by_kind (Sign a) (Number b) r s f g = absurd (elim f.2 [ inl w ↦ omega arith | inr w ↦ omega arith ])
  by_kind (Sign a) (Quoted b) r s f g = absurd (omega arith)
  by_kind (Sign a) (Sign b) r s f g = same_sign a b rest n m r s

-- no token begins with a blank
pub begins_at_is_not_blank : (l : Lexeme) (b : ℕ) → BeginsAt l b → is_blank b ≡ false
begins_at_is_not_blank (Word a) b h = or_from (b == 32) (b == 9) (ne_eqb b 32 (λ e. omega arith)) (ne_eqb b 9 (λ e. omega arith))
begins_at_is_not_blank (Number a) b h = or_from (b == 32) (b == 9) (ne_eqb b 32 (λ e. omega arith)) (ne_eqb b 9 (λ e. omega arith))
begins_at_is_not_blank (Quoted a) b h = or_from (b == 32) (b == 9) (ne_eqb b 32 (λ e. omega arith)) (ne_eqb b 9 (λ e. omega arith))
begins_at_is_not_blank (Sign a) b h = or_from (b == 32) (b == 9) (ne_eqb b 32 (λ e. omega arith)) (ne_eqb b 9 (λ e. omega arith))

-- what is read as a word is the whole run
pub word_is_run : (rest : List ℕ) (n m : ℕ) (name : List ℕ) → IsWordRun rest n → IsFirstToken rest m (Word name) → (0 < n) × (n ≤ 30) × (begins_word (get_or rest 0 0) ≡ true)
word_is_run rest n m name h r =
    let w = word_from_spells (take m rest) name r.spelling in
    let e = run_length_unique is_in_word refl rest n m h.within r.within h.run w.run h.ends r.ends in
    let l = length-take-le m rest r.within in
    (omega (arith, w.long), omega (arith, w.short), ap begins_word (sym (first_taken rest m w.long)) ∙ w.first)

-- a number is the whole run too
pub number_is_run : (rest : List ℕ) (n m value : ℕ) → IsWordRun rest n → IsFirstToken rest m (Number value) → (0 < n) × AllPass is_digit (take n rest)
number_is_run rest n m value h r =
    let P : ℕ → Type 0 = λ b. is_digit b ≡ true in
    let Q : ℕ → Type 0 = λ b. is_in_word b ≡ true in
    let w = All-weaker P Q in_word_from_digit (take m rest) r.spelling.1 in
    let e = run_length_unique is_in_word refl rest n m h.within r.within h.run w h.ends r.ends in
    let l = length-take-le m rest r.within in
    (omega (arith, r.spelling.0), subst (λ k. AllPass is_digit (take k rest)) (sym e) r.spelling.1)

-- bytes that are a word spell it in lower case
spells_from_word : (bytes : List ℕ) → AllPass is_in_word bytes → begins_word (get_or bytes 0 0) ≡ true → 0 < length bytes → length bytes ≤ 30 → Spells bytes (Word (map lower bytes))
spells_from_word [] a b l s = absurd (omega arith)
spells_from_word (x ∷ xs) a b l s = (b, All-tail (λ b. is_in_word b ≡ true) x xs a, s, refl)

-- a run of 30 bytes at most that a letter begins is a word
pub word_from_run : (rest : List ℕ) (n : ℕ) → IsWordRun rest n → 0 < n → n ≤ 30 → begins_word (get_or rest 0 0) ≡ true → IsFirstToken rest n (Word (map lower (take n rest)))
word_from_run rest n h p s b =
    let l = length-take-le n rest h.within in
    let long : 0 < length (take n rest) = omega arith in
    record {
      within = h.within;
      spelling = spells_from_word (take n rest) h.run (ap begins_word (first_taken rest n long) ∙ b) long (omega arith);
      ends = h.ends;
    }

-- a run of digits is a number
pub number_from_run : (rest : List ℕ) (n : ℕ) → IsWordRun rest n → 0 < n → AllPass is_digit (take n rest) → IsFirstToken rest n (Number (digits_value 10 (take n rest)))
number_from_run rest n h p a =
    let l = length-take-le n rest h.within in
    record { within = h.within; spelling = (omega arith, a, refl); ends = h.ends }

-- where a number stands there are digits, and no byte of a word follows them
pub number_is_digits : (rest : List ℕ) (n m value : ℕ) → n ≤ length rest → AllPass is_digit (take n rest) → is_digit (get_or rest n 0) ≡ false → IsFirstToken rest m (Number value) → (0 < n) × (is_in_word (get_or rest n 0) ≡ false)
number_is_digits rest n m value within run ends r =
    let behind : is_in_word (get_or rest m 0) ≡ false = BeginsNoWith_at is_in_word refl rest m r.ends in
    let no_digit : is_digit (get_or rest m 0) ≡ false = (or_parts (begins_word (get_or rest m 0)) (is_digit (get_or rest m 0)) behind).1 in
    let e = run_length_unique is_digit refl rest n m within r.within run r.spelling.1 (BeginsNoWith_from is_digit rest n ends) (BeginsNoWith_from is_digit rest m no_digit) in
    let l = length-take-le m rest r.within in
    (omega (arith, r.spelling.0), rw e behind)

-- where a word may begin and none stands, no token does
pub none_for_word : (rest : List ℕ) → begins_word (get_or rest 0 0) ≡ true → ((n : ℕ) (name : List ℕ) → IsFirstToken rest n (Word name) → ⊥) → (n : ℕ) (lexeme : Lexeme) → IsFirstToken rest n lexeme → ⊥
none_for_word rest begins none n lexeme r = of lexeme r (begins_at_read lexeme rest n r).1 (word_byte _ begins) where
  of : (lexeme : Lexeme) → IsFirstToken rest n lexeme → BeginsAt lexeme (get_or rest 0 0) → 65 ≤ get_or rest 0 0 → ⊥
  of (Word name) r b big = none n name r
  of (Number value) r b big = omega arith
  of (Quoted text) r b big = omega arith
  of (Sign sign) r b big = omega arith

-- and so for a number
pub none_for_number : (rest : List ℕ) → is_digit (get_or rest 0 0) ≡ true → ((n value : ℕ) → IsFirstToken rest n (Number value) → ⊥) → (n : ℕ) (lexeme : Lexeme) → IsFirstToken rest n lexeme → ⊥
none_for_number rest digit none n lexeme r = of lexeme r (begins_at_read lexeme rest n r).1 (digit_byte _ digit) where
  of : (lexeme : Lexeme) → IsFirstToken rest n lexeme → BeginsAt lexeme (get_or rest 0 0) → (48 ≤ get_or rest 0 0) × (get_or rest 0 0 ≤ 57) → ⊥
  of (Word name) r b d = omega arith
  of (Number value) r b d = none n value r
  of (Quoted text) r b d = omega arith
  of (Sign sign) r b d = elim b.2 [ inl w ↦ omega arith | inr w ↦ omega arith ]

-- and so for a text in quotes
pub none_for_quoted : (rest : List ℕ) → get_or rest 0 0 ≡ 39 → ((n : ℕ) (text : List ℕ) → IsFirstToken rest n (Quoted text) → ⊥) → (n : ℕ) (lexeme : Lexeme) → IsFirstToken rest n lexeme → ⊥
none_for_quoted rest quote none n lexeme r = of lexeme r (begins_at_read lexeme rest n r).1 where
  of : (lexeme : Lexeme) → IsFirstToken rest n lexeme → BeginsAt lexeme (get_or rest 0 0) → ⊥
  of (Word name) r b = omega arith
  of (Number value) r b = omega arith
  of (Quoted text) r b = none n text r
  of (Sign sign) r b = omega arith

-- where no word, no number and no text may begin, and no symbol stands, no token does
pub none_for_sign : (rest : List ℕ) → begins_word (get_or rest 0 0) ≡ false → is_digit (get_or rest 0 0) ≡ false → get_or rest 0 0 ≢ 39 → ((n : ℕ) (sign : Symbol) → IsFirstToken rest n (Sign sign) → ⊥) → (n : ℕ) (lexeme : Lexeme) → IsFirstToken rest n lexeme → ⊥
none_for_sign rest word digit quote none n (Word name) r = false≢true (sym word ∙ word_begins rest n name r)
none_for_sign rest word digit quote none n (Number value) r = false≢true (sym digit ∙ number_begins rest n value r)
none_for_sign rest word digit quote none n (Quoted text) r = quote (begins_at_read (Quoted text) rest n r).1
none_for_sign rest word digit quote none n (Sign sign) r = none n sign r
