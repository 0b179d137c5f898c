-- Texts in quotes, in which a quote stands twice.
use Rattle.std.proofs.Common.{◌≡◌, ℕ, suc, ◌+◌, ◌<◌, ◌≤◌, List, [], ◌∷◌, ◌++◌, refl, sym, ap, ◌∙◌, ◌==◌, inl, inr, ◌≢◌, length, take, drop, get_or, cond, arith}
use Rattle.std.proofs.lemmas.Bool.{false≢true, cases_lt, eq-eqb, ne_eqb}
use Rattle.std.proofs.lemmas.List.{append_assoc, take_more, take_all, take-append-drop, get_or_past}
use Rattle.std.proofs.lemmas.List.Concat.{flat_map-append}
use Rattle.mt_value.proofs.Doubling.{doubled-cons}
use Rattle.mt_lexer.specs.Tokens.{BeginsNoWith, doubled, Quoted}
use Rattle.mt_lexer.specs.FirstToken.{IsFirstToken}
use Rattle.mt_lexer.proofs.Runs.{BeginsNoWith_from}

-- no quote stands first
abbrev pub NoQuoteFirst : List ℕ → Type 0
NoQuoteFirst bytes = BeginsNoWith (λ b. b == 39) bytes

-- a text with one more byte that is no quote
doubled_push : (bs : List ℕ) (b : ℕ) → b ≢ 39 → doubled (bs ++ b ∷ []) ≡ doubled bs ++ b ∷ []
doubled_push bs b h = flat_map-append (λ b. cond (b == 39) (39 ∷ 39 ∷ []) (b ∷ [])) bs (b ∷ []) ∙ ap (λ xs. doubled bs ++ xs) (rw (ne_eqb b 39 h) refl)

-- a text with one more quote
doubled_push_quote : (bs : List ℕ) → doubled (bs ++ 39 ∷ []) ≡ doubled bs ++ 39 ∷ 39 ∷ []
doubled_push_quote bs = flat_map-append (λ b. cond (b == 39) (39 ∷ 39 ∷ []) (b ∷ [])) bs (39 ∷ [])

-- bytes that a quote begins begin with one
no_quote_first : (a c : List ℕ) → a ≡ 39 ∷ c → NoQuoteFirst a → ⊥
no_quote_first [] c e h = cc
no_quote_first (x ∷ a) c e h = let x_is : x ≡ 39 = cc in false≢true (sym h ∙ eq-eqb x 39 x_is)

-- the closing quote is found in one way: what stands before it is one text, and so is what follows
pub quoted_unique : (t u a b : List ℕ) → doubled t ++ 39 ∷ a ≡ doubled u ++ 39 ∷ b → NoQuoteFirst a → NoQuoteFirst b → (t ≡ u) × (a ≡ b)
quoted_unique [] [] a b e h k = (refl, cc)
quoted_unique [] (y ∷ u) a b e h k = elim (doubled-cons y u) [
  | inl w ↦ let f : 39 ∷ a ≡ (39 ∷ 39 ∷ doubled u) ++ 39 ∷ b = rw w.1 at e in absurd (no_quote_first a (doubled u ++ 39 ∷ b) (cc) h)
  | inr w ↦ let f : 39 ∷ a ≡ (y ∷ doubled u) ++ 39 ∷ b = rw w.1 at e in let g : y ≡ 39 = cc in absurd (w.0 g)
]
quoted_unique (x ∷ t) [] a b e h k = elim (doubled-cons x t) [
  | inl w ↦ let f : (39 ∷ 39 ∷ doubled t) ++ 39 ∷ a ≡ 39 ∷ b = rw w.1 at e in absurd (no_quote_first b (doubled t ++ 39 ∷ a) (cc) k)
  | inr w ↦ let f : (x ∷ doubled t) ++ 39 ∷ a ≡ 39 ∷ b = rw w.1 at e in let g : x ≡ 39 = cc in absurd (w.0 g)
]
quoted_unique (x ∷ t) (y ∷ u) a b e h k = elim (doubled-cons x t) [
  | inl v ↦ elim (doubled-cons y u) [
    | inl w ↦
        let f : (39 ∷ 39 ∷ doubled t) ++ 39 ∷ a ≡ (39 ∷ 39 ∷ doubled u) ++ 39 ∷ b = rw (v.1, w.1) at e in
        let r = quoted_unique t u a b (cc) h k in
        (cc (v.0, w.0, r.0), r.1)
    | inr w ↦
        let f : (39 ∷ 39 ∷ doubled t) ++ 39 ∷ a ≡ (y ∷ doubled u) ++ 39 ∷ b = rw (v.1, w.1) at e in
        let g : y ≡ 39 = cc in
        absurd (w.0 g)
  ]
  | inr v ↦ elim (doubled-cons y u) [
    | inl w ↦
        let f : (x ∷ doubled t) ++ 39 ∷ a ≡ (39 ∷ 39 ∷ doubled u) ++ 39 ∷ b = rw (v.1, w.1) at e in
        let g : x ≡ 39 = cc in
        absurd (v.0 g)
    | inr w ↦
        let f : (x ∷ doubled t) ++ 39 ∷ a ≡ (y ∷ doubled u) ++ 39 ∷ b = rw (v.1, w.1) at e in
        let r = quoted_unique t u a b (cc) h k in
        (cc (r.0), r.1)
  ]
]

-- a text in which each quote stands twice holds no closing quote
pub doubled_is_open : (u t a : List ℕ) → doubled u ≡ doubled t ++ 39 ∷ a → NoQuoteFirst a → ⊥
doubled_is_open [] [] a e h = cc
doubled_is_open [] (y ∷ t) a e h = elim (doubled-cons y t) [
  | inl w ↦ let f : ◌≡◌ {A = List ℕ} [] ((39 ∷ 39 ∷ doubled t) ++ 39 ∷ a) = rw w.1 at e in cc
  | inr w ↦ let f : ◌≡◌ {A = List ℕ} [] ((y ∷ doubled t) ++ 39 ∷ a) = rw w.1 at e in cc
]
doubled_is_open (x ∷ u) [] a e h = elim (doubled-cons x u) [
  | inl w ↦ let f : 39 ∷ 39 ∷ doubled u ≡ 39 ∷ a = rw w.1 at e in no_quote_first a (doubled u) (cc) h
  | inr w ↦ let f : x ∷ doubled u ≡ 39 ∷ a = rw w.1 at e in let g : x ≡ 39 = cc in w.0 g
]
doubled_is_open (x ∷ u) (y ∷ t) a e h = elim (doubled-cons x u) [
  | inl v ↦ elim (doubled-cons y t) [
    | inl w ↦
        let f : 39 ∷ 39 ∷ doubled u ≡ (39 ∷ 39 ∷ doubled t) ++ 39 ∷ a = rw (v.1, w.1) at e in
        doubled_is_open u t a (cc) h
    | inr w ↦
        let f : 39 ∷ 39 ∷ doubled u ≡ (y ∷ doubled t) ++ 39 ∷ a = rw (v.1, w.1) at e in
        let g : y ≡ 39 = cc in
        w.0 g
  ]
  | inr v ↦ elim (doubled-cons y t) [
    | inl w ↦
        let f : x ∷ doubled u ≡ (39 ∷ 39 ∷ doubled t) ++ 39 ∷ a = rw (v.1, w.1) at e in
        let g : x ≡ 39 = cc in
        v.0 g
    | inr w ↦
        let f : x ∷ doubled u ≡ (y ∷ doubled t) ++ 39 ∷ a = rw (v.1, w.1) at e in
        doubled_is_open u t a (cc) h
  ]
]

-- a text in quotes, and what follows it
pub quoted_rest : (text rest : List ℕ) (n : ℕ) → IsFirstToken rest n (Quoted text) → rest ≡ 39 ∷ (doubled text ++ 39 ∷ drop n rest)
quoted_rest text rest n r =
    sym (take-append-drop n rest) ∙ ap (λ xs. xs ++ drop n rest) r.spelling ∙ ap (λ xs. 39 ∷ xs) (append_assoc (doubled text) (39 ∷ []) (drop n rest))

-- The first bytes, n in all, are a quote and a text in which each quote stands twice.
pub record IsOpenQuote (rest : List ℕ) (n : ℕ) : Type 0 where
  pub within : n ≤ length rest
  pub text : List ℕ
  pub spelling : take n rest ≡ 39 ∷ doubled text

-- where a byte that is not 0 stands, the list goes on
below_at : (rest : List ℕ) (n b : ℕ) → get_or rest n 0 ≡ suc b → n < length rest
below_at rest n b e = elim (cases_lt n (length rest)) [
  | inl h ↦ h
  | inr h ↦ let z : get_or rest n 0 ≡ 0 = get_or_past rest n 0 h in absurd (omega arith)
]

-- behind the first quote stands no text yet
pub open_first : (rest : List ℕ) → get_or rest 0 0 ≡ 39 → IsOpenQuote rest 1
open_first rest e = let h : 0 < length rest = below_at rest 0 38 e in record { within = omega arith; text = []; spelling = take_more rest 0 0 h ∙ ap (λ b. b ∷ []) e }

-- one more byte that is no quote
pub open_more : (rest : List ℕ) (n : ℕ) → n < length rest → get_or rest n 0 ≢ 39 → IsOpenQuote rest n → IsOpenQuote rest (n + 1)
open_more rest n h ne o = record {
  within = omega arith;
  text = o.text ++ get_or rest n 0 ∷ [];
  spelling = take_more rest n 0 h ∙ ap (λ xs. xs ++ get_or rest n 0 ∷ []) o.spelling ∙ ap (λ xs. 39 ∷ xs) (sym (doubled_push o.text (get_or rest n 0) ne));
}

-- a quote that stands twice
pub open_twice : (rest : List ℕ) (n : ℕ) → n < length rest → get_or rest n 0 ≡ 39 → get_or rest (n + 1) 0 ≡ 39 → IsOpenQuote rest n → IsOpenQuote rest (n + 2)
open_twice rest n h e f o =
    let more : n + 1 < length rest = below_at rest (n + 1) 38 f in
    let next : n + 2 ≡ n + 1 + 1 = omega arith in
    let once : take (n + 1) rest ≡ (39 ∷ doubled o.text) ++ 39 ∷ [] = take_more rest n 0 h ∙ ap (λ xs. xs ++ get_or rest n 0 ∷ []) o.spelling ∙ ap (λ b. (39 ∷ doubled o.text) ++ b ∷ []) e in
    let twice : take (n + 1 + 1) rest ≡ ((39 ∷ doubled o.text) ++ 39 ∷ []) ++ 39 ∷ [] = take_more rest (n + 1) 0 more ∙ ap (λ xs. xs ++ get_or rest (n + 1) 0 ∷ []) once ∙ ap (λ b. ((39 ∷ doubled o.text) ++ 39 ∷ []) ++ b ∷ []) f in
    record {
      within = omega arith;
      text = o.text ++ 39 ∷ [];
      spelling = ap (λ k. take k rest) next ∙ twice ∙ ap (λ xs. 39 ∷ xs) (append_assoc (doubled o.text) (39 ∷ []) (39 ∷ []) ∙ sym (doubled_push_quote o.text));
    }

-- a quote that stands once closes the text
pub quoted_closed : (rest : List ℕ) (n : ℕ) → n < length rest → get_or rest n 0 ≡ 39 → get_or rest (n + 1) 0 ≢ 39 → (o : IsOpenQuote rest n) → IsFirstToken rest (n + 1) (Quoted o.text)
quoted_closed rest n h e f o = record {
  within = omega arith;
  spelling = take_more rest n 0 h ∙ ap (λ xs. xs ++ get_or rest n 0 ∷ []) o.spelling ∙ ap (λ b. 39 ∷ (doubled o.text ++ b ∷ [])) e;
  ends = BeginsNoWith_from (λ b. b == 39) rest (n + 1) (ne_eqb _ 39 f);
}

-- a text that is open at the end is no token
pub open_at_end : (rest : List ℕ) (n m : ℕ) (text : List ℕ) → length rest ≤ n → IsOpenQuote rest n → IsFirstToken rest m (Quoted text) → ⊥
open_at_end rest n m text h o r =
    let all : rest ≡ 39 ∷ doubled o.text = sym (take_all n rest h) ∙ o.spelling in
    let whole : rest ≡ 39 ∷ (doubled text ++ 39 ∷ drop m rest) = quoted_rest text rest m r in
    doubled_is_open o.text text (drop m rest) (cc) r.ends

-- what does not begin with a quote is no text in quotes
pub quoted_begins : (rest : List ℕ) (m : ℕ) (text : List ℕ) → get_or rest 0 0 ≢ 39 → IsFirstToken rest m (Quoted text) → ⊥
quoted_begins rest m text h r = h (ap (λ xs. get_or xs 0 0) (quoted_rest text rest m r))
