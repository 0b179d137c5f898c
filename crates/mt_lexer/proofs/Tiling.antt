-- Tokens one behind another.
use Rattle.std.proofs.Common.{◌≡◌, ℕ, zero, suc, ◌+◌, ◌-◌, ◌<◌, ◌≤◌, true, false, List, [], ◌∷◌, ◌++◌, length, take, drop, get_or, refl, sym, ap, ◌∙◌, subst, inl, inr, arith, add-zero}
use Rattle.std.proofs.lemmas.Bool.{false≢true, cases_order}
use Rattle.std.proofs.lemmas.Grind.{common_steps}
use Rattle.std.proofs.lemmas.List.{drop-drop, length-drop, get_or-drop, get_or-take, length-take-le}
use Rattle.std.proofs.lemmas.List.Elements.{All-more}
use Rattle.std.specs.List.{AllPass}
use Rattle.mt_lexer.specs.declared.token.TokenKind.{TokenKind}
use Rattle.mt_lexer.specs.declared.token.TokenKind.TheVariants as kind
use Rattle.mt_lexer.specs.declared.token.Token.{Token}
use Rattle.mt_lexer.specs.Tokens.{Lexeme, Word, Number, Quoted, Sign, IsOfKind, IsToken, IsGap, Stand, Says, HasNoTokenAt, is_blank}
use Rattle.mt_lexer.specs.FirstToken.{IsFirstToken}
use Rattle.mt_lexer.proofs.Reading.{reads_unique, begins_at_read, begins_at_is_not_blank, BeginsAt}

-- A token at a place is what the bytes from there on are read as.
pub read_from_token : (text : List ℕ) (t : Token) (l : Lexeme) → IsToken text t l → IsFirstToken (drop t.from text) (t.upto - t.from) l
read_from_token text t l h =
    let place : t.from + (t.upto - t.from) ≡ t.upto = omega (arith, h.forward) in
    record {
      within = omega (arith, length-drop t.from text, h.within);
      spelling = h.spelling;
      ends = rw (drop-drop, place) h.ends;
    }

-- the other way round
pub token_from_read : (text : List ℕ) (t : Token) (l : Lexeme) → t.from ≤ t.upto → t.from ≤ length text → IsOfKind t.kind l → IsFirstToken (drop t.from text) (t.upto - t.from) l → IsToken text t l
token_from_read text t l f w k r =
    let place : t.from + (t.upto - t.from) ≡ t.upto = omega (arith, f) in
    let e = r.ends in
    record {
      forward = f;
      within = omega (arith, length-drop t.from text, r.within);
      kind = k;
      spelling = r.spelling;
      ends = rw (drop-drop, place) at e;
    }

-- the kind of token that says this
unfoldable pub kind_of : Lexeme → TokenKind
kind_of (Word name) = kind.Word
kind_of (Number value) = kind.Number
kind_of (Quoted text) = kind.Text
kind_of (Sign sign) = kind.Symbol sign

-- a token has that kind
pub kind_is : (k : TokenKind) (l : Lexeme) → IsOfKind k l → k ≡ kind_of l
unfolding kind_of
kind_is kind.Word (Word n) h = refl
kind_is kind.Number (Number n) h = refl
kind_is kind.Text (Quoted n) h = refl
kind_is (kind.Symbol s) (Sign n) h = ap kind.Symbol (sym h)
kind_is k l h = absurd h

-- a token of its parts
token_of : TokenKind → ℕ → ℕ → Token
token_of k from upto = record { kind = k; from = from; upto = upto }

-- tokens with equal parts are equal
same_tokens : (t u : Token) → t.kind ≡ u.kind → t.from ≡ u.from → t.upto ≡ u.upto → t ≡ u
unfolding token_of
same_tokens t u a b c = let e : token_of t.kind t.from t.upto ≡ token_of u.kind u.from u.upto = cc in e

-- at a place one token stands at most, and says one thing
pub token_unique : (text : List ℕ) (t u : Token) (l k : Lexeme) → t.from ≡ u.from → IsToken text t l → IsToken text u k → (t ≡ u) × (l ≡ k)
token_unique text t u l k e h g =
    let r = read_from_token text t l h in
    let s : IsFirstToken (drop t.from text) (u.upto - u.from) k = subst (λ place. IsFirstToken (drop place text) (u.upto - u.from) k) (sym e) (read_from_token text u k g) in
    let same = reads_unique l k (drop t.from text) (t.upto - t.from) (u.upto - u.from) r s in
    let upto : t.upto ≡ u.upto = omega (arith, h.forward, g.forward, same.0) in
    let kinds : t.kind ≡ u.kind = kind_is t.kind l h.kind ∙ ap kind_of same.1 ∙ sym (kind_is u.kind k g.kind) in
    (same_tokens t u kinds e upto, same.1)

-- a token has a byte, which is no blank
pub token_is_not_blank : (text : List ℕ) (t : Token) (l : Lexeme) → IsToken text t l → (t.from < length text) × (is_blank (get_or text t.from 0) ≡ false)
token_is_not_blank text t l h =
    let r = begins_at_read l (drop t.from text) (t.upto - t.from) (read_from_token text t l h) in
    let here : get_or (drop t.from text) 0 0 ≡ get_or text t.from 0 = rw (get_or-drop, add-zero) refl in
    let b : BeginsAt l (get_or text t.from 0) = subst (BeginsAt l) here r.1 in
    (omega (arith, r.0, h.within), begins_at_is_not_blank l _ b)

-- within blanks stands a blank
gap_goes_on : (text : List ℕ) (from n m : ℕ) → from ≤ n → IsGap text from m → n < m → is_blank (get_or text n 0) ≡ false → ⊥
gap_goes_on text from n m f g h e =
    let len : length (take (m - from) (drop from text)) ≡ m - from = length-take-le (m - from) (drop from text) (omega (arith, length-drop from text, g.within)) in
    let t : is_blank (get_or (take (m - from) (drop from text)) (n - from) 0) ≡ true = g.blank (n - from) 0 (omega (arith, len)) in
    let inside : n - from < m - from = omega arith in
    let place : from + (n - from) ≡ n = omega arith in
    let t' : is_blank (get_or text n 0) ≡ true = rw (get_or-take, get_or-drop, place) at t in
    false≢true (sym e ∙ t')

-- blanks go up to a place where no blank stands
pub gap_unique : (text : List ℕ) (from n m : ℕ) → IsGap text from n → IsGap text from m → (n < length text → is_blank (get_or text n 0) ≡ false) → (m < length text → is_blank (get_or text m 0) ≡ false) → n ≡ m
gap_unique text from n m g h a b = elim (cases_order n m) [
  | inl e ↦ e
  | inr (inl k) ↦ absurd (gap_goes_on text from n m g.forward h k (a (omega (arith, h.within))))
  | inr (inr k) ↦ absurd (gap_goes_on text from m n h.forward g k (b (omega (arith, g.within))))
]

-- no token stands at the place, and no blank
pub record Stops (text : List ℕ) (at : ℕ) : Type 0 where
  pub found : at < length text → is_blank (get_or text at 0) ≡ false
  pub none : (token : Token) (lexeme : Lexeme) → token.from ≡ at → IsToken text token lexeme → ⊥

-- From one place there are these tokens, and then blanks up to a place where no token stands.
pub record StandUpTo (text : List ℕ) (from : ℕ) (tokens : List Token) (lexemes : List Lexeme) (at : ℕ) : Type 0 where
  pub upto : ℕ
  pub stand : Stand text from tokens lexemes upto
  pub gap : IsGap text upto at
  pub stops : Stops text at

-- what follows the first token
rest_stands : (text : List ℕ) (from at : ℕ) (t : Token) (l : Lexeme) (ts : List Token) (ls : List Lexeme) → StandUpTo text from (t ∷ ts) (l ∷ ls) at → StandUpTo text t.upto ts ls at
rest_stands text from at t l ts ls h = record { upto = h.upto; stand = h.stand.2; gap = h.gap; stops = h.stops }

-- where no token stands there is none to come
none_to_come : (text : List ℕ) (from at other : ℕ) (t : Token) (l : Lexeme) (ts : List Token) (ls : List Lexeme) → StandUpTo text from [] [] at → StandUpTo text from (t ∷ ts) (l ∷ ls) other → ⊥
none_to_come text from at other t l ts ls g h =
    let gap : IsGap text from at = subst (λ x. IsGap text x at) (sym g.stand) g.gap in
    let blank = token_is_not_blank text t l h.stand.1 in
    let e : at ≡ t.from = gap_unique text from at t.from gap h.stand.0 g.stops.found (λ _. blank.1) in
    g.stops.none t l (sym e) h.stand.1

-- From one place there is one list of tokens, and one place at which it ends.
pub stand_unique : (text : List ℕ) (from at other : ℕ) (ts us : List Token) (ls ms : List Lexeme) → StandUpTo text from ts ls at → StandUpTo text from us ms other → (ts ≡ us) × (ls ≡ ms) × (at ≡ other)
stand_unique text from at other [] [] [] [] g h =
    let gap : IsGap text from at = subst (λ x. IsGap text x at) (sym g.stand) g.gap in
    let gap' : IsGap text from other = subst (λ x. IsGap text x other) (sym h.stand) h.gap in
    (refl, refl, gap_unique text from at other gap gap' g.stops.found h.stops.found)
stand_unique text from at other [] (u ∷ us) [] (m ∷ ms) g h = absurd (none_to_come text from at other u m us ms g h)
stand_unique text from at other (t ∷ ts) [] (l ∷ ls) [] g h = absurd (none_to_come text from other at t l ts ls h g)
stand_unique text from at other (t ∷ ts) (u ∷ us) (l ∷ ls) (m ∷ ms) g h =
    let blank = token_is_not_blank text t l g.stand.1 in
    let blank' = token_is_not_blank text u m h.stand.1 in
    let e : t.from ≡ u.from = gap_unique text from t.from u.from g.stand.0 h.stand.0 (λ _. blank.1) (λ _. blank'.1) in
    let same = token_unique text t u l m e g.stand.1 h.stand.1 in
    let rest : StandUpTo text t.upto us ms other = subst (λ x. StandUpTo text x us ms other) (sym (ap (λ token. token.upto) same.0)) (rest_stands text from other u m us ms h) in
    let r = stand_unique text t.upto at other ts us ls ms (rest_stands text from at t l ts ls g) rest in
    (cc (same.0, r.0), cc (same.1, r.1), r.2)
stand_unique text from at other [] us (l ∷ ls) ms g h = absurd g.stand
stand_unique text from at other (t ∷ ts) us [] ms g h = absurd g.stand
stand_unique text from at other ts [] ls (m ∷ ms) g h = absurd h.stand
stand_unique text from at other ts (u ∷ us) ls [] g h = absurd h.stand

-- at the end of the text no token stands
stops_at_end : (text : List ℕ) → Stops text (length text)
stops_at_end text = record {
  found = λ h. absurd (omega arith);
  none = λ t l e h. let b = token_is_not_blank text t l h in omega (arith, b.0, e);
}

-- Tokens of a whole text end where it ends.
pub stand_from_says : (text : List ℕ) (ts : List Token) (ls : List Lexeme) → Says text ts ls → StandUpTo text 0 ts ls (length text)
stand_from_says text ts ls h = record { upto = h.upto; stand = h.stand; gap = h.rest; stops = stops_at_end text }

-- Where a text is refused, its tokens end.
pub stand_from_none : (text : List ℕ) (at : ℕ) (h : HasNoTokenAt text at) → StandUpTo text 0 h.tokens h.lexemes at
stand_from_none text at h = record {
  upto = h.upto;
  stand = h.stand;
  gap = h.gap;
  stops = record { found = λ _. h.found; none = h.none };
}

-- Tokens with one more behind them.
pub Stand-push : (text : List ℕ) (from upto : ℕ) (ts : List Token) (ls : List Lexeme) (t : Token) (l : Lexeme) → Stand text from ts ls upto → IsGap text upto t.from → IsToken text t l → Stand text from (ts ++ t ∷ []) (ls ++ l ∷ []) t.upto
Stand-push text from upto [] [] t l s g h = (subst (λ x. IsGap text x t.from) (sym s) g, h, refl)
Stand-push text from upto (u ∷ us) (m ∷ ms) t l s g h = (s.0, s.1, Stand-push text u.upto upto us ms t l s.2 g h)
Stand-push text from upto [] (m ∷ ms) t l s g h = absurd s
Stand-push text from upto (u ∷ us) [] t l s g h = absurd s

-- The tokens from the start, and the blanks behind them up to this place.
pub record Reached (text : List ℕ) (tokens : List Token) (at : ℕ) : Type 0 where
  pub lexemes : List Lexeme
  pub upto : ℕ
  pub stand : Stand text 0 tokens lexemes upto
  pub gap : IsGap text upto at

-- no byte is no blank
no_gap : (text : List ℕ) (at : ℕ) → at ≤ length text → IsGap text at at
no_gap text at within = record { forward = omega arith; within = within; blank = grind (arith, common_steps) }

-- one blank more
gap_more : (text : List ℕ) (from at : ℕ) → IsGap text from at → at < length text → is_blank (get_or text at 0) ≡ true → IsGap text from (at + 1)
gap_more text from at gap below blank =
    let place : from + (at - from) ≡ at = omega (arith, gap.forward) in
    let long : at - from + 1 ≡ at + 1 - from = omega (arith, gap.forward) in
    let here : is_blank (get_or (drop from text) (at - from) 0) ≡ true = rw (get_or-drop, place) blank in
    let inside : at - from < length (drop from text) = omega (arith, gap.forward, length-drop from text) in
    record {
      forward = omega (arith, gap.forward);
      within = omega arith;
      blank = subst (λ n. AllPass is_blank (take n (drop from text))) long (All-more (λ b. is_blank b ≡ true) (drop from text) (at - from) 0 inside gap.blank here);
    }

-- at the start there are none
pub Reached-start : (text : List ℕ) → Reached text [] 0
Reached-start text = record { lexemes = []; upto = 0; stand = refl; gap = no_gap text 0 (omega arith) }

-- one more token that stands at the place
pub Reached-push : (text : List ℕ) (ts : List Token) (t : Token) (l : Lexeme) → Reached text ts t.from → IsToken text t l → Reached text (ts ++ t ∷ []) t.upto
Reached-push text ts t l r h = record {
  lexemes = r.lexemes ++ l ∷ [];
  upto = t.upto;
  stand = Stand-push text 0 r.upto ts r.lexemes t l r.stand r.gap h;
  gap = no_gap text t.upto h.within;
}

-- one more blank that stands there
pub Reached-blank : (text : List ℕ) (ts : List Token) (at : ℕ) → Reached text ts at → at < length text → is_blank (get_or text at 0) ≡ true → Reached text ts (at + 1)
Reached-blank text ts at r below blank = record { lexemes = r.lexemes; upto = r.upto; stand = r.stand; gap = gap_more text r.upto at r.gap below blank }

-- at the end of the text they are its tokens
pub says_from_reached : (text : List ℕ) (ts : List Token) (at : ℕ) → Reached text ts at → length text ≤ at → (lexemes : List Lexeme) × Says text ts lexemes
says_from_reached text ts at r h =
    let e : at ≡ length text = omega (arith, r.gap.within) in
    (r.lexemes, record { upto = r.upto; stand = r.stand; rest = subst (IsGap text r.upto) e r.gap })

-- where none stands, and no blank, the text is refused
pub none_from_reached : (text : List ℕ) (ts : List Token) (at : ℕ) → Reached text ts at → at < length text → is_blank (get_or text at 0) ≡ false → ((t : Token) (l : Lexeme) → t.from ≡ at → IsToken text t l → ⊥) → HasNoTokenAt text at
none_from_reached text ts at r h found n = record {
  tokens = ts;
  lexemes = r.lexemes;
  upto = r.upto;
  stand = r.stand;
  gap = r.gap;
  byte = h;
  found = found;
  none = n;
}

-- what is read from a place on fits behind it
pub read_fits : (text : List ℕ) (at n : ℕ) (l : Lexeme) → at ≤ length text → IsFirstToken (drop at text) n l → (0 < n) × (at + n ≤ length text)
read_fits text at n l h r =
    let b = begins_at_read l (drop at text) n r in
    (b.0, omega (arith, length-drop at text, r.within))

-- tokens that stand say as much each
Stand-length : (text : List ℕ) (from upto : ℕ) (ts : List Token) (ls : List Lexeme) → Stand text from ts ls upto → length ls ≡ length ts
Stand-length text from upto [] [] s = refl
Stand-length text from upto (t ∷ ts) (l ∷ ls) s = ap suc (Stand-length text t.upto upto ts ls s.2)
Stand-length text from upto [] (l ∷ ls) s = absurd s
Stand-length text from upto (t ∷ ts) [] s = absurd s

-- each of them stands where it says
Stand-at : (text : List ℕ) (from upto : ℕ) (ts : List Token) (ls : List Lexeme) → Stand text from ts ls upto → (i : ℕ) (t : Token) (l : Lexeme) → i < length ts → IsToken text (get_or ts i t) (get_or ls i l)
Stand-at text from upto [] ls s i t l h = absurd (omega arith)
Stand-at text from upto (u ∷ us) (m ∷ ms) s zero t l h = s.1
Stand-at text from upto (u ∷ us) (m ∷ ms) s (suc i) t l h = Stand-at text u.upto upto us ms s.2 i t l (omega arith)
Stand-at text from upto (u ∷ us) [] s i t l h = absurd s

-- each token of a text stands there and says its lexeme
pub said_at : (text : List ℕ) (ts : List Token) (ls : List Lexeme) → Says text ts ls → (i : ℕ) (t : Token) (l : Lexeme) → i < length ts → IsToken text (get_or ts i t) (get_or ls i l)
said_at text ts ls h i t l k = Stand-at text 0 h.upto ts ls h.stand i t l k

-- a text says as much as it has tokens
pub said_length : (text : List ℕ) (ts : List Token) (ls : List Lexeme) → Says text ts ls → length ls ≡ length ts
said_length text ts ls h = Stand-length text 0 h.upto ts ls h.stand
