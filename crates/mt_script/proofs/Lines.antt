-- Laws of the lines of an input.
use Rattle.std.proofs.Common.{◌≡◌, ℕ, zero, suc, ◌<◌, ◌≤◌, true, false, ◌==◌, if◌then◌else◌, ◌||◌, List, [], ◌∷◌, ◌++◌, length, take, drop, map, get_or, refl, sym, ◌∙◌, ap, arith, nat_eq, append_assoc, length-append, ⊎_elim}
use Rattle.std.proofs.lemmas.List.{append-nil, take-append-drop}
use Rattle.std.proofs.lemmas.Bool.{or_parts, or_from, or_right, cases_Bool, lt-ltb, le-ltb, eqb-true, false_from_ne_true}
use Rattle.std.proofs.lemmas.List.Folds.{list_any-append}
use Rattle.mt_script.specs.Lines.{TooLong, Text, put_in_front, cut, without_return, line_of, every_line, has_line_feed, ended_part}

-- a line without line feed, a line feed and a rest
pub cut-feed : (x rest : List ℕ) → has_line_feed x ≡ false → cut (x ++ 10 ∷ rest) ≡ x ∷ cut rest
cut-feed [] rest none = refl
cut-feed (b ∷ x) rest none =
    let parts = or_parts (nat_eq b 10) (has_line_feed x) none in
    rw (parts.0, cut-feed x rest parts.1)

-- bytes without line feed are one line
pub cut-none : (b : ℕ) (x : List ℕ) → has_line_feed (b ∷ x) ≡ false → cut (b ∷ x) ≡ (b ∷ x) ∷ []
cut-none b [] none = rw (or_parts (nat_eq b 10) false none).0
cut-none b (c ∷ x) none =
    let parts = or_parts (nat_eq b 10) (has_line_feed (c ∷ x)) none in
    rw (parts.0) (ap (put_in_front b) (cut-none c x parts.1))

-- the first line of bytes with a line feed
pub every_line-feed : (x rest : List ℕ) → has_line_feed x ≡ false → every_line (x ++ 10 ∷ rest) ≡ line_of x ∷ every_line rest
every_line-feed x rest none = ap (map line_of) (cut-feed x rest none)

-- bytes without line feed give one line
pub every_line-none : (x : List ℕ) → has_line_feed x ≡ false → 0 < length x → every_line x ≡ line_of x ∷ []
every_line-none [] none some = absurd (omega arith)
every_line-none (b ∷ x) none some = ap (map line_of) (cut-none b x none)

-- a byte in front of lines leaves a line
put_in_front_some : (b : ℕ) (lines : List (List ℕ)) → map line_of (put_in_front b lines) ≡ [] → ⊥
put_in_front_some b [] e = cc
put_in_front_some b (line ∷ lines) e = cc

-- a byte gives a line
every_line_some : (b : ℕ) (x : List ℕ) → every_line (b ∷ x) ≡ [] → ⊥
every_line_some b x e =
    elim (nat_eq b 10) as (λ v. map line_of (if v then [] ∷ cut x else put_in_front b (cut x)) ≡ [] → ⊥) [
      | true ↦ λ no. cc
      | false ↦ put_in_front_some b (cut x)
    ] e

-- only no bytes give no line
pub nil_from_every_line : (x : List ℕ) → every_line x ≡ [] → x ≡ []
nil_from_every_line [] e = refl
nil_from_every_line (b ∷ x) e = absurd (every_line_some b x e)

-- a line feed behind is a line feed of the whole
pub has_line_feed-append : (x y : List ℕ) → has_line_feed (x ++ y) ≡ (has_line_feed x || has_line_feed y)
has_line_feed-append x y = list_any-append (λ b. nat_eq b 10) x y

-- a part has no line feed where the whole has none
pub has_line_feed-take : (n : ℕ) (x : List ℕ) → has_line_feed x ≡ false → has_line_feed (take n x) ≡ false
has_line_feed-take n x none =
    let whole : has_line_feed (take n x ++ drop n x) ≡ false = rw take-append-drop none in
    (or_parts (has_line_feed (take n x)) (has_line_feed (drop n x)) (sym (has_line_feed-append (take n x) (drop n x)) ∙ whole)).0

-- where a line feed is behind, all the bytes before it belong to ended lines
pub ended_part-append : (x rest : List ℕ) → has_line_feed rest ≡ true → ended_part (x ++ rest) ≡ x ++ ended_part rest
ended_part-append [] rest some = refl
ended_part-append (b ∷ x) rest some =
    let here : has_line_feed (b ∷ (x ++ rest)) ≡ true =
    or_right (nat_eq b 10) (has_line_feed (x ++ rest)) (has_line_feed-append x rest ∙ or_right (has_line_feed x) (has_line_feed rest) some) in
    rw here (ap (λ bs. b ∷ bs) (ended_part-append x rest some))

-- without line feed no line has ended
pub ended_part-none : (x : List ℕ) → has_line_feed x ≡ false → ended_part x ≡ []
ended_part-none [] none = refl
ended_part-none (b ∷ x) none = rw none

-- the ended lines of bytes with a line feed
pub every_ended-feed : (x rest : List ℕ) → has_line_feed x ≡ false → every_line (ended_part (x ++ 10 ∷ rest)) ≡ line_of x ∷ every_line (ended_part rest)
every_ended-feed x rest none = ap every_line (ended_part-append x (10 ∷ rest) refl) ∙ every_line-feed x (ended_part rest) none

-- more bytes than a line may have
pub line_of-long : (x : List ℕ) → 65536 < length x → line_of x ≡ TooLong
line_of-long x long = rw (lt-ltb 65536 (length x) long)

-- no more bytes than a line may have
pub line_of-short : (x : List ℕ) → length x ≤ 65536 → line_of x ≡ Text (without_return x)
line_of-short x short = rw (le-ltb 65536 (length x) short)

-- the bytes behind the first line feed
abbrev pub behind : List ℕ → List ℕ
behind [] = []
behind (b ∷ bs) = if b == 10 then bs else behind bs

-- bytes that are a line too long already make the line too long, whatever follows
pub every_line-long : (x rest : List ℕ) → has_line_feed x ≡ false → 65536 < length x → every_line (x ++ rest) ≡ TooLong ∷ every_line (behind rest)
every_line-long x [] none long =
    rw append-nil (every_line-none x none (omega arith) ∙ ap (λ line. line ∷ []) (line_of-long x long))
every_line-long x (b ∷ rest) none long =
    ⊎_elim
    (λ yes.
    let at : b ≡ 10 = eqb-true b 10 yes in
    rw at (every_line-feed x rest none ∙ ap (λ line. line ∷ every_line rest) (line_of-long x long)))
    (λ no.
    let more : has_line_feed (x ++ b ∷ []) ≡ false = has_line_feed-append x (b ∷ []) ∙ or_from (has_line_feed x) (nat_eq b 10 || false) none (or_from (nat_eq b 10) false no refl) in
    let longer : 65536 < length (x ++ b ∷ []) = rw length-append (omega arith) in
    rw no (ap every_line (sym (append_assoc x (b ∷ []) rest)) ∙ every_line-long (x ++ b ∷ []) rest more longer))
    (cases_Bool (nat_eq b 10))

-- of two lines that are too long already each stands for the other
pub every_line_same : (x y rest : List ℕ) → has_line_feed x ≡ false → has_line_feed y ≡ false → 65536 < length x → 65536 < length y → every_line (x ++ rest) ≡ every_line (y ++ rest)
every_line_same x y rest none_x none_y long_x long_y = every_line-long x rest none_x long_x ∙ sym (every_line-long y rest none_y long_y)

-- the same of the lines that have ended
pub every_ended_same : (x y rest : List ℕ) → has_line_feed x ≡ false → has_line_feed y ≡ false → 65536 < length x → 65536 < length y → every_line (ended_part (x ++ rest)) ≡ every_line (ended_part (y ++ rest))
every_ended_same x y rest none_x none_y long_x long_y =
    ⊎_elim
    (λ some. rw (ended_part-append x rest some, ended_part-append y rest some) (every_line_same x y (ended_part rest) none_x none_y long_x long_y))
    (λ none.
    let no_x : has_line_feed (x ++ rest) ≡ false = has_line_feed-append x rest ∙ or_from (has_line_feed x) (has_line_feed rest) none_x none in
    let no_y : has_line_feed (y ++ rest) ≡ false = has_line_feed-append y rest ∙ or_from (has_line_feed y) (has_line_feed rest) none_y none in
    ap every_line (ended_part-none (x ++ rest) no_x ∙ sym (ended_part-none (y ++ rest) no_y)))
    (cases_Bool (has_line_feed rest))

-- a carriage return more or less
pub length-without_return : (x : List ℕ) → length (without_return x) ≤ length x
length-without_return [] = omega arith
length-without_return (b ∷ []) = elim (nat_eq b 13) as (λ v. length (if v then [] else b ∷ []) ≤ 1) [ true ↦ omega arith | false ↦ omega arith ]
length-without_return (b ∷ c ∷ x) = omega (arith, length-without_return (c ∷ x))

-- a line keeps out line feeds without its carriage return too
pub has_line_feed-without_return : (x : List ℕ) → has_line_feed x ≡ false → has_line_feed (without_return x) ≡ false
has_line_feed-without_return [] none = refl
has_line_feed-without_return (b ∷ []) none = elim (nat_eq b 13) as (λ v. has_line_feed (if v then [] else b ∷ []) ≡ false) [ true ↦ refl | false ↦ none ]
has_line_feed-without_return (b ∷ c ∷ x) none =
    let parts = or_parts (nat_eq b 10) (has_line_feed (c ∷ x)) none in
    or_from (nat_eq b 10) (has_line_feed (without_return (c ∷ x))) parts.0 (has_line_feed-without_return (c ∷ x) parts.1)

-- a carriage return at the end is left out
pub without_return-return : (x : List ℕ) (n : ℕ) → length x ≡ suc n → get_or x n 0 ≡ 13 → without_return x ≡ take n x
without_return-return [] n size last = absurd (omega arith)
without_return-return (b ∷ []) zero size last = rw last
without_return-return (b ∷ []) (suc n) size last = absurd (omega arith)
without_return-return (b ∷ c ∷ x) zero size last = absurd (omega arith)
without_return-return (b ∷ c ∷ x) (suc n) size last = ap (λ bs. b ∷ bs) (without_return-return (c ∷ x) n (omega arith) last)

-- another byte at the end is kept
pub without_return-other : (x : List ℕ) (n : ℕ) → length x ≡ suc n → nat_eq (get_or x n 0) 13 ≡ false → without_return x ≡ x
without_return-other [] n size last = refl
without_return-other (b ∷ []) zero size last = rw last
without_return-other (b ∷ []) (suc n) size last = absurd (omega arith)
without_return-other (b ∷ c ∷ x) zero size last = absurd (omega arith)
without_return-other (b ∷ c ∷ x) (suc n) size last = ap (λ bs. b ∷ bs) (without_return-other (c ∷ x) n (omega arith) last)

-- no line feed at any of the first places
pub has_line_feed_nowhere : (x : List ℕ) (n : ℕ) → ((k : ℕ) → k < n → nat_eq (get_or x k 0) 10 ≡ true → ⊥) → has_line_feed (take n x) ≡ false
has_line_feed_nowhere x zero none = refl
has_line_feed_nowhere [] (suc n) none = refl
has_line_feed_nowhere (b ∷ x) (suc n) none =
    or_from (nat_eq b 10) (has_line_feed (take n x)) (false_from_ne_true (nat_eq b 10) (none 0 (omega arith)))
    (has_line_feed_nowhere x n (λ k below. none (suc k) (omega arith)))
