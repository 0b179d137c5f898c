-- Symbols by their first byte and the one behind it.
use Rattle.std.proofs.Common.{◌≡◌, ℕ, suc, ◌<◌, ◌≤◌, false, ◌||◌, List, [], ◌∷◌, length, take, get_or, refl, ap, ◌==◌, ◌⊎◌, inl, inr, ◌≢◌, arith, Some, None, IfSome, IfNone, Option}
use Rattle.std.proofs.lemmas.List.{length-take-le, get_or-take}
use Rattle.std.proofs.lemmas.Bool.{eqb-true, cond_both, or_parts, or_from}
use Rattle.mt_lexer.specs.declared.token.Symbol.{Symbol}
use Rattle.mt_lexer.specs.declared.token.Symbol.TheVariants as symbol
use Rattle.mt_lexer.specs.Tokens.{Sign, symbol_bytes}
use Rattle.mt_lexer.proofs.Runs.{BeginsNoWith_at, BeginsNoWith_from}
use Rattle.mt_lexer.specs.FirstToken.{IsFirstToken, symbol_of}

-- these two bytes begin with the symbol, and with no longer one
abbrev pub StandsAt : Symbol → ℕ → ℕ → Type 0
StandsAt symbol.Open first next = first ≡ 40
StandsAt symbol.Close first next = first ≡ 41
StandsAt symbol.Comma first next = first ≡ 44
StandsAt symbol.Dot first next = first ≡ 46
StandsAt symbol.Star first next = first ≡ 42
StandsAt symbol.Plus first next = first ≡ 43
StandsAt symbol.Minus first next = first ≡ 45
StandsAt symbol.Equal first next = first ≡ 61
StandsAt symbol.NotEqual first next = (first ≡ 60) × (next ≡ 62)
StandsAt symbol.Less first next = (first ≡ 60) × (((next == 61) || (next == 62)) ≡ false)
StandsAt symbol.LessEqual first next = (first ≡ 60) × (next ≡ 61)
StandsAt symbol.Greater first next = (first ≡ 62) × ((next == 61) ≡ false)
StandsAt symbol.GreaterEqual first next = (first ≡ 62) × (next ≡ 61)
StandsAt symbol.Semicolon first next = first ≡ 59

-- two bytes begin with one symbol
pub symbol_of_stands : (s : Symbol) (first next : ℕ) → StandsAt s first next → symbol_of first next ≡ Some s
symbol_of_stands symbol.Open first next h = rw h refl
symbol_of_stands symbol.Close first next h = rw h refl
symbol_of_stands symbol.Comma first next h = rw h refl
symbol_of_stands symbol.Dot first next h = rw h refl
symbol_of_stands symbol.Star first next h = rw h refl
symbol_of_stands symbol.Plus first next h = rw h refl
symbol_of_stands symbol.Minus first next h = rw h refl
symbol_of_stands symbol.Equal first next h = rw h refl
symbol_of_stands symbol.NotEqual first next h = rw (h.0, h.1) refl
symbol_of_stands symbol.Less first next h = let p = or_parts (next == 61) (next == 62) h.1 in rw (h.0, p.1, p.0) refl
symbol_of_stands symbol.LessEqual first next h = rw (h.0, h.1) refl
symbol_of_stands symbol.Greater first next h = rw (h.0, h.1) refl
symbol_of_stands symbol.GreaterEqual first next h = rw (h.0, h.1) refl
symbol_of_stands symbol.Semicolon first next h = rw h refl

-- the symbol that two bytes begin with stands there
pub symbol_of_is : (first next : ℕ) → IfSome (symbol_of first next) (λ s. StandsAt s first next)
symbol_of_is first next =
    let P : Option Symbol → Type 0 = λ o. IfSome o (λ s. StandsAt s first next) in
    cond_both (first == 40) _ _ P (eqb-true first 40) (λ _.
    cond_both (first == 41) _ _ P (eqb-true first 41) (λ _.
    cond_both (first == 44) _ _ P (eqb-true first 44) (λ _.
    cond_both (first == 46) _ _ P (eqb-true first 46) (λ _.
    cond_both (first == 42) _ _ P (eqb-true first 42) (λ _.
    cond_both (first == 43) _ _ P (eqb-true first 43) (λ _.
    cond_both (first == 45) _ _ P (eqb-true first 45) (λ _.
    cond_both (first == 61) _ _ P (eqb-true first 61) (λ _.
    cond_both (first == 59) _ _ P (eqb-true first 59) (λ _.
    cond_both (first == 60) _ _ P
    (λ e. cond_both (next == 62) _ _ P (λ f. (eqb-true first 60 e, eqb-true next 62 f)) (λ f.
    cond_both (next == 61) _ _ P (λ g. (eqb-true first 60 e, eqb-true next 61 g)) (λ g. (eqb-true first 60 e, or_from (next == 61) (next == 62) g f))))
    (λ _. cond_both (first == 62) _ _ P
    (λ e. cond_both (next == 61) _ _ P (λ g. (eqb-true first 62 e, eqb-true next 61 g)) (λ g. (eqb-true first 62 e, g)))
    (λ _. tt)))))))))))

-- a list that begins with one byte
one_taken : (rest : List ℕ) (n b : ℕ) → take n rest ≡ b ∷ [] → n ≤ length rest → (n ≡ 1) × (get_or rest 0 0 ≡ b)
one_taken rest n b e h =
    let l : n ≡ 1 = omega (arith, ap length e, length-take-le n rest h) in
    let g : get_or (take n rest) 0 0 ≡ b = ap (λ xs. get_or xs 0 0) e in
    let pos : 0 < n = omega arith in
    (l, rw get_or-take at g)

-- a list that begins with two bytes
two_taken : (rest : List ℕ) (n b c : ℕ) → take n rest ≡ b ∷ c ∷ [] → n ≤ length rest → (n ≡ 2) × (get_or rest 0 0 ≡ b) × (get_or rest 1 0 ≡ c)
two_taken rest n b c e h =
    let l : n ≡ 2 = omega (arith, ap length e, length-take-le n rest h) in
    let g : get_or (take n rest) 0 0 ≡ b = ap (λ xs. get_or xs 0 0) e in
    let k : get_or (take n rest) 1 0 ≡ c = ap (λ xs. get_or xs 1 0) e in
    let pos : 0 < n = omega arith in
    let more : 1 < n = omega arith in
    (l, rw get_or-take at g, rw get_or-take at k)

-- a first byte that is not 0 is there
take_one : (rest : List ℕ) (b : ℕ) → get_or rest 0 0 ≡ suc b → (take 1 rest ≡ suc b ∷ []) × (1 ≤ length rest)
take_one [] b e = cc
take_one (x ∷ xs) b e = (cc, omega arith)

-- and so are two
take_two : (rest : List ℕ) (b c : ℕ) → get_or rest 0 0 ≡ suc b → get_or rest 1 0 ≡ suc c → (take 2 rest ≡ suc b ∷ suc c ∷ []) × (2 ≤ length rest)
take_two [] b c e f = cc
take_two (x ∷ []) b c e f = cc
take_two (x ∷ y ∷ xs) b c e f = (cc, omega arith)

-- a symbol that is read stands at the first two bytes, and takes as many as it has
pub stands_where_read : (s : Symbol) (rest : List ℕ) (n : ℕ) → IsFirstToken rest n (Sign s) → StandsAt s (get_or rest 0 0) (get_or rest 1 0) × (n ≡ length (symbol_bytes s))
unfolding symbol_bytes
stands_where_read symbol.Open rest n r = let w = one_taken rest n 40 r.spelling r.within in (w.1, w.0)
stands_where_read symbol.Close rest n r = let w = one_taken rest n 41 r.spelling r.within in (w.1, w.0)
stands_where_read symbol.Comma rest n r = let w = one_taken rest n 44 r.spelling r.within in (w.1, w.0)
stands_where_read symbol.Dot rest n r = let w = one_taken rest n 46 r.spelling r.within in (w.1, w.0)
stands_where_read symbol.Star rest n r = let w = one_taken rest n 42 r.spelling r.within in (w.1, w.0)
stands_where_read symbol.Plus rest n r = let w = one_taken rest n 43 r.spelling r.within in (w.1, w.0)
stands_where_read symbol.Minus rest n r = let w = one_taken rest n 45 r.spelling r.within in (w.1, w.0)
stands_where_read symbol.Equal rest n r = let w = one_taken rest n 61 r.spelling r.within in (w.1, w.0)
stands_where_read symbol.NotEqual rest n r = let w = two_taken rest n 60 62 r.spelling r.within in ((w.1, w.2), w.0)
stands_where_read symbol.Less rest n r = let w = one_taken rest n 60 r.spelling r.within in let ends = BeginsNoWith_at (λ b. (b == 61) || (b == 62)) refl rest n r.ends in ((w.1, rw w.0 at ends), w.0)
stands_where_read symbol.LessEqual rest n r = let w = two_taken rest n 60 61 r.spelling r.within in ((w.1, w.2), w.0)
stands_where_read symbol.Greater rest n r = let w = one_taken rest n 62 r.spelling r.within in let ends = BeginsNoWith_at (λ b. b == 61) refl rest n r.ends in ((w.1, rw w.0 at ends), w.0)
stands_where_read symbol.GreaterEqual rest n r = let w = two_taken rest n 62 61 r.spelling r.within in ((w.1, w.2), w.0)
stands_where_read symbol.Semicolon rest n r = let w = one_taken rest n 59 r.spelling r.within in (w.1, w.0)

-- a symbol that stands at the first two bytes is read
pub read_where_stands : (s : Symbol) (rest : List ℕ) → StandsAt s (get_or rest 0 0) (get_or rest 1 0) → IsFirstToken rest (length (symbol_bytes s)) (Sign s)
unfolding symbol_bytes
read_where_stands symbol.Open rest h = let w = take_one rest 39 h in record { within = w.1; spelling = w.0; ends = tt }
read_where_stands symbol.Close rest h = let w = take_one rest 40 h in record { within = w.1; spelling = w.0; ends = tt }
read_where_stands symbol.Comma rest h = let w = take_one rest 43 h in record { within = w.1; spelling = w.0; ends = tt }
read_where_stands symbol.Dot rest h = let w = take_one rest 45 h in record { within = w.1; spelling = w.0; ends = tt }
read_where_stands symbol.Star rest h = let w = take_one rest 41 h in record { within = w.1; spelling = w.0; ends = tt }
read_where_stands symbol.Plus rest h = let w = take_one rest 42 h in record { within = w.1; spelling = w.0; ends = tt }
read_where_stands symbol.Minus rest h = let w = take_one rest 44 h in record { within = w.1; spelling = w.0; ends = tt }
read_where_stands symbol.Equal rest h = let w = take_one rest 60 h in record { within = w.1; spelling = w.0; ends = tt }
read_where_stands symbol.NotEqual rest h = let w = take_two rest 59 61 h.0 h.1 in record { within = w.1; spelling = w.0; ends = tt }
read_where_stands symbol.Less rest h = let w = take_one rest 59 h.0 in record { within = w.1; spelling = w.0; ends = BeginsNoWith_from (λ b. (b == 61) || (b == 62)) rest 1 h.1 }
read_where_stands symbol.LessEqual rest h = let w = take_two rest 59 60 h.0 h.1 in record { within = w.1; spelling = w.0; ends = tt }
read_where_stands symbol.Greater rest h = let w = take_one rest 61 h.0 in record { within = w.1; spelling = w.0; ends = BeginsNoWith_from (λ b. b == 61) rest 1 h.1 }
read_where_stands symbol.GreaterEqual rest h = let w = take_two rest 61 60 h.0 h.1 in record { within = w.1; spelling = w.0; ends = tt }
read_where_stands symbol.Semicolon rest h = let w = take_one rest 58 h in record { within = w.1; spelling = w.0; ends = tt }

-- at one place one symbol is read
pub symbol_read : (s : Symbol) (rest : List ℕ) (n : ℕ) → IsFirstToken rest n (Sign s) → (symbol_of (get_or rest 0 0) (get_or rest 1 0) ≡ Some s) × (n ≡ length (symbol_bytes s))
symbol_read s rest n r =
    let w = stands_where_read s rest n r in
    (symbol_of_stands s (get_or rest 0 0) (get_or rest 1 0) w.0, w.1)

-- how many bytes a symbol has
pub two_bytes : (s : Symbol) → (s ≡ symbol.NotEqual) ⊎ ((s ≡ symbol.LessEqual) ⊎ (s ≡ symbol.GreaterEqual)) → 2 ≡ length (symbol_bytes s)
unfolding symbol_bytes
two_bytes s h = elim h [ inl e ↦ rw e refl | inr w ↦ elim w [ inl e ↦ rw e refl | inr e ↦ rw e refl ] ]

-- any other symbol has one
pub one_byte : (s : Symbol) → s ≢ symbol.NotEqual → s ≢ symbol.LessEqual → s ≢ symbol.GreaterEqual → 1 ≡ length (symbol_bytes s)
unfolding symbol_bytes
one_byte symbol.Open a b c = refl
one_byte symbol.Close a b c = refl
one_byte symbol.Comma a b c = refl
one_byte symbol.Dot a b c = refl
one_byte symbol.Star a b c = refl
one_byte symbol.Plus a b c = refl
one_byte symbol.Minus a b c = refl
one_byte symbol.Equal a b c = refl
one_byte symbol.NotEqual a b c = absurd (a refl)
one_byte symbol.Less a b c = refl
one_byte symbol.LessEqual a b c = absurd (b refl)
one_byte symbol.Greater a b c = refl
one_byte symbol.GreaterEqual a b c = absurd (c refl)
one_byte symbol.Semicolon a b c = refl

-- what the first two bytes tell
pub symbol_found : (rest : List ℕ) → IfSome (symbol_of (get_or rest 0 0) (get_or rest 1 0)) (λ s. IsFirstToken rest (length (symbol_bytes s)) (Sign s))
symbol_found rest = found (symbol_of (get_or rest 0 0) (get_or rest 1 0)) (symbol_of_is (get_or rest 0 0) (get_or rest 1 0)) where
  found : (o : Option Symbol) → IfSome o (λ s. StandsAt s (get_or rest 0 0) (get_or rest 1 0)) → IfSome o (λ s. IsFirstToken rest (length (symbol_bytes s)) (Sign s))
  found None h = tt
  found (Some s) h = read_where_stands s rest h

-- where they tell no symbol none stands
pub symbol_not_found : (rest : List ℕ) → IfNone (symbol_of (get_or rest 0 0) (get_or rest 1 0)) ((n : ℕ) (s : Symbol) → IsFirstToken rest n (Sign s) → ⊥)
symbol_not_found rest = none (symbol_of (get_or rest 0 0) (get_or rest 1 0)) (λ s n r. (symbol_read s rest n r).0) where
  none : (o : Option Symbol) → ((s : Symbol) (n : ℕ) → IsFirstToken rest n (Sign s) → o ≡ Some s) → IfNone o ((n : ℕ) (s : Symbol) → IsFirstToken rest n (Sign s) → ⊥)
  none None h = λ n s r. let e : None ≡ Some s = h s n r in cc
  none (Some s) h = tt
