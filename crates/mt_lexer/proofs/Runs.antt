-- Runs of bytes that pass a test.
use Rattle.std.proofs.Common.{◌≡◌, ℕ, zero, suc, ◌+◌, ◌<◌, ◌≤◌, Bool, true, false, List, [], ◌∷◌, length, take, drop, get_or, sym, ap, ◌∙◌, subst, arith, inl, inr}
use Rattle.std.proofs.lemmas.List.{get_or-take, length-take-le, get_or_past}
use Rattle.std.proofs.lemmas.Bool.{cases_order, false≢true}
use Rattle.std.proofs.lemmas.List.Elements.{All-more}
use Rattle.std.specs.List.{AllPass}
use Rattle.mt_lexer.specs.Tokens.{BeginsNoWith, is_in_word}
use Rattle.mt_lexer.specs.FirstToken.{IsWordRun}

-- what a list begins with stands at a place of the longer one, and past its end stands 0
pub BeginsNoWith_at : (p : ℕ → Bool) → p 0 ≡ false → (s : List ℕ) (n : ℕ) → BeginsNoWith p (drop n s) → p (get_or s n 0) ≡ false
BeginsNoWith_at p z [] zero b = z
BeginsNoWith_at p z [] (suc n) b = z
BeginsNoWith_at p z (x ∷ xs) zero b = b
BeginsNoWith_at p z (x ∷ xs) (suc n) b = BeginsNoWith_at p z xs n b

-- the other way round
pub BeginsNoWith_from : (p : ℕ → Bool) (s : List ℕ) (n : ℕ) → p (get_or s n 0) ≡ false → BeginsNoWith p (drop n s)
BeginsNoWith_from p [] zero e = tt
BeginsNoWith_from p [] (suc n) e = tt
BeginsNoWith_from p (x ∷ xs) zero e = e
BeginsNoWith_from p (x ∷ xs) (suc n) e = BeginsNoWith_from p xs n e

-- a run goes on where the next byte passes
run_not_shorter : (p : ℕ → Bool) → p 0 ≡ false → (s : List ℕ) (n m : ℕ) → m ≤ length s → n < m → BeginsNoWith p (drop n s) → AllPass p (take m s) → ⊥
run_not_shorter p z s n m w h b a =
    let t : p (get_or (take m s) n 0) ≡ true = a n 0 (omega (arith, length-take-le m s w)) in
    let t' : p (get_or s n 0) ≡ true = rw get_or-take at t in
    let f : p (get_or s n 0) ≡ false = BeginsNoWith_at p z s n b in
    false≢true (sym f ∙ t')

-- a list begins with one run
pub run_length_unique : (p : ℕ → Bool) → p 0 ≡ false → (s : List ℕ) (n m : ℕ) → n ≤ length s → m ≤ length s → AllPass p (take n s) → AllPass p (take m s) → BeginsNoWith p (drop n s) → BeginsNoWith p (drop m s) → n ≡ m
run_length_unique p z s n m w v a b x y = elim (cases_order n m) [
  | inl e ↦ e
  | inr (inl h) ↦ absurd (run_not_shorter p z s n m v h x b)
  | inr (inr h) ↦ absurd (run_not_shorter p z s m n w h y a)
]

-- a run up to the end
pub run_of_all : (rest : List ℕ) (n : ℕ) → n ≤ length rest → length rest ≤ n → AllPass is_in_word (take n rest) → IsWordRun rest (length rest)
run_of_all rest n h k a =
    let e : n ≡ length rest = omega arith in
    record {
      within = omega arith;
      run = subst (λ m. AllPass is_in_word (take m rest)) e a;
      ends = BeginsNoWith_from is_in_word rest (length rest) (ap is_in_word (get_or_past rest (length rest) 0 (omega arith)));
    }

-- a run up to a byte that may not stand in a word
pub run_up_to : (rest : List ℕ) (n : ℕ) → n ≤ length rest → AllPass is_in_word (take n rest) → is_in_word (get_or rest n 0) ≡ false → IsWordRun rest n
run_up_to rest n h a e = record { within = h; run = a; ends = BeginsNoWith_from is_in_word rest n e }

-- a run with one more byte
pub run_more : (rest : List ℕ) (n : ℕ) → n < length rest → AllPass is_in_word (take n rest) → is_in_word (get_or rest n 0) ≡ true → AllPass is_in_word (take (n + 1) rest)
run_more rest n h a e = All-more (λ b. is_in_word b ≡ true) rest n 0 h a e
