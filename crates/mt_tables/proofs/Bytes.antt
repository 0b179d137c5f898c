-- The bytes of the pages after a range was written.
use Rattle.std.proofs.Common.{◌≡◌, ◌⊎◌, ℕ, zero, suc, ◌+◌, ◌-◌, ◌<◌, ◌≤◌, List, [], ◌∷◌, ◌++◌, length, drop, slice_index, replicate, refl, sym, ap, subst, ◌∙◌, inl, inr, arith}
use Rattle.std.proofs.lemmas.Bool.Decides.{nat_tests}
use Rattle.std.proofs.lemmas.List.{append-nil, drop_all}
use Rattle.mt_journal.specs.Layout.{Area, number_at}
use Rattle.mt_journal.specs.Replay.{with_range}
use Rattle.mt_tables.specs.Pages.{bytes_at}
use Rattle.mt_tables.specs.Tables.{overwritten}

-- the pages with these bytes from a position on
abbrev pub put_at : ℕ → List ℕ → Area → Area
put_at at bytes area = with_range (record { position = at; bytes = bytes }) area

pub before_range : (at : ℕ) (bytes : List ℕ) (area : Area) (k : ℕ) → k < at → put_at at bytes area k ≡ area k
before_range at bytes area k below = grind (arith, nat_tests)

pub behind_range : (at : ℕ) (bytes : List ℕ) (area : Area) (k : ℕ) → at + length bytes ≤ k → put_at at bytes area k ≡ area k
behind_range at bytes area k past = grind (arith, nat_tests)

pub in_range : (at : ℕ) (bytes : List ℕ) (area : Area) (k : ℕ) → k < length bytes → put_at at bytes area (at + k) ≡ slice_index bytes k
in_range at bytes area k within = let e : at + k - at ≡ k = omega arith in grind (arith, nat_tests)

-- n bytes from a lie beside m bytes from b
abbrev pub Beside : ℕ → ℕ → ℕ → ℕ → Type 0
Beside a n b m = (a + n ≤ b) ⊎ (b + m ≤ a)

-- what lies beside a range is as before
pub beside_range : (at : ℕ) (bytes : List ℕ) (area : Area) (a n : ℕ) → Beside a n at (length bytes) → (k : ℕ) → a ≤ k → k < a + n → put_at at bytes area k ≡ area k
beside_range at bytes area a n (inl before) k low high = before_range at bytes area k (omega arith)
beside_range at bytes area a n (inr behind) k low high = behind_range at bytes area k (omega arith)

-- pages that agree at some positions have the same bytes and numbers there
pub same_bytes : (old new : Area) (a n : ℕ) → ((k : ℕ) → a ≤ k → k < a + n → new k ≡ old k) → bytes_at new a n ≡ bytes_at old a n
same_bytes old new a zero same = refl
same_bytes old new a (suc n) same = rw (same a (omega arith) (omega arith), same_bytes old new (a + 1) n (λ k low high. same k (omega arith) (omega arith))) refl

pub same_number : (old new : Area) (a n : ℕ) → ((k : ℕ) → a ≤ k → k < a + n → new k ≡ old k) → number_at n new a ≡ number_at n old a
same_number old new a zero same = refl
same_number old new a (suc n) same = rw (same a (omega arith) (omega arith), same_number old new (a + 1) n (λ k low high. same k (omega arith) (omega arith))) refl

pub length-bytes_at : (area : Area) (at n : ℕ) → length (bytes_at area at n) ≡ n
length-bytes_at area at zero = refl
length-bytes_at area at (suc n) = ap suc (length-bytes_at area (at + 1) n)

-- zeros are a run of them
pub zero_bytes : (area : Area) (at n : ℕ) → ((k : ℕ) → at ≤ k → k < at + n → area k ≡ 0) → bytes_at area at n ≡ replicate n 0
zero_bytes area at zero free = refl
zero_bytes area at (suc n) free = rw (free at (omega arith) (omega arith), zero_bytes area (at + 1) n (λ k low high. free k (omega arith) (omega arith))) refl

-- the bytes that were written stand
pub standing : (area : Area) (bytes : List ℕ) (at : ℕ) → ((k : ℕ) → k < length bytes → area (at + k) ≡ slice_index bytes k) → bytes_at area at (length bytes) ≡ bytes
standing area [] at stand = refl
standing area (b ∷ bytes) at stand =
    let head : area at ≡ b = ap area (omega arith) ∙ stand 0 (omega arith) in
    let rest : bytes_at area (at + 1) (length bytes) ≡ bytes = standing area bytes (at + 1) (λ k within. ap area (omega arith) ∙ stand (suc k) (omega arith)) in
    rw (head, rest) refl

put_bytes : (area : Area) (bytes : List ℕ) (at : ℕ) → bytes_at (put_at at bytes area) at (length bytes) ≡ bytes
put_bytes area bytes at = standing _ bytes at (in_range at bytes area)

plus_zero : (n : ℕ) → n + 0 ≡ n
plus_zero n = omega arith

zero_plus : (n : ℕ) → 0 + n ≡ n
zero_plus n = omega arith

pub bytes_at-append : (area : Area) (at n m : ℕ) → bytes_at area at (n + m) ≡ bytes_at area at n ++ bytes_at area (at + n) m
bytes_at-append area at zero m = rw (plus_zero at, zero_plus m) refl
bytes_at-append area at (suc n) m =
    let e : suc n + m ≡ suc (n + m) = omega arith in
    let f : at + suc n ≡ at + 1 + n = omega arith in
    rw (e, f, bytes_at-append area (at + 1) n m) refl

pub drop-bytes_at : (area : Area) (at n m : ℕ) → drop n (bytes_at area at (n + m)) ≡ bytes_at area (at + n) m
drop-bytes_at area at zero m = rw (plus_zero at, zero_plus m) refl
drop-bytes_at area at (suc n) m =
    let e : suc n + m ≡ suc (n + m) = omega arith in
    let f : at + suc n ≡ at + 1 + n = omega arith in
    rw (e, f) (drop-bytes_at area (at + 1) n m)

front_put : (area : Area) (bytes : List ℕ) (at m : ℕ) → bytes_at (put_at at bytes area) at (length bytes + m) ≡ overwritten bytes (bytes_at area at (length bytes + m))
front_put area bytes at m =
    let new = put_at at bytes area in
    bytes_at-append new at (length bytes) m
    ∙ ap (λ front. front ++ bytes_at new (at + length bytes) m) (put_bytes area bytes at)
    ∙ ap (λ back. bytes ++ back) (same_bytes area new (at + length bytes) m (λ k low high. behind_range at bytes area k low) ∙ sym (drop-bytes_at area at (length bytes) m))

-- the first bytes of a slot are overwritten
pub overwrites : (area : Area) (bytes : List ℕ) (at width : ℕ) → length bytes ≤ width → bytes_at (put_at at bytes area) at width ≡ overwritten bytes (bytes_at area at width)
overwrites area bytes at width short = subst (λ n. bytes_at (put_at at bytes area) at n ≡ overwritten bytes (bytes_at area at n)) (omega arith) (front_put area bytes at (width - length bytes))

-- or all of them
pub overwrites_all : (area : Area) (at width : ℕ) (bytes : List ℕ) → length bytes ≡ width → overwritten bytes (bytes_at area at width) ≡ bytes
overwrites_all area at width bytes size = let long = length-bytes_at area at width in rw (drop_all (length bytes) (bytes_at area at width) (omega arith)) (append-nil bytes)
