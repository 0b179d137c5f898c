-- Sums over the numbers from one on.
use Rattle.std.proofs.Common.{◌≡◌, ◌≢◌, ⊎_elim, ℕ, zero, suc, ◌+◌, ◌<◌, ◌≤◌, ◌-◌, sum_by, refl, sym, ap, ◌∙◌, arith}
use Rattle.std.specs.List.{range_with_len}
use Rattle.std.proofs.lemmas.Bool.{cases_eq}
use Rattle.std.proofs.lemmas.List.Sums.{sum_by-cons}

-- the first so many, and then the others
pub sum_split : (f : ℕ → ℕ) (from count more : ℕ) → sum_by f (range_with_len from (count + more)) ≡ sum_by f (range_with_len from count) + sum_by f (range_with_len (from + count) more)
sum_split f from zero more =
    let none : 0 + more ≡ more = omega arith in
    let same : from ≡ from + 0 = omega arith in
    let whole = ap (λ n. sum_by f (range_with_len from n)) none in
    let others = ap (λ n. sum_by f (range_with_len n more)) same in
    omega (arith, whole, others)
sum_split f from (suc count) more =
    let shifted : suc count + more ≡ suc (count + more) = omega arith in
    let whole : sum_by f (range_with_len from (suc count + more)) ≡ f from + sum_by f (range_with_len (from + 1) (count + more)) =
    ap (λ n. sum_by f (range_with_len from n)) shifted ∙ sum_by-cons f from (range_with_len (from + 1) (count + more)) in
    let split = sum_split f (from + 1) count more in
    let front : sum_by f (range_with_len from (suc count)) ≡ f from + sum_by f (range_with_len (from + 1) count) = sum_by-cons f from (range_with_len (from + 1) count) in
    let same : (from + 1) + count ≡ from + suc count = omega arith in
    let others = ap (λ n. sum_by f (range_with_len n more)) same in
    omega (arith, whole, split, front, others)

-- one more
pub sum_more : (f : ℕ → ℕ) (count : ℕ) → sum_by f (range_with_len 0 (count + 1)) ≡ sum_by f (range_with_len 0 count) + f count
sum_more f count =
    let split = sum_split f 0 count 1 in
    let one = sum_by-cons f (0 + count) (range_with_len (0 + count + 1) 0) in
    let same : 0 + count ≡ count = omega arith in
    let last = ap f same in
    omega (arith, split, one, last)

-- one of them, and those before it
pub sum_within : (f : ℕ → ℕ) (at count : ℕ) → at < count → sum_by f (range_with_len 0 at) + f at ≤ sum_by f (range_with_len 0 count)
sum_within f at count below =
    let same : (at + 1) + (count - (at + 1)) ≡ count = omega (arith, below) in
    let whole = ap (λ n. sum_by f (range_with_len 0 n)) same in
    let split = sum_split f 0 (at + 1) (count - (at + 1)) in
    let more = sum_more f at in
    omega (arith, whole, split, more)

-- two sums that agree from there on
pub sum_same : (f g : ℕ → ℕ) (from count : ℕ) → ((n : ℕ) → from ≤ n → f n ≡ g n) → sum_by f (range_with_len from count) ≡ sum_by g (range_with_len from count)
sum_same f g from zero same = refl
sum_same f g from (suc count) same =
    let own : f from ≡ g from = same from (omega arith) in
    let others = sum_same f g (from + 1) count (λ n above. same n (omega (arith, above))) in
    sum_by-cons f from (range_with_len (from + 1) count) ∙ ap (λ n. n + sum_by f (range_with_len (from + 1) count)) own ∙ ap (λ n. g from + n) others
    ∙ sym (sum_by-cons g from (range_with_len (from + 1) count))

-- at most one more, where at most one number has one more
pub sum_one_more : (f g : ℕ → ℕ) (at from count : ℕ) → g at ≤ f at + 1 → ((n : ℕ) → n ≢ at → g n ≡ f n) → sum_by g (range_with_len from count) ≤ sum_by f (range_with_len from count) + 1
sum_one_more f g at from zero more same = omega arith
sum_one_more f g at from (suc count) more same = ⊎_elim here (λ differs. elsewhere differs (sum_one_more f g at (from + 1) count more same)) (cases_eq from at)
  where
    whole_f : sum_by f (range_with_len from (suc count)) ≡ f from + sum_by f (range_with_len (from + 1) count)
    whole_f = sum_by-cons f from (range_with_len (from + 1) count)

    whole_g : sum_by g (range_with_len from (suc count)) ≡ g from + sum_by g (range_with_len (from + 1) count)
    whole_g = sum_by-cons g from (range_with_len (from + 1) count)

    here : from ≡ at → sum_by g (range_with_len from (suc count)) ≤ sum_by f (range_with_len from (suc count)) + 1
    here is =
        let others = sum_same g f (from + 1) count (λ n above. same n (λ e. absurd (omega (arith, above, e, is)))) in
        let of_f = ap f is in
        let of_g = ap g is in
        omega (arith, whole_f, whole_g, others, of_f, of_g, more)

    elsewhere : from ≢ at → sum_by g (range_with_len (from + 1) count) ≤ sum_by f (range_with_len (from + 1) count) + 1 → sum_by g (range_with_len from (suc count)) ≤ sum_by f (range_with_len from (suc count)) + 1
    elsewhere differs rest =
        let own = same from differs in
        omega (arith, whole_f, whole_g, own, rest)
