-- Lists in which a member is added or changed, and lists of numbers and of what is made of them.
use Rattle.std.proofs.Common.{◌≡◌, ◌≢◌, inl, inr, ⊎_elim, ℕ, zero, suc, ◌+◌, ◌<◌, ◌≤◌, Bool, true, false, List, [], ◌∷◌, ◌++◌, length, map, Some, refl, sym, ap, ◌∙◌, arith, eqb-true, eq-eqb}
use Rattle.std.specs.Prelude.{nat_eq, slice_get, slice_set}
use Rattle.std.specs.List.{AllByRecursion as Each, IsDistinct, list_any, range_with_len}
use Rattle.std.proofs.lemmas.Bool.{or_cases, or_left, or_right, true≢false}
use Rattle.std.proofs.lemmas.Map.Keys.{IsDistinct-head, IsDistinct-tail}
use Rattle.mt_fold.proofs.Lists.{Among, Each-weaker, InOrder-map}
use Rattle.mt_fold.proofs.Members.{in_second}
use Rattle.mt_schema.proofs.Turning.{AreOnce}

-- where a member is added, it stands behind the others, which stay
pub pushed_elsewhere : {A : Type 0} (xs : List A) (x : A) (n : ℕ) → n ≢ length xs → slice_get (xs ++ x ∷ []) n ≡ slice_get xs n
pushed_elsewhere [] x zero apart = absurd (apart refl)
pushed_elsewhere [] x (suc n) apart = refl
pushed_elsewhere (y ∷ ys) x zero apart = refl
pushed_elsewhere (y ∷ ys) x (suc n) apart = pushed_elsewhere ys x n (λ e. apart (ap suc e))

pub pushed_there : {A : Type 0} (xs : List A) (x : A) → slice_get (xs ++ x ∷ []) (length xs) ≡ Some x
pushed_there xs x = in_second xs (x ∷ []) (length xs) 0 x (omega arith) refl

-- where others are added, those in front stay
pub joined_front : {A : Type 0} (xs ys : List A) (n : ℕ) → n < length xs → slice_get (xs ++ ys) n ≡ slice_get xs n
joined_front [] ys n within = absurd (omega (arith, within))
joined_front (x ∷ xs) ys zero within = refl
joined_front (x ∷ xs) ys (suc n) within = joined_front xs ys n (omega (arith, within))

-- where a member is changed, it stands in its place, and the others stay
pub changed_elsewhere : {A : Type 0} (xs : List A) (at : ℕ) (x : A) (n : ℕ) → n ≢ at → slice_get (slice_set xs at x) n ≡ slice_get xs n
changed_elsewhere [] at x n apart = refl
changed_elsewhere (y ∷ ys) zero x zero apart = absurd (apart refl)
changed_elsewhere (y ∷ ys) zero x (suc n) apart = refl
changed_elsewhere (y ∷ ys) (suc at) x zero apart = refl
changed_elsewhere (y ∷ ys) (suc at) x (suc n) apart = changed_elsewhere ys at x n (λ e. apart (ap suc e))

pub changed_there : {A : Type 0} (xs : List A) (at : ℕ) (x y : A) → slice_get xs at ≡ Some y → slice_get (slice_set xs at x) at ≡ Some x
changed_there [] at x y is = absurd (cc)
changed_there (z ∷ zs) zero x y is = refl
changed_there (z ∷ zs) (suc at) x y is = changed_there zs at x y is

-- what holds of all that are among some holds of each
pub each_among : {A : Type 0} (P : A → Type 0) (xs : List A) → ((x : A) → Among x xs → P x) → Each P xs
each_among P [] all = tt
each_among P (x ∷ xs) all = (all x (inl refl), each_among P xs (λ y among. all y (inr among)))

-- numbers in a row
pub range_among : (from count n : ℕ) → from ≤ n → n < from + count → Among n (range_with_len from count)
range_among from zero n low high = absurd (omega (arith, low, high))
range_among from (suc count) n low high = by (nat_eq n from) refl (range_among (from + 1) count n)
  where
    by : (b : Bool) → nat_eq n from ≡ b → (from + 1 ≤ n → n < (from + 1) + count → Among n (range_with_len (from + 1) count)) → Among n (range_with_len from (suc count))
    by true same rest = inl (eqb-true n from same)
    by false apart rest =
        let no : n ≢ from = λ same. true≢false (sym (eq-eqb n from same) ∙ apart) in
        inr (rest (omega (arith, low, no)) (omega (arith, high)))

pub among_range : (from count n : ℕ) → Among n (range_with_len from count) → (from ≤ n) × (n < from + count)
among_range from zero n among = absurd among
among_range from (suc count) n (inl same) = (omega (arith, same), omega (arith, same))
among_range from (suc count) n (inr among) = let rest = among_range (from + 1) count n among in let low = rest.0 in let high = rest.1 in (omega (arith, low), omega (arith, high))

pub range_once : (from count : ℕ) → AreOnce (range_with_len from count)
range_once from zero = tt
range_once from (suc count) =
    (each_among (λ n. from ≢ n) (range_with_len (from + 1) count) (λ n among same. let low = (among_range (from + 1) count n among).0 in omega (arith, low, same)), range_once (from + 1) count)

-- numbers that a test tells apart
pub among_any : (n : ℕ) (xs : List ℕ) → list_any (nat_eq n) xs ≡ true → Among n xs
among_any n [] e = absurd (true≢false (sym e))
among_any n (x ∷ xs) e = ⊎_elim (λ same. inl (eqb-true n x same)) (λ rest. inr (among_any n xs rest)) (or_cases (nat_eq n x) (list_any (nat_eq n) xs) e)

pub any_among : (n : ℕ) (xs : List ℕ) → Among n xs → list_any (nat_eq n) xs ≡ true
any_among n [] among = absurd among
any_among n (x ∷ xs) (inl same) = or_left (nat_eq n x) (list_any (nat_eq n) xs) (eq-eqb n x same)
any_among n (x ∷ xs) (inr among) = or_right (nat_eq n x) (list_any (nat_eq n) xs) (any_among n xs among)

pub distinct_once : (xs : List ℕ) → IsDistinct nat_eq xs → AreOnce xs
distinct_once [] distinct = tt
distinct_once (x ∷ xs) distinct = (
  Each-weaker (λ y. nat_eq x y ≡ false) (λ y. x ≢ y) (λ y apart same. true≢false (sym (eq-eqb x y same) ∙ apart)) xs (IsDistinct-head nat_eq x xs distinct),
  distinct_once xs (IsDistinct-tail nat_eq x xs distinct),
)

-- what is made of different members differs
pub mapped_once : {A B : Type 0} (f : A → B) → ((a b : A) → f a ≡ f b → a ≡ b) → (xs : List A) → AreOnce xs → AreOnce (map f xs)
mapped_once f apart xs once = InOrder-map (λ a b. a ≢ b) (λ a b. a ≢ b) f (λ a b no same. no (apart a b same)) xs once
