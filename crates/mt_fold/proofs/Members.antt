-- The members of lists that are joined or made, and their ranks among those that pass a test.
use Rattle.std.proofs.Common.{◌≡◌, ℕ, zero, suc, ◌+◌, ◌<◌, Bool, true, false, if◌then◌else◌, List, [], ◌∷◌, ◌++◌, length, map, take, count_by, Some, slice_get, refl, sym, ap, subst, ◌∙◌, arith}
use Rattle.std.proofs.lemmas.List.{take-take}
use Rattle.std.proofs.lemmas.List.FromFn.{get_or-map-range_with_len, length-map-range_with_len}
use Rattle.std.proofs.lemmas.List.Sums.{count_by_more_yes, sum_by-cons, sum_by-take-le}
use Rattle.std.proofs.lemmas.Option.{get_or_from_slice_get, slice_get-get_or, slice_get_within}
use Rattle.std.specs.List.{range_with_len}

-- the i-th member of two lists in a row stands in the first or in the second
pub data Side {X : Type 0} (front back : List X) (i : ℕ) (x : X) : Type 0 where
  stands_in_first : i < length front → slice_get front i ≡ Some x → Side front back i x
  stands_in_second : (j : ℕ) → i ≡ length front + j → slice_get back j ≡ Some x → Side front back i x

one_more : {X : Type 0} (y : X) (front back : List X) (i : ℕ) (x : X) → Side front back i x → Side (y ∷ front) back (suc i) x
one_more y front back i x (stands_in_first low is) = stands_in_first (omega arith) is
one_more y front back i x (stands_in_second j behind is) = stands_in_second j (omega arith) is

pub side : {X : Type 0} (front back : List X) (i : ℕ) (x : X) → slice_get (front ++ back) i ≡ Some x → Side front back i x
side [] back i x is = stands_in_second i (omega arith) is
side (y ∷ front) back zero x is = stands_in_first (omega arith) is
side (y ∷ front) back (suc i) x is = one_more y front back i x (side front back i x is)

pub in_first : {X : Type 0} (front back : List X) (i : ℕ) (x : X) → slice_get front i ≡ Some x → slice_get (front ++ back) i ≡ Some x
in_first [] back i x is = cc
in_first (y ∷ front) back zero x is = is
in_first (y ∷ front) back (suc i) x is = in_first front back i x is

pub in_second : {X : Type 0} (front back : List X) (i j : ℕ) (x : X) → i ≡ length front + j → slice_get back j ≡ Some x → slice_get (front ++ back) i ≡ Some x
in_second [] back i j x behind is = let same : j ≡ i = omega arith in subst (λ k. slice_get back k ≡ Some x) same is
in_second (y ∷ front) back zero j x behind is = absurd (omega arith)
in_second (y ∷ front) back (suc i) j x behind is = in_second front back i j x (omega arith) is

-- a member of a list that is made from the positions
pub made : {X : Type 0} (f : ℕ → X) (n i : ℕ) → i < n → slice_get (map f (range_with_len 0 n)) i ≡ Some (f i)
made f n i low =
    let size = length-map-range_with_len f 0 n in
    slice_get-get_or (map f (range_with_len 0 n)) i (f i) (omega (arith, size)) ∙ ap Some (get_or-map-range_with_len f 0 n i i (f i) low (omega arith))

pub made_from : {X : Type 0} (f : ℕ → X) (n i : ℕ) (x : X) → slice_get (map f (range_with_len 0 n)) i ≡ Some x → (i < n) × (f i ≡ x)
made_from f n i x is =
    let size = length-map-range_with_len f 0 n in
    let within = slice_get_within (map f (range_with_len 0 n)) i x is in
    let low : i < n = omega (arith, size, within) in
    (low, sym (get_or-map-range_with_len f 0 n i i x low (omega arith)) ∙ get_or_from_slice_get (map f (range_with_len 0 n)) i x x is)

-- of two members that pass a test the later one has more that pass before it
pub rank_less : {X : Type 0} (p : X → Bool) (xs : List X) (a b : ℕ) (x : X) → a < b → slice_get xs a ≡ Some x → p x ≡ true → count_by p (take a xs) < count_by p (take b xs)
rank_less p xs a b x less is passes =
    let more = count_by_more_yes p xs a x (slice_get_within xs a x is) (ap p (get_or_from_slice_get xs a x x is) ∙ passes) in
    let front = ap (count_by p) (take-take (a + 1) b xs (omega arith)) in
    let fewer = sum_by-take-le (λ k. if p k then 1 else 0) (take b xs) (a + 1) in
    omega (arith, more, front, fewer)

-- a member that passes and has so many that pass before it
pub record Ranked {X : Type 0} (p : X → Bool) (xs : List X) (end rank : ℕ) : Type 0 where
  pub at : ℕ
  pub member : X
  pub before : at < end
  pub is : slice_get xs at ≡ Some member
  pub passes : p member ≡ true
  pub rank_is : count_by p (take at xs) ≡ rank

behind : {X : Type 0} (p : X → Bool) (x : X) (xs : List X) (end rank inner more : ℕ) → rank ≡ more + inner → (if p x then 1 else 0) ≡ more → Ranked p xs end inner → Ranked p (x ∷ xs) (suc end) rank
behind p x xs end rank inner more sum counts it = record {
  at = suc it.at;
  member = it.member;
  before = let low = it.before in omega arith;
  is = it.is;
  passes = it.passes;
  rank_is = let same = it.rank_is in let cons = sum_by-cons (λ k. if p k then 1 else 0) x (take it.at xs) in omega (arith, same, cons, counts);
}

ranked_by : {X : Type 0} (p : X → Bool) (x : X) (xs : List X) (end rank : ℕ) → ((inner : ℕ) → inner < count_by p (take end xs) → Ranked p xs end inner) → rank < count_by p (x ∷ take end xs) → (b : Bool) → p x ≡ b
    → Ranked p (x ∷ xs) (suc end) rank
ranked_by p x xs end zero inner low true passes = record { at = 0; member = x; before = omega arith; is = refl; passes = passes; rank_is = refl }
ranked_by p x xs end (suc rank) inner low true passes =
    let one : ℕ = if p x then 1 else 0 in
    let counts : one ≡ 1 = ap (λ b. if b then 1 else 0) passes in
    let cons = sum_by-cons (λ k. if p k then 1 else 0) x (take end xs) in
    behind p x xs end (suc rank) rank 1 (omega arith) counts (inner rank (omega (arith, low, cons, counts)))
ranked_by p x xs end rank inner low false fails =
    let none : ℕ = if p x then 1 else 0 in
    let counts : none ≡ 0 = ap (λ b. if b then 1 else 0) fails in
    let cons = sum_by-cons (λ k. if p k then 1 else 0) x (take end xs) in
    behind p x xs end rank rank 0 (omega arith) counts (inner rank (omega (arith, low, cons, counts)))

pub ranked : {X : Type 0} (p : X → Bool) (xs : List X) (end rank : ℕ) → rank < count_by p (take end xs) → Ranked p xs end rank
ranked p xs zero rank low = absurd (omega arith)
ranked p [] (suc end) rank low = absurd (omega arith)
ranked p (x ∷ xs) (suc end) rank low = ranked_by p x xs end rank (ranked p xs end) low (p x) refl

-- each position below the length has a member
pub member_at : {X : Type 0} (xs : List X) (i : ℕ) → i < length xs → (x : X) × (slice_get xs i ≡ Some x)
member_at [] i low = absurd (omega arith)
member_at (y ∷ xs) zero low = (y, refl)
member_at (y ∷ xs) (suc i) low = member_at xs i (omega arith)
