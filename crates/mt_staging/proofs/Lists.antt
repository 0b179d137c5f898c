-- Counts over lists of which one member changes.
use Rattle.std.proofs.Common.{◌≡◌, ℕ, ◌+◌, ◌*◌, ◌<◌, Bool, true, false, cond, nat_eq, List, [], ◌∷◌, ◌++◌, length, drop, get_or, set, slice_index, replicate, count_by, refl, sym, ap, subst, ◌∙◌, arith, length-append}
use Rattle.std.specs.Prelude.{nat_lt}
use borrow.Author.Tests.{ltb-true, ltb-false}
use Rattle.std.proofs.lemmas.Bool.Decides.{nat_tests}
use Rattle.std.proofs.lemmas.List.{get_or_append_left, get_or-append-add}
use Rattle.std.proofs.lemmas.List.Sums.{sum_by-append, sum_by-set}
use Rattle.std.proofs.lemmas.List.Folds.{sum_by-replicate}
use Rattle.mt_tables.specs.Plan.{without_first}

-- 1 where a test is met
abbrev pub once : Bool → ℕ
once b = cond b 1 0

-- one member is replaced
pub count_by-set : {X : Type 0} (p : X → Bool) (xs : List X) (i : ℕ) (y d : X) → i < length xs → count_by p (set xs i y) + once (p (get_or xs i d)) ≡ count_by p xs + once (p y)
count_by-set p xs i y d within = sum_by-set (λ x. cond (p x) 1 0) xs i y d within

pub count_by-append : {X : Type 0} (p : X → Bool) (xs ys : List X) → count_by p (xs ++ ys) ≡ count_by p xs + count_by p ys
count_by-append p xs ys = sum_by-append (λ x. cond (p x) 1 0) xs ys

-- a member that does not pass, however often it stands there
pub count_by-none : {X : Type 0} (p : X → Bool) (n : ℕ) (x : X) → p x ≡ false → count_by p (replicate n x) ≡ 0
count_by-none p n x fails = sum_by-replicate (λ y. cond (p y) 1 0) n x ∙ ap (λ b. n * once b) fails ∙ times_zero n
  where
    times_zero : (m : ℕ) → m * 0 ≡ 0
    times_zero m = omega arith

pub same_number : (a b : ℕ) → nat_eq a b ≡ nat_eq b a
same_number a b = grind (arith, nat_tests)

-- what holds at each place of a list, and at the one behind it, holds at each with one member more
pub each_with_last : (P : ℕ → Type 0) (xs : List ℕ) (x : ℕ) → ((i : ℕ) → i < length xs → P i) → P (length xs) → (i : ℕ) → i < length (xs ++ x ∷ []) → P i
each_with_last P xs x before last i within = by (nat_lt i (length xs)) refl
  where
    by : (b : Bool) → nat_lt i (length xs) ≡ b → P i
    by true e = before i (ltb-true i (length xs) e)
    by false e = let high = ltb-false i (length xs) e in let long = length-append xs (x ∷ []) in subst P (omega (arith, high, within, long)) last

pub last_member : (xs : List ℕ) (x : ℕ) → slice_index (xs ++ x ∷ []) (length xs) ≡ x
last_member xs x = ap (slice_index (xs ++ x ∷ [])) (omega arith) ∙ get_or-append-add xs (x ∷ []) 0 0

-- and what holds of each member, and of the one more
pub members_with_last : (P : ℕ → Type 0) (xs : List ℕ) (x : ℕ) → ((i : ℕ) → i < length xs → P (slice_index xs i)) → P x → (i : ℕ) → i < length (xs ++ x ∷ []) → P (slice_index (xs ++ x ∷ []) i)
members_with_last P xs x before last =
    each_with_last (λ i. P (slice_index (xs ++ x ∷ []) i)) xs x (λ i low. subst P (sym (get_or_append_left xs (x ∷ []) 0 i low)) (before i low)) (subst P (sym (last_member xs x)) last)

-- the first of a table's positions is gone, and no other's
pub shorter : (table t p : ℕ) (rest : List ℕ) (free : ℕ → List ℕ) → free table ≡ p ∷ rest → length (without_first table free t) + once (nat_eq table t) ≡ length (free t)
shorter table t p rest free first = by (nat_eq t table) refl
  where
    by : (b : Bool) → nat_eq t table ≡ b → length (cond b (drop 1 (free t)) (free t)) + once (nat_eq table t) ≡ length (free t)
    by true e =
        let same : t ≡ table = grind (arith, nat_tests, e) in
        let list : free t ≡ p ∷ rest = ap free same ∙ first in
        let one : nat_eq table t ≡ true = same_number table t ∙ e in
        rw (list, one) (omega arith)
    by false e = let none : nat_eq table t ≡ false = same_number table t ∙ e in rw none (omega arith)

-- where a table has none there is none to be gone
pub none_gone : (table : ℕ) (free : ℕ → List ℕ) → free table ≡ [] → without_first table free ≡ free
none_gone table free none = λ i t. at t i
  where
    by : (t : ℕ) (b : Bool) → nat_eq t table ≡ b → cond b (drop 1 (free t)) (free t) ≡ free t
    by t true e = let same : t ≡ table = grind (arith, nat_tests, e) in let list : free t ≡ [] = ap free same ∙ none in rw list refl
    by t false e = refl

    at : (t : ℕ) → without_first table free t ≡ free t
    at t = by t (nat_eq t table) refl
