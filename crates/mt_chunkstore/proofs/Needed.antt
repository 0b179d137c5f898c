-- A group makes as many pages as its changes need.
use Rattle.std.proofs.Common.{◌≡◌, ℕ, zero, suc, ◌+◌, ◌-◌, ◌*◌, ◌<◌, ◌≤◌, ◌&&◌, nat_eq, min, Bool, true, false, cond, List, [], ◌∷◌, ◌++◌, length, slice_index, refl, sym, ap, ◌∙◌, arith}
use Rattle.std.specs.Prelude.{count_by, sum_by, nat_lt}
use Rattle.std.specs.List.{range_with_len}
use borrow.Author.Tests.{ltb-true, ltb-false}
use Rattle.std.proofs.Math.Nat.{div-mul-le_self, div-zero, le-div_iff_mul-le, min-eq_left, min-eq_right, mul-le-mul_right, suc-mul}
use Rattle.std.proofs.lemmas.Bool.Decides.{nat_tests}
use Rattle.std.proofs.lemmas.List.Sums.{sum_by-cons, sum_by-le-sum_by}
use Rattle.mt_physplan.specs.declared.change.Change.{Change}
use Rattle.mt_physplan.specs.declared.change.Change.TheVariants.{Put, Mark, Remove, PutCat, RemoveCat}
use Rattle.mt_physplan.specs.Applied.{Catalogue, applied, applied_by, catalogue_applied, catalogue_applied_by}
use Rattle.mt_physplan.specs.Content.{Content}
use Rattle.mt_places.specs.Named.{is_of, is_put, table_of}
use Rattle.mt_staging.specs.Group.{is_new, new_keys, pages_of}
use Rattle.mt_chunkstore.specs.Changes.{pages_for}

-- a page more than hold them is too much
holds : (x p c : ℕ) → 1 ≤ c → x ≤ p * c → pages_for x c ≤ p
holds x p c some fits = by (nat_lt p (pages_for x c)) refl
  where
    by : (b : Bool) → nat_lt p (pages_for x c) ≡ b → pages_for x c ≤ p
    by true e =
        let less = ltb-true p (pages_for x c) e in
        let h : suc p * c ≤ pages_for x c * c = mul-le-mul_right {m = suc p} {n = pages_for x c} c (omega arith) in
        let k : pages_for x c * c ≤ x + (c - 1) = div-mul-le_self (x + (c - 1)) c in
        let s : suc p * c ≡ p * c + c = suc-mul p c in
        absurd (omega arith)
    by false e = let h = ltb-false p (pages_for x c) e in omega arith

-- and one less is too few
too_few : (x p c : ℕ) → 1 ≤ c → p * c < x → suc p ≤ pages_for x c
too_few x p c some less =
    let s : suc p * c ≡ p * c + c = suc-mul p c in
    (le-div_iff_mul-le {k = c} {x = suc p} {y = x + (c - 1)} (omega arith)).1 (omega arith)

-- of slots that do not all find free ones, all free ones are taken
all_free : (taken left puts free pages : ℕ) → taken + left ≡ min puts free + pages → taken ≤ puts → left < pages → (min puts free ≡ free) × (free ≤ puts)
all_free taken left puts free pages is few less = by (nat_lt puts free) refl
  where
    by : (b : Bool) → nat_lt puts free ≡ b → (min puts free ≡ free) × (free ≤ puts)
    by true e =
        let h = ltb-true puts free e in
        let m : min puts free ≡ puts = min-eq_left {n = puts} {m = free} (omega arith) in
        absurd (omega arith)
    by false e = let h = ltb-false puts free e in (min-eq_right {n = free} {m = puts} (omega arith), omega arith)

-- the pages that were made are needed: so many new keys are among those of all changes
pub pages_wanted : (all taken left puts free pages per : ℕ) → taken + left ≡ min puts free + pages * per → taken ≤ all → all ≤ puts → (1 ≤ pages → left < per) → pages ≤ pages_for (all - free) per
pages_wanted all taken left puts free zero per is more few need = omega arith
pages_wanted all taken left puts free (suc pages) per is more few need =
    let less = need (omega arith) in
    let s : suc pages * per ≡ pages * per + per = suc-mul pages per in
    let full = all_free taken left puts free (suc pages * per) is (omega arith) (omega arith) in
    let m = full.0 in
    too_few (all - free) pages per (omega arith) (omega arith)

-- and where none of their slots is left, one new key more needs one page more
pub page_wanted : (all taken puts free pages per : ℕ) → 1 ≤ per → taken + 0 ≡ min puts free + pages * per → taken + 1 ≤ all → all ≤ puts → suc pages ≤ pages_for (all - free) per
page_wanted all taken puts free pages per some is more few = by (nat_lt puts free) refl
  where
    by : (b : Bool) → nat_lt puts free ≡ b → suc pages ≤ pages_for (all - free) per
    by true e =
        let h = ltb-true puts free e in
        let m : min puts free ≡ puts = min-eq_left {n = puts} {m = free} (omega arith) in
        absurd (omega arith)
    by false e =
        let h = ltb-false puts free e in
        let m : min puts free ≡ free = min-eq_right {n = free} {m = puts} (omega arith) in
        too_few (all - free) pages per some (omega arith)

-- no page was made that is not needed, and none is missing
pub pages_exact : (taken left puts free pages per : ℕ) → taken + left ≡ min puts free + pages * per → taken ≤ puts → (1 ≤ pages → left < per) → pages ≡ pages_for (taken - free) per
pages_exact taken left puts free pages zero is few need =
    let none : pages ≡ 0 = (by (nat_lt 0 pages) refl) in
    none ∙ sym (div-zero (taken - free + (0 - 1)))
  where
    by : (b : Bool) → nat_lt 0 pages ≡ b → pages ≡ 0
    by true e = let h = ltb-true 0 pages e in let l = need (omega arith) in absurd (omega arith)
    by false e = let h = ltb-false 0 pages e in omega arith
pages_exact taken left puts free pages (suc per) is few need =
    let low = pages_wanted taken taken left puts free pages (suc per) is (omega arith) few need in
    let m : min puts free ≤ free = min-upto in
    let high = holds (taken - free) pages (suc per) (omega arith) (omega arith) in
    omega arith
  where
    min-upto : min puts free ≤ free
    min-upto = omega arith

-- 1 where a test is met
abbrev one_if : Bool → ℕ
one_if b = cond b 1 0

sum_by-plus : (f g : ℕ → ℕ) (xs : List ℕ) → sum_by (λ x. f x + g x) xs ≡ sum_by f xs + sum_by g xs
sum_by-plus f g [] = omega arith
sum_by-plus f g (x ∷ xs) =
    let a = sum_by-cons (λ x. f x + g x) x xs in
    let b = sum_by-cons f x xs in
    let c = sum_by-cons g x xs in
    let h = sum_by-plus f g xs in
    omega (arith, a, b, c, h)

-- a number stands once among those of a run, or not at all
none_before : (a first n : ℕ) → a < first → sum_by (λ t. one_if (nat_eq a t)) (range_with_len first n) ≡ 0
none_before a first zero before = refl
none_before a first (suc n) before =
    let s = sum_by-cons (λ t. one_if (nat_eq a t)) first (range_with_len (first + 1) n) in
    let h = none_before a (first + 1) n (omega arith) in
    let other : nat_eq a first ≡ false = grind (arith, nat_tests, before) in
    let e : one_if (nat_eq a first) ≡ 0 = ap one_if other in
    omega (arith, s, h, e)

one_within : (a first n : ℕ) → first ≤ a → a < first + n → sum_by (λ t. one_if (nat_eq a t)) (range_with_len first n) ≡ 1
one_within a first zero from upto = absurd (omega arith)
one_within a first (suc n) from upto = by (λ low high. one_within a (first + 1) n low high) (nat_eq a first) refl
  where
    by : (first + 1 ≤ a → a < first + 1 + n → sum_by (λ t. one_if (nat_eq a t)) (range_with_len (first + 1) n) ≡ 1) → (b : Bool) → nat_eq a first ≡ b → sum_by (λ t. one_if (nat_eq a t)) (range_with_len first (suc n)) ≡ 1
    by later true e =
        let s = sum_by-cons (λ t. one_if (nat_eq a t)) first (range_with_len (first + 1) n) in
        let same : a ≡ first = grind (arith, nat_tests, e) in
        let h = none_before a (first + 1) n (omega arith) in
        let o : one_if (nat_eq a first) ≡ 1 = ap one_if e in
        omega (arith, s, h, o)
    by later false e =
        let s = sum_by-cons (λ t. one_if (nat_eq a t)) first (range_with_len (first + 1) n) in
        let other : first < a = grind (arith, nat_tests, e, from) in
        let h = later (omega arith) (omega arith) in
        let o : one_if (nat_eq a first) ≡ 0 = ap one_if e in
        omega (arith, s, h, o)

-- the pages of all tables are the pages
pub pages_together : (added : List ℕ) → ((i : ℕ) → i < length added → slice_index added i < 32) → sum_by (λ t. pages_of t added) (range_with_len 0 32) ≡ length added
pages_together [] few = refl
pages_together (table ∷ added) few =
    let one = one_within table 0 32 (omega arith) (few 0 (omega arith)) in
    let rest = pages_together added (λ i within. few (suc i) (omega arith)) in
    let both = sum_by-plus (λ t. one_if (nat_eq table t)) (λ t. pages_of t added) (range_with_len 0 32) in
    let split : sum_by (λ t. pages_of t (table ∷ added)) (range_with_len 0 32) ≡ sum_by (λ t. one_if (nat_eq table t) + pages_of t added) (range_with_len 0 32) = alike (range_with_len 0 32) in
    omega (arith, one, rest, both, split)
  where
    alike : (tables : List ℕ) → sum_by (λ t. pages_of t (table ∷ added)) tables ≡ sum_by (λ t. one_if (nat_eq table t) + pages_of t added) tables
    alike tables = ap (λ (f : ℕ → ℕ). sum_by f tables) (λ i t. sum_by-cons (λ a. cond (nat_eq a t) 1 0) table added i)

-- a sum of larger terms, of which one is larger by one
pub one_larger : (f g : ℕ → ℕ) (table : ℕ) → table < 32 → ((t : ℕ) → f t + one_if (nat_eq table t) ≤ g t) → sum_by f (range_with_len 0 32) + 1 ≤ sum_by g (range_with_len 0 32)
one_larger f g table few larger =
    let one = one_within table 0 32 (omega arith) few in
    let both = sum_by-plus f (λ t. one_if (nat_eq table t)) (range_with_len 0 32) in
    let all = sum_by-le-sum_by (λ t. f t + one_if (nat_eq table t)) g (range_with_len 0 32) larger in
    omega (arith, one, both, all)

-- changes put as many slots at most as they have puts, more with more of them
pub new_keys_upto : (t : ℕ) (changes : List Change) (rows : Content) (catalogue : Catalogue) → new_keys t changes rows catalogue ≤ count_by (λ change. is_put change && is_of t change) changes
new_keys_upto t [] rows catalogue = omega arith
new_keys_upto t (change ∷ changes) rows catalogue =
    let s = sum_by-cons (λ change. cond (is_put change && is_of t change) 1 0) change changes in
    let h = new_keys_upto t changes (applied_by change rows) (catalogue_applied_by change catalogue) in
    let o = first change in
    omega (arith, s, h, o)
  where
    both : (a b : Bool) → one_if (a && b) ≤ one_if a
    both true true = omega arith
    both true false = omega arith
    both false b = omega arith

    none : (a b : Bool) → one_if (a && false) ≤ one_if b
    none true b = omega arith
    none false b = omega arith

    first : (change : Change) → one_if (nat_eq (table_of change) t && is_new change rows catalogue) ≤ one_if (is_put change && is_of t change)
    first (Put table slot) = both (nat_eq table t) _
    first (Mark table tenant row mark) = none (nat_eq table t) false
    first (Remove table tenant base chunk row) = none (nat_eq table t) false
    first (PutCat table body) = both (nat_eq table t) _
    first (RemoveCat table body) = none (nat_eq table t) false

pub new_keys-append : (t : ℕ) (changes more : List Change) (rows : Content) (catalogue : Catalogue)
    → new_keys t (changes ++ more) rows catalogue ≡ new_keys t changes rows catalogue + new_keys t more (applied changes rows) (catalogue_applied changes catalogue)
new_keys-append t [] more rows catalogue = omega arith
new_keys-append t (change ∷ changes) more rows catalogue = let h = new_keys-append t changes more (applied_by change rows) (catalogue_applied_by change catalogue) in omega (arith, h)
