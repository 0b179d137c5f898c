-- Tables by their numbers, and their free positions.
use Rattle.std.proofs.Common.{◌≡◌, ◌≢◌, ℕ, zero, suc, ◌<◌, ◌≤◌, Bool, true, false, cond, nat_eq, List, [], ◌∷◌, ◌++◌, map, take, length, get_or, slice_get, Some, None, refl, sym, ap, ◌∙◌, arith}
use Rattle.std.proofs.Math.ListN.{set}
use Rattle.std.proofs.lemmas.List.{get_or-set_same, get_or-set_other}
use Rattle.std.proofs.lemmas.Bool.{eqb-true, eq-eqb}
use Rattle.mt_places.specs.Held.{TableState, offered, table_in, trimmed, unnamed, with_table}

-- one table is changed
pub table_set : (ts : List TableState) (i : ℕ) (state : TableState) (change : TableState → TableState) → i < length ts → state ≡ change (table_in ts i)
    → (t : ℕ) → table_in (set ts i state) t ≡ with_table i change (table_in ts) t
table_set ts i state change within is t =
    elim (nat_eq t i) as (λ b. nat_eq t i ≡ b → table_in (set ts i state) t ≡ cond b (change (table_in ts t)) (table_in ts t)) [
      | true ↦ λ e.
          let same : t ≡ i = eqb-true t i e in
          ap (λ k. table_in (set ts i state) k) same ∙ get_or-set_same ts i state unnamed within ∙ is ∙ ap (λ k. change (table_in ts k)) (sym same)
      | false ↦ λ e.
          let apart : t ≢ i = λ same. differ (eq-eqb t i same) e in
          get_or-set_other ts i t state unnamed apart
    ] refl
  where
    differ : {b : Bool} → b ≡ true → b ≡ false → ⊥
    differ p q = let no : true ≡ false = sym p ∙ q in cc

-- each table is trimmed
pub table_trimmed : (ts : List TableState) (t : ℕ) → table_in (map trimmed ts) t ≡ trimmed (table_in ts t)
table_trimmed [] t = refl
table_trimmed (x ∷ ts) zero = refl
table_trimmed (x ∷ ts) (suc t) = table_trimmed ts t

-- one more table that is not named
pub table_pushed : (ts : List TableState) (t : ℕ) → table_in (ts ++ unnamed ∷ []) t ≡ table_in ts t
table_pushed [] zero = refl
table_pushed [] (suc t) = refl
table_pushed (x ∷ ts) zero = refl
table_pushed (x ∷ ts) (suc t) = table_pushed ts t

-- what is not there is not named
pub table_outside : (ts : List TableState) (t : ℕ) → length ts ≤ t → table_in ts t ≡ unnamed
table_outside [] t h = refl
table_outside (x ∷ ts) zero h = absurd (omega arith)
table_outside (x ∷ ts) (suc t) h = table_outside ts t (omega arith)

-- no more are taken than so many, whenever that is seen to
pub take-first : (w : ℕ) (front back : List ℕ) → take w (take w front ++ back) ≡ take w (front ++ back)
take-first zero front back = refl
take-first (suc w) [] back = refl
take-first (suc w) (x ∷ front) back = ap (λ xs. x ∷ xs) (take-first w front back)

pub length-take_first : (w : ℕ) (xs : List ℕ) → length (take w xs) ≤ w
length-take_first zero xs = omega arith
length-take_first (suc w) [] = omega arith
length-take_first (suc w) (x ∷ xs) = let rest = length-take_first w xs in omega arith

-- positions that are offered one after another are offered together
pub offered-next : (position : ℕ) (positions : List ℕ) (state : TableState) → offered positions (offered (position ∷ []) state) ≡ offered (position ∷ positions) state
offered-next position positions state =
    ap (λ free. record { named = state.named; wanted = state.wanted; free = free })
    (take-first state.wanted (state.free ++ position ∷ []) positions ∙ ap (take state.wanted) (regroup state.free position positions))
  where
    regroup : (xs : List ℕ) (x : ℕ) (ys : List ℕ) → (xs ++ x ∷ []) ++ ys ≡ xs ++ x ∷ ys
    regroup [] x ys = refl
    regroup (z ∷ xs) x ys = ap (λ zs. z ∷ zs) (regroup xs x ys)

pub few-offered : (positions : List ℕ) (state : TableState) → length (offered positions state).free ≤ (offered positions state).wanted
few-offered positions state = length-take_first state.wanted (state.free ++ positions)

-- where none is offered a table stays as it is, if it has no more than are looked for
pub offered-none : (state : TableState) → length state.free ≤ state.wanted → offered [] state ≡ state
offered-none state few = ap (λ free. record { named = state.named; wanted = state.wanted; free = free }) (nothing_behind state.wanted state.free few)
  where
    nothing_behind : (w : ℕ) (xs : List ℕ) → length xs ≤ w → take w (xs ++ []) ≡ xs
    nothing_behind zero [] h = refl
    nothing_behind (suc w) [] h = refl
    nothing_behind zero (x ∷ xs) h = absurd (omega arith)
    nothing_behind (suc w) (x ∷ xs) h = ap (λ zs. x ∷ zs) (nothing_behind w xs (omega arith))

-- a table that is there is found whatever is given for one that is not
pub table_within : (ts : List TableState) (i : ℕ) (d : TableState) → i < length ts → get_or ts i d ≡ table_in ts i
table_within [] i d h = absurd (omega arith)
table_within (x ∷ ts) zero d h = refl
table_within (x ∷ ts) (suc i) d h = table_within ts i d (omega arith)

-- the first of a list, where there is one
pub first-of : (xs : List ℕ) (x : ℕ) → slice_get xs 0 ≡ Some x → (rest : List ℕ) × (xs ≡ x ∷ rest)
first-of [] x e = cc
first-of (y ∷ xs) x e = (xs, ap (λ z. z ∷ xs) (same_some y x e))
  where
    same_some : (y x : ℕ) → Some y ≡ Some x → y ≡ x
    same_some y x e = cc

pub no_first-of : (xs : List ℕ) → slice_get xs 0 ≡ None → xs ≡ []
no_first-of [] e = refl
no_first-of (y ∷ xs) e = cc
