-- Insertion sort by a test lt, of whatever is compared: two lists with the same elements give one list,
-- and a list in order gives itself.
use Rattle.std.proofs.Common.{◌≡◌, ℕ, zero, suc, ◌<◌, Bool, true, false, if◌then◌else◌, List, [], ◌∷◌, length, get_or, set, refl, sym, ap, add-one, ◌∙◌, subst, ⊎_elim, arith}
use Rattle.std.specs.Cmp.{IsStrictWeakOrder}
use Rattle.std.specs.List.{swap}
use Rattle.std.specs.List.Sorted.{IsPermutation, IsSortedBy}
use Rattle.std.proofs.lemmas.List.{get_or-set_same, get_or-set_other, length-set}
use Rattle.std.proofs.lemmas.Bool.{cases_eq}
use Rattle.std.proofs.lemmas.List.Sorted.{IsPermutation-keeps}

-- x in front of the first element that is not below it
abbrev pub insert_by : {K : Type 0} → (K → K → Bool) → K → List K → List K
insert_by lt x [] = x ∷ []
insert_by lt x (y ∷ ys) = if lt y x then y ∷ insert_by lt x ys else x ∷ y ∷ ys

-- the elements in order
abbrev pub in_order_by : {K : Type 0} → (K → K → Bool) → List K → List K
in_order_by lt [] = []
in_order_by lt (x ∷ xs) = insert_by lt x (in_order_by lt xs)

module _ {K : Type 0} (lt : K → K → Bool) where
  -- an element goes in front of a head that is not below it
  insert_by-front : (x y : K) (ys : List K) → lt y x ≡ false → insert_by lt x (y ∷ ys) ≡ x ∷ y ∷ ys
  insert_by-front x y ys not_below = rw not_below

  -- an insert adds one element
  length-insert_by : (x : K) (xs : List K) → length (insert_by lt x xs) ≡ suc (length xs)
  length-insert_by x [] = refl
  length-insert_by x (y ∷ ys) =
      by (length-insert_by x ys) (lt y x) refl
    where
      by : length (insert_by lt x ys) ≡ suc (length ys) → (b : Bool) → lt y x ≡ b → length (insert_by lt x (y ∷ ys)) ≡ suc (suc (length ys))
      by tail true e = rw e (ap suc tail)
      by tail false e = rw e refl

  module _ (order : IsStrictWeakOrder lt) (exact : (x y : K) → lt x y ≡ false → lt y x ≡ false → x ≡ y) where
    -- what is at least an element that is below z is below z
    below_between : (x y z : K) → lt x z ≡ true → lt x y ≡ false → lt y z ≡ true
    below_between x y z below not_below =
        by (lt y z) refl
      where
        by : (b : Bool) → lt y z ≡ b → b ≡ true
        by true e = refl
        by false e = let contrary = order.chain x y z not_below e in cc

    -- two inserts in either order give one list, where the first is below the second
    insert_by_comm-below : (a b : K) (xs : List K) → lt a b ≡ true → insert_by lt a (insert_by lt b xs) ≡ insert_by lt b (insert_by lt a xs)
    insert_by_comm-below a b [] below = let back = order.one_way a b below in simp (back, below)
    insert_by_comm-below a b (x ∷ xs) below =
        by (insert_by_comm-below a b xs below) (lt x a) (lt x b) refl refl
      where
        back : lt b a ≡ false
        back = order.one_way a b below

        by : insert_by lt a (insert_by lt b xs) ≡ insert_by lt b (insert_by lt a xs) → (p q : Bool) → lt x a ≡ p → lt x b ≡ q → insert_by lt a (insert_by lt b (x ∷ xs)) ≡ insert_by lt b (insert_by lt a (x ∷ xs))
        by tail true true ea eb = simp (ea, eb) (ap (λ ys. x ∷ ys) tail)
        by tail true false ea eb = let contrary = below_between x b a ea eb in absurd (let here = back in cc)
        by tail false true ea eb = simp (ea, eb, below)
        by tail false false ea eb = let here = back in simp (ea, eb, below, here)

    -- two inserts in either order give one list
    insert_by_comm : (a b : K) (xs : List K) → insert_by lt a (insert_by lt b xs) ≡ insert_by lt b (insert_by lt a xs)
    insert_by_comm a b xs =
        by (lt a b) (lt b a) refl refl
      where
        by : (p q : Bool) → lt a b ≡ p → lt b a ≡ q → insert_by lt a (insert_by lt b xs) ≡ insert_by lt b (insert_by lt a xs)
        by true q e f = insert_by_comm-below a b xs e
        by false true e f = sym (insert_by_comm-below b a xs f)
        by false false e f = let same = exact a b e f in cc

    -- nothing is below itself
    not_below_itself : (x : K) → lt x x ≡ true → ⊥
    not_below_itself x below = let contrary = order.one_way x x below in cc

    -- what an insert was given can be told from what it gave
    insert_by_cancel : (x : K) (xs ys : List K) → insert_by lt x xs ≡ insert_by lt x ys → xs ≡ ys
    insert_by_cancel x [] [] e = refl
    insert_by_cancel x [] (y ∷ ys) e = absurd (omega (arith, ap length e, length-insert_by x (y ∷ ys)))
    insert_by_cancel x (z ∷ zs) [] e = absurd (omega (arith, ap length e, length-insert_by x (z ∷ zs)))
    insert_by_cancel x (z ∷ zs) (y ∷ ys) e =
        by (insert_by_cancel x zs ys) (lt z x) (lt y x) refl refl
      where
        by : (insert_by lt x zs ≡ insert_by lt x ys → zs ≡ ys) → (p q : Bool) → lt z x ≡ p → lt y x ≡ q → z ∷ zs ≡ y ∷ ys
        by tail true true f g = let k = simp (f, g) at e in let same : insert_by lt x zs ≡ insert_by lt x ys = cc in let more = tail same in cc
        by tail true false f g = let k = simp (f, g) at e in let same : z ≡ x = cc in absurd (not_below_itself x (subst (λ (w : K). lt w x ≡ true) same f))
        by tail false true f g = let k = simp (f, g) at e in let same : y ≡ x = cc in absurd (not_below_itself x (subst (λ (w : K). lt w x ≡ true) same g))
        by tail false false f g = let k = simp (f, g) at e in cc

    -- one element replaced by x: the old one and the new list are x and the old list
    in_order_by-set : (xs : List K) (i : ℕ) (x d : K) → i < length xs → insert_by lt (get_or xs i d) (in_order_by lt (set xs i x)) ≡ insert_by lt x (in_order_by lt xs)
    in_order_by-set [] i x d h = absurd (omega arith)
    in_order_by-set (y ∷ ys) zero x d h = insert_by_comm y x (in_order_by lt ys)
    in_order_by-set (y ∷ ys) (suc i) x d h =
        let tail = in_order_by-set ys i x d (omega arith) in
        insert_by_comm (get_or ys i d) y (in_order_by lt (set ys i x)) ∙ ap (insert_by lt y) tail ∙ insert_by_comm y x (in_order_by lt ys)

    -- where an element is written over by the one at j, what stands at j stays
    read_written : (xs : List K) (i j : ℕ) (d : K) → i < length xs → get_or (set xs i (get_or xs j d)) j d ≡ get_or xs j d
    read_written xs i j d h =
        ⊎_elim
        (λ same. subst (λ (k : ℕ). get_or (set xs i (get_or xs k d)) k d ≡ get_or xs k d) same (get_or-set_same xs i (get_or xs i d) d h))
        (λ other. get_or-set_other xs i j (get_or xs j d) d (λ same. other (sym same)))
        (cases_eq i j)

    -- two elements exchanged
    in_order_by-swap : (xs : List K) (i j : ℕ) → i < length xs → j < length xs → in_order_by lt (swap xs i j) ≡ in_order_by lt xs
    in_order_by-swap [] i j hi hj = absurd (omega arith)
    in_order_by-swap (d ∷ ys) i j hi hj =
        insert_by_cancel b _ _ (subst (λ (v : K). insert_by lt v (in_order_by lt (set once j a)) ≡ insert_by lt b (in_order_by lt xs)) there (second ∙ first))
      where
        xs : List K
        xs = d ∷ ys

        a : K
        a = get_or xs i d

        b : K
        b = get_or xs j d

        once : List K
        once = set xs i b

        first : insert_by lt a (in_order_by lt once) ≡ insert_by lt b (in_order_by lt xs)
        first = in_order_by-set xs i b d hi

        second : insert_by lt (get_or once j d) (in_order_by lt (set once j a)) ≡ insert_by lt a (in_order_by lt once)
        second = in_order_by-set once j a d (omega (arith, hj, length-set xs i b))

        there : get_or once j d ≡ b
        there = read_written xs i j d hi

    -- the elements in another order
    pub in_order_by-permutation : (xs ys : List K) → IsPermutation xs ys → in_order_by lt ys ≡ in_order_by lt xs
    in_order_by-permutation xs ys moved =
        IsPermutation-keeps xs (λ zs. in_order_by lt zs ≡ in_order_by lt xs) refl (λ zs i j hi hj same. in_order_by-swap zs i j hi hj ∙ same) ys moved

  -- the elements behind the first are in order too
  IsSortedBy-tail : (x : K) (xs : List K) → IsSortedBy lt (x ∷ xs) → IsSortedBy lt xs
  IsSortedBy-tail x xs sorted k d low high = let next = sorted (suc k) d (omega arith) (omega arith) in simp add-one (simp add-one at next)

  -- a list in order stays as it is
  pub in_order_by-sorted : (xs : List K) → IsSortedBy lt xs → in_order_by lt xs ≡ xs
  in_order_by-sorted [] sorted = refl
  in_order_by-sorted (x ∷ []) sorted = refl
  in_order_by-sorted (x ∷ y ∷ ys) sorted =
      let tail = in_order_by-sorted (y ∷ ys) (IsSortedBy-tail x (y ∷ ys) sorted) in
      let front : lt y x ≡ false = sorted 0 x (omega arith) (omega arith) in
      ap (insert_by lt x) tail ∙ insert_by-front x y ys front
