-- What the slots say by key, where one of them is replaced.
use Rattle.std.proofs.Common.{◌≡◌, ℕ, zero, suc, ◌<◌, Bool, true, false, cond, List, [], ◌∷◌, ◌++◌, length, get_or, set, Option, None, Some, refl, sym, ap, ◌∙◌, subst, arith, filter_map}
use Rattle.std.specs.List.{cons_option}
use Rattle.std.specs.declared.cmp.Ordering.{Ordering}
use Rattle.std.specs.declared.cmp.Ordering.TheVariants.{Less, Equal, Greater}
use Rattle.std.specs.Ordering.{eq_by_cmp, is_eq}
use Rattle.std.specs.Cmp.{IsTotalOrder}
use Rattle.std.proofs.lemmas.Cmp.{eq_by_cmp_equiv}
use Rattle.std.specs.FinMap as finite
use Rattle.std.specs.FinMap.{find}
use Rattle.mt_tables.specs.Unique.{AreUnique, Misses, NoneSays, NoneSaysIts}

-- an entry with this key, or none
abbrev pub HasKey : {K V : Type 0} → (K → K → Ordering) → K → Option (K × V) → Type 0
HasKey R key None = Unit {0}
HasKey R key (Some e) = eq_by_cmp R key e.0 ≡ true

-- the i-th slot says the key or nothing, and no other slot says the key
abbrev pub OnlyAt : {S K V : Type 0} → (K → K → Ordering) → (S → Option (K × V)) → K → ℕ → List S → Type 0
OnlyAt R read key i [] = ⊥
OnlyAt R read key zero (slot ∷ slots) = HasKey R key (read slot) × NoneSays R read key slots
OnlyAt R read key (suc i) (slot ∷ slots) = Misses R key (read slot) × OnlyAt R read key i slots

-- the value of an entry
abbrev pub value_in : {K V : Type 0} → Option (K × V) → Option V
value_in None = None
value_in (Some e) = Some e.1

-- a test that was met is met again
same_branch : {A : Type 0} (b : Bool) (x y z : A) → cond b x z ≡ cond b x (cond b y z)
same_branch true x y z = refl
same_branch false x y z = refl

-- two tests that exclude one another
either_branch : {A : Type 0} (a b : Bool) (x y z : A) → (a ≡ true → b ≡ true → ⊥) → cond a x (cond b y z) ≡ cond b y (cond a x z)
either_branch true true x y z apart = absurd (apart refl refl)
either_branch true false x y z apart = refl
either_branch false true x y z apart = refl
either_branch false false x y z apart = refl

none_if : {A : Type 0} (b : Bool) (x : Option A) → (b ≡ true → x ≡ None) → x ≡ cond b None x
none_if true x h = h refl
none_if false x h = refl

-- keys that tie are one, where only equal keys do
pub tied_are_one : {K : Type 0} {R : K → K → Ordering} → finite.IsAntisymmetric R → (a b : K) → eq_by_cmp R a b ≡ true → a ≡ b
tied_are_one {K} {R} exact a b tied = by (R a b) refl tied
  where
    by : (r : Ordering) → R a b ≡ r → is_eq r ≡ true → a ≡ b
    by Less e t = cc
    by Equal e t = exact a b e
    by Greater e t = cc

-- what ties with a key is tested as that
same_test : {K : Type 0} {R : K → K → Ordering} → IsTotalOrder R → (k k2 q : K) → eq_by_cmp R k k2 ≡ true → eq_by_cmp R q k2 ≡ eq_by_cmp R q k
same_test o k k2 q tied = let laws = eq_by_cmp_equiv o in laws.symm q k2 ∙ sym (laws.congr k k2 q tied) ∙ laws.symm k q

module _ {K V : Type 0} {R : K → K → Ordering} (o : IsTotalOrder R) where
  pub find-tied : (q k : K) → eq_by_cmp R q k ≡ true → (es : List (K × V)) → find R q es ≡ find R k es
  find-tied q k tied [] = refl
  find-tied q k tied (e ∷ es) = rw ((eq_by_cmp_equiv o).congr q k e.0 tied, find-tied q k tied es) refl

  replaced_first : (k q : K) (old new : Option (K × V)) (es : List (K × V)) → HasKey R k old → HasKey R k new → find R k es ≡ None
      → find R q (cons_option new es) ≡ cond (eq_by_cmp R q k) (value_in new) (find R q (cons_option old es))
  replaced_first k q None None es had has none = none_if (eq_by_cmp R q k) (find R q es) (λ tied. find-tied q k tied es ∙ none)
  replaced_first k q None (Some n) es had has none = rw (same_test o k n.0 q has) refl
  replaced_first k q (Some p) None es had has none =
      rw (same_test o k p.0 q had) (none_if (eq_by_cmp R q k) (find R q es) (λ tied. find-tied q k tied es ∙ none) ∙ same_branch (eq_by_cmp R q k) None (Some p.1) (find R q es))
  replaced_first k q (Some p) (Some n) es had has none =
      rw (same_test o k n.0 q has, same_test o k p.0 q had) (same_branch (eq_by_cmp R q k) (Some n.1) (Some p.1) (find R q es))

  replaced_later : (k q : K) (e : Option (K × V)) (v : Option V) (olds news : List (K × V)) → Misses R k e → find R q news ≡ cond (eq_by_cmp R q k) v (find R q olds)
      → find R q (cons_option e news) ≡ cond (eq_by_cmp R q k) v (find R q (cons_option e olds))
  replaced_later k q None v olds news misses h = h
  replaced_later k q (Some e) v olds news misses h = rw h (either_branch (eq_by_cmp R q e.0) (eq_by_cmp R q k) (Some e.1) v (find R q olds)
      (λ a b. let c = (eq_by_cmp_equiv o).congr q k e.0 b in cc))

  same_misses : (k k2 : K) (e : Option (K × V)) → eq_by_cmp R k k2 ≡ true → Misses R k e → Misses R k2 e
  same_misses k k2 None tied misses = tt
  same_misses k k2 (Some e) tied misses = sym ((eq_by_cmp_equiv o).congr k k2 e.0 tied) ∙ misses

module _ {S E : Type 0} (read : S → Option E) where
  -- slots that say nothing, at the end
  pub free_behind : (slots more : List S) → filter_map read more ≡ [] → filter_map read (slots ++ more) ≡ filter_map read slots
  free_behind [] more free = free
  free_behind (slot ∷ slots) more free = ap (cons_option (read slot)) (free_behind slots more free)

  -- a slot that said nothing and says nothing
  pub silent_set : (slots : List S) (i : ℕ) (new d : S) → read (get_or slots i d) ≡ None → read new ≡ None → filter_map read (set slots i new) ≡ filter_map read slots
  silent_set [] i new d old is = refl
  silent_set (slot ∷ slots) zero new d old is = rw (old, is) refl
  silent_set (slot ∷ slots) (suc i) new d old is = ap (cons_option (read slot)) (silent_set slots i new d old is)

module _ {S K V : Type 0} {R : K → K → Ordering} (o : IsTotalOrder R) (read : S → Option (K × V)) where
  -- what no slot says is not found
  pub none_found : (k : K) (slots : List S) → NoneSays R read k slots → find R k (filter_map read slots) ≡ None
  none_found k [] none = refl
  none_found k (slot ∷ slots) none = by (read slot) none.0 (none_found k slots none.1)
    where
      by : (e : Option (K × V)) → Misses R k e → find R k (filter_map read slots) ≡ None → find R k (cons_option e (filter_map read slots)) ≡ None
      by None misses h = h
      by (Some e) misses h = rw misses h

  -- and what is not found no slot says
  pub none_says : (k : K) (slots : List S) → find R k (filter_map read slots) ≡ None → NoneSays R read k slots
  none_says k [] none = tt
  none_says k (slot ∷ slots) none = by (read slot) none (none_says k slots)
    where
      by : (e : Option (K × V)) → find R k (cons_option e (filter_map read slots)) ≡ None → (find R k (filter_map read slots) ≡ None → NoneSays R read k slots) → Misses R k e × NoneSays R read k slots
      by None none rest = (tt, rest none)
      by (Some e) none rest = inner (eq_by_cmp R k e.0) refl none
        where
          inner : (b : Bool) → eq_by_cmp R k e.0 ≡ b → cond b (Some e.1) (find R k (filter_map read slots)) ≡ None → (eq_by_cmp R k e.0 ≡ false) × NoneSays R read k slots
          inner true t is = cc
          inner false t is = (t, rest is)

  -- the i-th slot is replaced by one that says the same key or nothing
  pub found_after : (k q : K) (slot : S) (i : ℕ) (slots : List S) → OnlyAt R read k i slots → HasKey R k (read slot)
      → find R q (filter_map read (set slots i slot)) ≡ cond (eq_by_cmp R q k) (value_in (read slot)) (find R q (filter_map read slots))
  found_after k q slot i [] only has = absurd only
  found_after k q slot zero (old ∷ slots) only has = replaced_first o k q (read old) (read slot) (filter_map read slots) only.0 has (none_found k slots only.1)
  found_after k q slot (suc i) (old ∷ slots) only has =
      replaced_later o k q (read old) (value_in (read slot)) (filter_map read slots) (filter_map read (set slots i slot)) only.0 (found_after k q slot i slots only.1 has)

  -- a slot that says a value of the key
  pub put_in : finite.IsAntisymmetric R → (k : K) (v : V) (slot : S) (i : ℕ) (slots : List S) → OnlyAt R read k i slots → read slot ≡ Some (k, v)
      → finite.from_entries {R = R} (filter_map read (set slots i slot)) ≡ finite.insert (finite.from_entries (filter_map read slots)) k v
  put_in exact k v slot i slots only is =
      let has : HasKey R k (read slot) = subst (λ e. HasKey R k e) (sym is) ((eq_by_cmp_equiv o).refl k) in
      finite.same_map o exact _ _ (λ q.
      finite.get-from_entries o _ q ∙ found_after k q slot i slots only has ∙ ap (λ e. cond (eq_by_cmp R q k) (value_in e) (find R q (filter_map read slots))) is
      ∙ sym (finite.get-insert o (finite.from_entries (filter_map read slots)) k v q ∙ ap (cond (eq_by_cmp R q k) (Some v)) (finite.get-from_entries o (filter_map read slots) q)))

  -- and one that says nothing
  pub taken_out : finite.IsAntisymmetric R → (k : K) (slot : S) (i : ℕ) (slots : List S) → OnlyAt R read k i slots → read slot ≡ None
      → finite.from_entries {R = R} (filter_map read (set slots i slot)) ≡ finite.remove (finite.from_entries (filter_map read slots)) k
  taken_out exact k slot i slots only is =
      let has : HasKey R k (read slot) = subst (λ e. HasKey R k e) (sym is) tt in
      finite.same_map o exact _ _ (λ q.
      finite.get-from_entries o _ q ∙ found_after k q slot i slots only has ∙ ap (λ e. cond (eq_by_cmp R q k) (value_in e) (find R q (filter_map read slots))) is
      ∙ sym (finite.get-remove o (finite.from_entries (filter_map read slots)) k q ∙ ap (cond (eq_by_cmp R q k) None) (finite.get-from_entries o (filter_map read slots) q)))

  -- a free slot, and a key that no slot says
  pub only_free : (k : K) (i : ℕ) (slots : List S) (d : S) → i < length slots → NoneSays R read k slots → read (get_or slots i d) ≡ None → OnlyAt R read k i slots
  only_free k i [] d within none free = absurd (omega arith)
  only_free k zero (slot ∷ slots) d within none free = (subst (λ e. HasKey R k e) (sym free) tt, none.1)
  only_free k (suc i) (slot ∷ slots) d within none free = (none.0, only_free k i slots d (omega arith) none.1 free)

  tied_none : (k k2 : K) (slots : List S) → eq_by_cmp R k k2 ≡ true → NoneSays R read k slots → NoneSays R read k2 slots
  tied_none k k2 [] tied none = tt
  tied_none k k2 (slot ∷ slots) tied none = (same_misses o k k2 (read slot) tied none.0, tied_none k k2 slots tied none.1)

  -- where keys are unique, a slot that says a key is the only one
  pub only_used : (k : K) (v : V) (i : ℕ) (slots : List S) (d : S) → i < length slots → AreUnique R read slots → read (get_or slots i d) ≡ Some (k, v) → OnlyAt R read k i slots
  only_used k v i [] d within unique is = absurd (omega arith)
  only_used k v zero (slot ∷ slots) d within unique is =
      (subst (λ e. HasKey R k e) (sym is) ((eq_by_cmp_equiv o).refl k), subst (λ e. NoneSaysIts R read e slots) is unique.0)
  only_used k v (suc i) (slot ∷ slots) d within unique is = (by (read slot) unique.0, only_used k v i slots d (omega arith) unique.1 is)
    where
      at : (j : ℕ) (q : K) (rest : List S) → j < length rest → NoneSays R read q rest → read (get_or rest j d) ≡ Some (k, v) → eq_by_cmp R q k ≡ false
      at j q [] within none is = absurd (omega arith)
      at zero q (r ∷ rest) within none is = subst (λ e. Misses R q e) is none.0
      at (suc j) q (r ∷ rest) within none is = at j q rest (omega arith) none.1 is

      by : (e : Option (K × V)) → NoneSaysIts R read e slots → Misses R k e
      by None none = tt
      by (Some e) none = (eq_by_cmp_equiv o).symm k e.0 ∙ at i e.0 slots (omega arith) none is

  none_after : (k q : K) (slot : S) (i : ℕ) (slots : List S) → OnlyAt R read k i slots → HasKey R k (read slot) → eq_by_cmp R q k ≡ false → NoneSays R read q slots → NoneSays R read q (set slots i slot)
  none_after k q slot i [] only has apart none = absurd only
  none_after k q slot zero (old ∷ slots) only has apart none = (by (read slot) has, none.1)
    where
      by : (e : Option (K × V)) → HasKey R k e → Misses R q e
      by None has = tt
      by (Some e) has = same_test o k e.0 q has ∙ apart
  none_after k q slot (suc i) (old ∷ slots) only has apart none = (none.0, none_after k q slot i slots only.1 has apart none.1)

  none_says_new : (k : K) (slot : S) (slots : List S) → NoneSays R read k slots → HasKey R k (read slot) → NoneSaysIts R read (read slot) slots
  none_says_new k slot slots none has = by (read slot) has
    where
      by : (e : Option (K × V)) → HasKey R k e → NoneSaysIts R read e slots
      by None has = tt
      by (Some e) has = tied_none k e.0 slots has none

  -- keys stay unique
  pub unique_after : (k : K) (slot : S) (i : ℕ) (slots : List S) → OnlyAt R read k i slots → HasKey R k (read slot) → AreUnique R read slots → AreUnique R read (set slots i slot)
  unique_after k slot i [] only has unique = absurd only
  unique_after k slot zero (old ∷ slots) only has unique = (none_says_new k slot slots only.1 has, unique.1)
  unique_after k slot (suc i) (old ∷ slots) only has unique = (by (read old) only.0 unique.0, unique_after k slot i slots only.1 has unique.1)
    where
      by : (e : Option (K × V)) → Misses R k e → NoneSaysIts R read e slots → NoneSaysIts R read e (set slots i slot)
      by None misses none = tt
      by (Some e) misses none = none_after k e.0 slot i slots only.1 has ((eq_by_cmp_equiv o).symm e.0 k ∙ misses) none

-- keys stay unique where a slot that said nothing says nothing
none_silent : {S K V : Type 0} (R : K → K → Ordering) (read : S → Option (K × V)) (k : K) (slots : List S) (i : ℕ) (new d : S) → read (get_or slots i d) ≡ None → read new ≡ None → NoneSays R read k slots → NoneSays R read k (set slots i new)
none_silent R read k [] i new d old is none = tt
none_silent R read k (slot ∷ slots) zero new d old is none = (subst (λ e. Misses R k e) (sym is) tt, none.1)
none_silent R read k (slot ∷ slots) (suc i) new d old is none = (none.0, none_silent R read k slots i new d old is none.1)

pub unique_silent : {S K V : Type 0} (R : K → K → Ordering) (read : S → Option (K × V)) (slots : List S) (i : ℕ) (new d : S) → read (get_or slots i d) ≡ None → read new ≡ None → AreUnique R read slots → AreUnique R read (set slots i new)
unique_silent R read [] i new d old is unique = tt
unique_silent R read (slot ∷ slots) zero new d old is unique = (subst (λ e. NoneSaysIts R read e slots) (sym is) tt, unique.1)
unique_silent {K = K} {V = V} R read (slot ∷ slots) (suc i) new d old is unique = (by (read slot) unique.0, unique_silent R read slots i new d old is unique.1)
  where
    by : (e : Option (K × V)) → NoneSaysIts R read e slots → NoneSaysIts R read e (set slots i new)
    by None none = tt
    by (Some e) none = none_silent R read e.0 slots i new d old is none
