-- Lists: what holds of each element, that one is among them, and that they stand in an order.
use Rattle.std.proofs.Common.{◌≡◌, Bool, true, ◌⊎◌, inl, inr, List, [], ◌∷◌, ◌++◌, map, sym, ap, ◌∙◌, subst}
use Rattle.std.specs.List.{AllByRecursion as Each, filter, flat_map}
use Rattle.std.proofs.lemmas.Bool.{cond_both, true≢false}

-- one of the elements
abbrev pub Among : {X : Type 0} → X → List X → Type 0
Among x [] = ⊥
Among x (y ∷ ys) = (x ≡ y) ⊎ Among x ys

-- each stands to those behind it so
abbrev pub InOrder : {X : Type 0} → (X → X → Type 0) → List X → Type 0
InOrder R [] = Unit {0}
InOrder R (x ∷ xs) = Each (R x) xs × InOrder R xs

module _ {X : Type 0} where
  pub Each-always : (P : X → Type 0) → ((x : X) → P x) → (xs : List X) → Each P xs
  Each-always P always [] = tt
  Each-always P always (x ∷ xs) = (always x, Each-always P always xs)

  pub Each-weaker : (P Q : X → Type 0) → ((x : X) → P x → Q x) → (xs : List X) → Each P xs → Each Q xs
  Each-weaker P Q weaker [] each = tt
  Each-weaker P Q weaker (x ∷ xs) each = (weaker x each.0, Each-weaker P Q weaker xs each.1)

  pub Each-both : (P Q S : X → Type 0) → ((x : X) → P x → Q x → S x) → (xs : List X) → Each P xs → Each Q xs → Each S xs
  Each-both P Q S both [] each other = tt
  Each-both P Q S both (x ∷ xs) each other = (both x each.0 other.0, Each-both P Q S both xs each.1 other.1)

  pub Each-append : (P : X → Type 0) (xs ys : List X) → Each P xs → Each P ys → Each P (xs ++ ys)
  Each-append P [] ys each other = other
  Each-append P (x ∷ xs) ys each other = (each.0, Each-append P xs ys each.1 other)

  pub Each-filter : (P : X → Type 0) (test : X → Bool) (xs : List X) → Each P xs → Each P (filter test xs)
  Each-filter P test [] each = tt
  Each-filter P test (x ∷ xs) each =
      let rest : Each P (filter test xs) = Each-filter P test xs each.1 in
      cond_both (test x) (x ∷ filter test xs) (filter test xs) (Each P) (λ passes. (each.0, rest)) (λ fails. rest)

  pub filter_passes : (test : X → Bool) (xs : List X) → Each (λ x. test x ≡ true) (filter test xs)
  filter_passes test [] = tt
  filter_passes test (x ∷ xs) =
      let rest : Each (λ x. test x ≡ true) (filter test xs) = filter_passes test xs in
      cond_both (test x) (x ∷ filter test xs) (filter test xs) (Each (λ x. test x ≡ true)) (λ passes. (passes, rest)) (λ fails. rest)

  pub Each-at : (P : X → Type 0) (x : X) (xs : List X) → Each P xs → Among x xs → P x
  Each-at P x [] each among = absurd among
  Each-at P x (y ∷ ys) each (inl same) = subst P (sym same) each.0
  Each-at P x (y ∷ ys) each (inr among) = Each-at P x ys each.1 among

  pub Among-append_left : (x : X) (xs ys : List X) → Among x xs → Among x (xs ++ ys)
  Among-append_left x [] ys among = absurd among
  Among-append_left x (z ∷ xs) ys (inl same) = inl same
  Among-append_left x (z ∷ xs) ys (inr among) = inr (Among-append_left x xs ys among)

  pub Among-append_right : (x : X) (xs ys : List X) → Among x ys → Among x (xs ++ ys)
  Among-append_right x [] ys among = among
  Among-append_right x (z ∷ xs) ys among = inr (Among-append_right x xs ys among)

  pub Among-filter : (test : X → Bool) (x : X) (xs : List X) → test x ≡ true → Among x xs → Among x (filter test xs)
  Among-filter test x [] passes among = absurd among
  Among-filter test x (y ∷ ys) passes (inl same) =
      cond_both (test y) (y ∷ filter test ys) (filter test ys) (Among x) (λ also. inl same) (λ fails. absurd (true≢false (sym passes ∙ ap test same ∙ fails)))
  Among-filter test x (y ∷ ys) passes (inr among) =
      let rest : Among x (filter test ys) = Among-filter test x ys passes among in
      cond_both (test y) (y ∷ filter test ys) (filter test ys) (Among x) (λ also. inr rest) (λ fails. rest)

  pub InOrder-append : (R : X → X → Type 0) (xs ys : List X) → InOrder R xs → InOrder R ys → Each (λ x. Each (R x) ys) xs → InOrder R (xs ++ ys)
  InOrder-append R [] ys first second across = second
  InOrder-append R (x ∷ xs) ys first second across =
      (Each-append (R x) xs ys first.0 across.0, InOrder-append R xs ys first.1 second across.1)

  pub InOrder-filter : (R : X → X → Type 0) (test : X → Bool) (xs : List X) → InOrder R xs → InOrder R (filter test xs)
  InOrder-filter R test [] order = tt
  InOrder-filter R test (x ∷ xs) order =
      let rest : InOrder R (filter test xs) = InOrder-filter R test xs order.1 in
      cond_both (test x) (x ∷ filter test xs) (filter test xs) (InOrder R) (λ passes. (Each-filter (R x) test xs order.0, rest)) (λ fails. rest)

module _ {X Y : Type 0} where
  pub Each-map : (P : Y → Type 0) (f : X → Y) (xs : List X) → Each (λ x. P (f x)) xs → Each P (map f xs)
  Each-map P f [] each = tt
  Each-map P f (x ∷ xs) each = (each.0, Each-map P f xs each.1)

  pub Each-flat_map : (P : Y → Type 0) (f : X → List Y) (xs : List X) → Each (λ x. Each P (f x)) xs → Each P (flat_map f xs)
  Each-flat_map P f [] each = tt
  Each-flat_map P f (x ∷ xs) each = Each-append P (f x) (flat_map f xs) each.0 (Each-flat_map P f xs each.1)

  pub Among-map : (f : X → Y) (x : X) (xs : List X) → Among x xs → Among (f x) (map f xs)
  Among-map f x [] among = absurd among
  Among-map f x (z ∷ xs) (inl same) = inl (ap f same)
  Among-map f x (z ∷ xs) (inr among) = inr (Among-map f x xs among)

  pub Among-flat_map : (f : X → List Y) (y : Y) (x : X) (xs : List X) → Among x xs → Among y (f x) → Among y (flat_map f xs)
  Among-flat_map f y x [] among within = absurd among
  Among-flat_map f y x (z ∷ xs) (inl same) within = Among-append_left y (f z) (flat_map f xs) (subst (λ v. Among y (f v)) same within)
  Among-flat_map f y x (z ∷ xs) (inr among) within = Among-append_right y (f z) (flat_map f xs) (Among-flat_map f y x xs among within)

  pub InOrder-map : (R : Y → Y → Type 0) (S : X → X → Type 0) (f : X → Y) → ((a b : X) → S a b → R (f a) (f b)) → (xs : List X) → InOrder S xs → InOrder R (map f xs)
  InOrder-map R S f keeps [] order = tt
  InOrder-map R S f keeps (x ∷ xs) order =
      (Each-map (R (f x)) f xs (Each-weaker (S x) (λ b. R (f x) (f b)) (keeps x) xs order.0), InOrder-map R S f keeps xs order.1)

  -- what stands so to each part stands so to the whole
  across : (R : Y → Y → Type 0) (us : List Y) (f : X → List Y) (xs : List X) → Each (λ b. Each (λ u. Each (R u) (f b)) us) xs → Each (λ u. Each (R u) (flat_map f xs)) us
  across R us f [] each = Each-always (λ u. Each (R u) []) (λ u. tt) us
  across R us f (x ∷ xs) each =
      Each-both (λ u. Each (R u) (f x)) (λ u. Each (R u) (flat_map f xs)) (λ u. Each (R u) (f x ++ flat_map f xs))
      (λ u first rest. Each-append (R u) (f x) (flat_map f xs) first rest) us each.0 (across R us f xs each.1)

  pub InOrder-flat_map : (R : Y → Y → Type 0) (S : X → X → Type 0) (f : X → List Y) → ((a b : X) → S a b → Each (λ u. Each (R u) (f b)) (f a))
      → (xs : List X) → InOrder S xs → Each (λ x. InOrder R (f x)) xs → InOrder R (flat_map f xs)
  InOrder-flat_map R S f apart [] order each = tt
  InOrder-flat_map R S f apart (x ∷ xs) order each =
      InOrder-append R (f x) (flat_map f xs) each.0 (InOrder-flat_map R S f apart xs order.1 each.1)
      (across R (f x) f xs (Each-weaker (S x) (λ b. Each (λ u. Each (R u) (f b)) (f x)) (apart x) xs order.0))
