-- Lists by what stands at each number.
use Rattle.std.proofs.Common.{◌≡◌, ℕ, zero, suc, ◌<◌, ◌≤◌, List, [], ◌∷◌, ◌++◌, length, Option, None, Some, refl, sym, ap, ◌∙◌, subst, arith}
use Rattle.std.specs.Prelude.{slice_get}
use Rattle.std.proofs.lemmas.Option.{slice_get_past, slice_get_within}
use Rattle.mt_catalog.specs.Found.{IsRun, IsRunOf}

-- lists with the same at each number are the same
pub same_gets : {A : Type 0} (xs ys : List A) → ((k : ℕ) → slice_get xs k ≡ slice_get ys k) → xs ≡ ys
same_gets [] [] same = refl
same_gets [] (y ∷ ys) same = let e = same 0 in absurd (cc)
same_gets (x ∷ xs) [] same = let e = same 0 in absurd (cc)
same_gets (x ∷ xs) (y ∷ ys) same = let e = same 0 in let first : x ≡ y = cc in let rest = same_gets xs ys (λ k. same (suc k)) in cc

-- a member stands at each number below the length, and none from there on
pub present : {A : Type 0} (xs : List A) (n : ℕ) → n < length xs → (x : A) × (slice_get xs n ≡ Some x)
present [] n within = absurd (omega (arith, within))
present (x ∷ xs) zero within = (x, refl)
present (x ∷ xs) (suc n) within = present xs n (omega (arith, within))

pub past : {A : Type 0} (xs : List A) (n : ℕ) → slice_get xs n ≡ None → length xs ≤ n
past [] n e = omega arith
past (x ∷ xs) zero e = absurd (cc)
past (x ∷ xs) (suc n) e = let rest = past xs n e in omega (arith, rest)

-- lists of which equal members stand at each number below one length
pub same_members : {A : Type 0} (xs ys : List A) → length xs ≡ length ys → ((n : ℕ) (x y : A) → slice_get xs n ≡ Some x → slice_get ys n ≡ Some y → x ≡ y) → xs ≡ ys
same_members {A} xs ys size same = same_gets xs ys (λ n. by n (slice_get xs n) refl (slice_get ys n) refl)
  where
    by : (n : ℕ) (o : Option A) → slice_get xs n ≡ o → (u : Option A) → slice_get ys n ≡ u → slice_get xs n ≡ slice_get ys n
    by n (Some x) e (Some y) f = e ∙ ap Some (same n x y e f) ∙ sym f
    by n None e None f = e ∙ sym f
    by n (Some x) e None f = let within = slice_get_within xs n x e in let beyond = past ys n f in absurd (omega (arith, within, beyond, size))
    by n None e (Some y) f = let within = slice_get_within ys n y f in let beyond = past xs n e in absurd (omega (arith, within, beyond, size))

-- there is one run where one member at most stands at each number, and none at an end
pub one_run : {A : Type 0} (Stands : ℕ → A → Type 0) (Ends : ℕ → Type 0) → ((n : ℕ) (x y : A) → Stands n x → Stands n y → x ≡ y) → ((n : ℕ) (x : A) → Stands n x → Ends n → ⊥)
    → (xs ys : List A) → IsRun Stands Ends xs → IsRun Stands Ends ys → xs ≡ ys
one_run {A} Stands Ends once apart xs ys run other = same_gets xs ys (λ n. by n (slice_get xs n) refl (slice_get ys n) refl)
  where
    more : (longer shorter : List A) → IsRun Stands Ends longer → IsRun Stands Ends shorter → length shorter < length longer → ⊥
    more longer shorter is ends within = let next = present longer (length shorter) within in apart (length shorter) next.0 (is.each (length shorter) next.0 next.1) ends.ending

    by : (n : ℕ) (o : Option A) → slice_get xs n ≡ o → (u : Option A) → slice_get ys n ≡ u → slice_get xs n ≡ slice_get ys n
    by n (Some x) e (Some y) f = e ∙ ap Some (once n x y (run.each n x e) (other.each n y f)) ∙ sym f
    by n None e None f = e ∙ sym f
    by n (Some x) e None f = let within = slice_get_within xs n x e in let beyond = past ys n f in absurd (more xs ys run other (omega (arith, within, beyond)))
    by n None e (Some y) f = let within = slice_get_within ys n y f in let beyond = past xs n e in absurd (more ys xs other run (omega (arith, within, beyond)))

pub one_run_of : {A : Type 0} (at : ℕ → Option A) (xs ys : List A) → IsRunOf at xs → IsRunOf at ys → xs ≡ ys
one_run_of at xs ys run other = one_run _ _ (λ n x y e f. let same : Some x ≡ Some y = sym e ∙ f in cc) (λ n x e f. let none : Some x ≡ None = sym e ∙ f in cc) xs ys run other

-- the members of a list in its order are a run of it
pub own_run : {A : Type 0} (at : ℕ → Option A) (xs : List A) → ((n : ℕ) → at n ≡ slice_get xs n) → IsRunOf at xs
own_run at xs same = record { each = λ n x e. same n ∙ e; ending = same (length xs) ∙ slice_get_past xs (length xs) (omega arith) }

-- a run with one more member
pub run_pushed : {A : Type 0} (Stands : ℕ → A → Type 0) (xs : List A) (x : A) → ((n : ℕ) (y : A) → slice_get xs n ≡ Some y → Stands n y) → Stands (length xs) x
    → (n : ℕ) (y : A) → slice_get (xs ++ x ∷ []) n ≡ Some y → Stands n y
run_pushed Stands [] x each last zero y e = let same : x ≡ y = cc in subst (Stands 0) same last
run_pushed Stands [] x each last (suc n) y e = absurd (cc)
run_pushed Stands (z ∷ zs) x each last zero y e = each 0 y e
run_pushed Stands (z ∷ zs) x each last (suc n) y e = run_pushed (λ m w. Stands (suc m) w) zs x (λ m w f. each (suc m) w f) (let size : length (z ∷ zs) ≡ suc (length zs) = omega arith in subst (λ m. Stands m x) size last) n y e
