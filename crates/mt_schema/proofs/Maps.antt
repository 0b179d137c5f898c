-- Maps of tenants in which each value is changed, or one is put.
use Rattle.std.proofs.Common.{◌≡◌, ℕ, Bool, true, false, cond, List, [], ◌∷◌, map, Option, Some, refl, sym, ap, ◌∙◌}
use Rattle.std.specs.Prelude.{◌==◌, option_map}
use Rattle.std.specs.Ordering.{eq_by_cmp, nat_cmp}
use Rattle.std.specs.Cmp.{nat_cmp_total, unsigned_tied}
use Rattle.std.specs.FinMap as finite
use Rattle.mt_schema.specs.Steps.{in_each}

-- a change of both values that a test chooses from
option_map-cond : {A B : Type 0} (f : A → B) (b : Bool) (x : A) (y : Option A) (z : Option B) → z ≡ option_map f y → cond b (Some (f x)) z ≡ option_map f (cond b (Some x) y)
option_map-cond f true x y z e = refl
option_map-cond f false x y z e = e

pub find-map : {A B : Type 0} (change : A → B) (n : ℕ) (entries : List (ℕ × A)) → finite.find nat_cmp n (map (λ entry. (entry.0, change entry.1)) entries) ≡ option_map change (finite.find nat_cmp n entries)
find-map change n [] = refl
find-map change n (entry ∷ entries) = option_map-cond change (eq_by_cmp nat_cmp n entry.0) entry.1 (finite.find nat_cmp n entries) _ (find-map change n entries)

-- the same change at each number is, at one of them, the change of its value
pub get-in_each : {A B : Type 0} (change : A → B) (values : finite.FinMap nat_cmp A) (n : ℕ) → finite.get (in_each change values) n ≡ option_map change (finite.get values n)
unfolding in_each
get-in_each change values n =
    finite.get-from_entries nat_cmp_total (map (λ entry. (entry.0, change entry.1)) (finite.entries values)) n
    ∙ find-map change n (finite.entries values)
    ∙ ap (option_map change) (sym (finite.get-entries values n))

-- a value that was put at a number is found there, and each other is as it was
pub get-insert : {A : Type 0} (values : finite.FinMap nat_cmp A) (at : ℕ) (value : A) (n : ℕ) → finite.get (finite.insert values at value) n ≡ cond (n == at) (Some value) (finite.get values n)
get-insert values at value n =
    finite.get-insert nat_cmp_total values at value n
    ∙ ap (λ (here : Bool). cond here (Some value) (finite.get values n)) (unsigned_tied n at)
