-- A list of chunks that holds enough can do without those that hold nothing that is needed, and can be
-- sorted.
use Rattle.std.proofs.Common.{◌≡◌, ℕ, suc, ◌+◌, ◌-◌, ◌<◌, ◌≤◌, cond, inl, inr, List, [], ◌∷◌, length, count_by, sum_by, refl, sym, ap, ◌∙◌, arith}
use Rattle.std.specs.Prelude.{nat_le}
use Rattle.std.proofs.lemmas.Bool.{cases_lt, cond_both, leb-true, leb-false}
use Rattle.std.proofs.lemmas.List.Sums.{sum_by-cons}
use Rattle.mt_codec.specs.declared.field.FieldKind.{FieldKind}
use Rattle.mt_codec.specs.declared.field.FieldKind.TheVariants.{Int, Text}
use Rattle.mt_fold.specs.declared.shape.Shape.{Shape}
use Rattle.mt_fold.specs.declared.shape.Shape.TheVariants.{C1, C2, C3, C4, C5, C6}
use Rattle.mt_fold.specs.Covers.{Ascends, Holds}
use Rattle.mt_fold.specs.Shapes.{fields_of, price, price_of, same_sort, shape_table}
use Rattle.mt_fold.proofs.Ascending.{Above, Ascends-cons, Ascends-parts}

-- how many fields of a sort one chunk has
abbrev pub fields_for : FieldKind → Shape → ℕ
fields_for kind shape = count_by (same_sort kind) (fields_of shape)

abbrev pub numbers_of : Shape → ℕ
numbers_of shape = fields_for Int shape

abbrev pub texts_of : Shape → ℕ
texts_of shape = fields_for (Text 120) shape

pub price_positive : (shape : Shape) → 1 ≤ price_of shape
price_positive C1 = omega arith
price_positive C2 = omega arith
price_positive C3 = omega arith
price_positive C4 = omega arith
price_positive C5 = omega arith
price_positive C6 = omega arith

-- shapes that hold as many, of which each is needed, and which are cheaper where any is left out
pub record Thins (numbers texts : ℕ) (shapes thin : List Shape) : Type 0 where
  pub holds : Holds numbers texts thin
  pub few : length thin ≤ numbers + texts
  pub shorter : length thin ≤ length shapes
  pub cheaper : price thin + length shapes ≤ price shapes + length thin

-- with the first shape, or without it where the rest needs no fewer
with_shape : (numbers texts : ℕ) (shape : Shape) (shapes thin : List Shape) → Thins (numbers - numbers_of shape) (texts - texts_of shape) shapes thin
    → numbers - numbers_of shape + (texts - texts_of shape) < numbers + texts → Thins numbers texts (shape ∷ shapes) (shape ∷ thin)
with_shape numbers texts shape shapes thin thins needed =
    let number = sum_by-cons numbers_of shape thin in
    let text = sum_by-cons texts_of shape thin in
    let dear = sum_by-cons price_of shape thin in
    let dearer = sum_by-cons price_of shape shapes in
    record { holds = (omega arith, omega arith); few = omega arith; shorter = omega arith; cheaper = omega arith }

without_shape : (numbers texts : ℕ) (shape : Shape) (shapes thin : List Shape) → Thins (numbers - numbers_of shape) (texts - texts_of shape) shapes thin
    → numbers + texts ≤ numbers - numbers_of shape + (texts - texts_of shape) → Thins numbers texts (shape ∷ shapes) thin
without_shape numbers texts shape shapes thin thins needless =
    let dear = sum_by-cons price_of shape shapes in
    let positive = price_positive shape in
    record { holds = (omega arith, omega arith); few = omega arith; shorter = omega arith; cheaper = omega arith }

pub thinned : (numbers texts : ℕ) (shapes : List Shape) → Holds numbers texts shapes → (thin : List Shape) × Thins numbers texts shapes thin
thinned numbers texts [] enough = ([], record { holds = enough; few = omega arith; shorter = omega arith; cheaper = omega arith })
thinned numbers texts (shape ∷ shapes) enough = by (thinned (numbers - numbers_of shape) (texts - texts_of shape) shapes rest)
  where
    rest : Holds (numbers - numbers_of shape) (texts - texts_of shape) shapes
    rest =
        let number = sum_by-cons numbers_of shape shapes in
        let text = sum_by-cons texts_of shape shapes in
        (omega arith, omega arith)

    by : (thin : List Shape) × Thins (numbers - numbers_of shape) (texts - texts_of shape) shapes thin → (thin : List Shape) × Thins numbers texts (shape ∷ shapes) thin
    by t = elim (cases_lt (numbers - numbers_of shape + (texts - texts_of shape)) (numbers + texts)) [
      | inl needed ↦ (shape ∷ t.0, with_shape numbers texts shape shapes t.0 t.1 needed)
      | inr needless ↦ (t.0, without_shape numbers texts shape shapes t.0 t.1 needless)
    ]

-- the shape in front of the first that is of no earlier table
abbrev put : Shape → List Shape → List Shape
put shape [] = shape ∷ []
put shape (next ∷ shapes) = cond (nat_le (shape_table shape) (shape_table next)) (shape ∷ next ∷ shapes) (next ∷ put shape shapes)

abbrev pub sorted : List Shape → List Shape
sorted [] = []
sorted (shape ∷ shapes) = put shape (sorted shapes)

sum_by-put : (f : Shape → ℕ) (shape : Shape) (shapes : List Shape) → sum_by f (put shape shapes) ≡ f shape + sum_by f shapes
sum_by-put f shape [] = sum_by-cons f shape []
sum_by-put f shape (next ∷ shapes) =
    let rest = sum_by-put f shape shapes in
    cond_both (nat_le (shape_table shape) (shape_table next)) (shape ∷ next ∷ shapes) (next ∷ put shape shapes) (λ list. sum_by f list ≡ f shape + sum_by f (next ∷ shapes))
    (λ first. sum_by-cons f shape (next ∷ shapes))
    (λ later. let whole = sum_by-cons f next (put shape shapes) in let part = sum_by-cons f next shapes in omega arith)

pub sum_by-sorted : (f : Shape → ℕ) (shapes : List Shape) → sum_by f (sorted shapes) ≡ sum_by f shapes
sum_by-sorted f [] = refl
sum_by-sorted f (shape ∷ shapes) = sum_by-put f shape (sorted shapes) ∙ ap (λ rest. f shape + rest) (sum_by-sorted f shapes) ∙ sym (sum_by-cons f shape shapes)

length-put : (shape : Shape) (shapes : List Shape) → length (put shape shapes) ≡ suc (length shapes)
length-put shape [] = refl
length-put shape (next ∷ shapes) =
    let rest : length (put shape shapes) ≡ suc (length shapes) = length-put shape shapes in
    cond_both (nat_le (shape_table shape) (shape_table next)) (shape ∷ next ∷ shapes) (next ∷ put shape shapes) (λ list. length list ≡ suc (suc (length shapes)))
    (λ first. refl) (λ later. ap suc rest)

pub length-sorted : (shapes : List Shape) → length (sorted shapes) ≡ length shapes
length-sorted [] = refl
length-sorted (shape ∷ shapes) = length-put shape (sorted shapes) ∙ ap suc (length-sorted shapes)

Above-put : (low shape : Shape) (shapes : List Shape) → shape_table low ≤ shape_table shape → Above low shapes → Above low (put shape shapes)
Above-put low shape [] first above = first
Above-put low shape (next ∷ shapes) first above =
    cond_both (nat_le (shape_table shape) (shape_table next)) (shape ∷ next ∷ shapes) (next ∷ put shape shapes) (Above low) (λ earlier. first) (λ later. above)

Ascends-put : (shape : Shape) (shapes : List Shape) → Ascends shapes → Ascends (put shape shapes)
Ascends-put shape [] ascends = tt
Ascends-put shape (next ∷ shapes) ascends =
    let parts = Ascends-parts next shapes ascends in
    let rest : Ascends (put shape shapes) = Ascends-put shape shapes parts.1 in
    cond_both (nat_le (shape_table shape) (shape_table next)) (shape ∷ next ∷ shapes) (next ∷ put shape shapes) Ascends
    (λ earlier. (leb-true _ _ earlier, ascends))
    (λ later. Ascends-cons next (put shape shapes) (Above-put next shape shapes (omega (arith, leb-false _ _ later)) parts.0) rest)

pub Ascends-sorted : (shapes : List Shape) → Ascends (sorted shapes)
Ascends-sorted [] = tt
Ascends-sorted (shape ∷ shapes) = Ascends-put shape (sorted shapes) (Ascends-sorted shapes)
