-- The least of the prices of six shapes, tried in order, is that of the shape with which the cover begins.
use Rattle.std.proofs.Common.{◌≡◌, ℕ, zero, suc, ◌+◌, ◌-◌, ◌<◌, ◌≤◌, ◌⊎◌, inl, inr, get_or, refl, sym, ap, ◌∙◌, subst, arith}
use Rattle.std.proofs.lemmas.Bool.{cases_lt, cases_eq}
use Rattle.mt_fold.specs.declared.shape.Shape.{Shape}
use Rattle.mt_fold.specs.declared.shape.Shape.TheVariants.{C1, C2, C3, C4, C5, C6}
use Rattle.mt_fold.specs.Covers.{all_shapes}
use Rattle.mt_fold.specs.Shapes.{price_of, shape_table}
use Rattle.mt_fold.proofs.Ascending.{table_positive}
use Rattle.mt_cover.specs.Steps.{Begins, cost_of, numbers_of, texts_of}
use Rattle.mt_cover.proofs.Starts.{Heads, cost_bound, head_of, no_dearer}

at_table : (shape : Shape) → get_or all_shapes (shape_table shape - 1) C1 ≡ shape
at_table C1 = refl
at_table C2 = refl
at_table C3 = refl
at_table C4 = refl
at_table C5 = refl
at_table C6 = refl

same_shape : (shape other : Shape) → shape_table shape ≡ shape_table other → shape ≡ other
same_shape shape other same = sym (at_table shape) ∙ ap (λ table. get_or all_shapes (table - 1) C1) same ∙ at_table other

table_below : (shape : Shape) → shape_table shape < 7
table_below C1 = omega arith
table_below C2 = omega arith
table_below C3 = omega arith
table_below C4 = omega arith
table_below C5 = omega arith
table_below C6 = omega arith

-- Of the shapes up to a table the best is the first of the cover, or the first is yet to come.
abbrev pub IsBest : ℕ → ℕ → ℕ → ℕ → Shape → Type 0
IsBest numbers texts passed price shape =
    (head : Shape) → Heads numbers texts head → ((price ≡ cost_of numbers texts) × (shape ≡ head)) ⊎ ((cost_of numbers texts < price) × (passed < shape_table head))

-- what the cheapest chunks cost with one of this shape, or a number above each price
pub record IsPriceWith (numbers texts : ℕ) (shape : Shape) (cost : ℕ) : Type 0 where
  pub of_use : numbers - numbers_of shape + (texts - texts_of shape) < numbers + texts → cost ≡ price_of shape + cost_of (numbers - numbers_of shape) (texts - texts_of shape)
  pub no_use : numbers + texts ≤ numbers - numbers_of shape + (texts - texts_of shape) → cost ≡ 18446744073709551615

module _ (numbers texts passed cost : ℕ) (next : Shape) (few : numbers + texts ≤ 32) (at : shape_table next ≡ passed + 1) (with_next : IsPriceWith numbers texts next cost) where
  costs_enough : cost_of numbers texts ≤ cost
  costs_enough = elim (cases_lt (numbers - numbers_of next + (texts - texts_of next)) (numbers + texts)) [
    | inl fewer ↦ let is = with_next.of_use fewer in let least = no_dearer numbers texts next in omega arith
    | inr needless ↦ let is = with_next.no_use needless in let most = cost_bound numbers texts in omega arith
  ]

  -- a shape in front of the first
  costs_more : (head : Shape) → Heads numbers texts head → passed + 1 < shape_table head → cost_of numbers texts < cost
  costs_more head h later = elim (cases_lt (numbers - numbers_of next + (texts - texts_of next)) (numbers + texts)) [
    | inl fewer ↦
        let is = with_next.of_use fewer in
        elim (cases_lt (cost_of numbers texts) cost) [
          | inl more ↦ more
          | inr as_cheap ↦
              let enough = costs_enough in
              let early = h.earliest next (omega arith) in
              absurd (omega arith)
        ]
    | inr needless ↦ let is = with_next.no_use needless in let most = cost_bound numbers texts in omega arith
  ]

  costs_as_much : (head : Shape) → Heads numbers texts head → next ≡ head → cost ≡ cost_of numbers texts
  costs_as_much head h same = with_next.of_use fewer ∙ ap (λ shape. price_of shape + cost_of (numbers - numbers_of shape) (texts - texts_of shape)) same ∙ sym h.costs
    where
      fewer : numbers - numbers_of next + (texts - texts_of next) < numbers + texts
      fewer = rw same h.start.fewer

  pub best_taken : (price : ℕ) (shape : Shape) → IsBest numbers texts passed price shape → cost < price → IsBest numbers texts (passed + 1) cost next
  best_taken price shape best less head h = elim (best head h) [
    | inl found ↦ let enough = costs_enough in absurd (omega arith)
    | inr later ↦ elim (cases_eq (shape_table next) (shape_table head)) [
      | inl same ↦ let is = same_shape next head same in inl (costs_as_much head h is, is)
      | inr other ↦ inr (costs_more head h (omega arith), omega arith)
    ]
  ]

  pub best_kept : (price : ℕ) (shape : Shape) → IsBest numbers texts passed price shape → price ≤ cost → IsBest numbers texts (passed + 1) price shape
  best_kept price shape best more head h = elim (best head h) [
    | inl found ↦ inl found
    | inr later ↦ elim (cases_eq (shape_table next) (shape_table head)) [
      | inl same ↦ let as_much = costs_as_much head h (same_shape next head same) in absurd (omega arith)
      | inr other ↦ inr (later.0, omega arith)
    ]
  ]

-- before any shape was tried
pub best_none : (numbers texts : ℕ) → numbers + texts ≤ 32 → IsBest numbers texts 0 18446744073709551615 C1
best_none numbers texts few head h = let most = cost_bound numbers texts in let positive = table_positive head in inr (omega arith, omega arith)

-- the shape at a place is that of the next table
pub table_at : (place : ℕ) (other : Shape) → place < 6 → shape_table (get_or all_shapes place other) ≡ place + 1
table_at zero other below = refl
table_at (suc zero) other below = refl
table_at (suc (suc zero)) other below = refl
table_at (suc (suc (suc zero))) other below = refl
table_at (suc (suc (suc (suc zero)))) other below = refl
table_at (suc (suc (suc (suc (suc zero))))) other below = refl
table_at (suc (suc (suc (suc (suc (suc place)))))) other below = absurd (omega arith)

-- behind the last shape
pub best_is : (numbers texts passed price : ℕ) (shape : Shape) → 1 ≤ numbers + texts → 6 ≤ passed → IsBest numbers texts passed price shape → (price ≡ cost_of numbers texts) × Begins numbers texts shape
best_is numbers texts passed price shape some all best =
    let head = head_of numbers texts some in
    elim (best head.0 head.1) [
      | inl found ↦ (found.0, subst (Begins numbers texts) (sym found.1) head.1.start)
      | inr later ↦ let below = table_below head.0 in absurd (omega arith)
    ]
