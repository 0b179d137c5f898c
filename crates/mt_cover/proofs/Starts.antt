-- With which shape a cover begins: of those that begin a list of its price the earliest. What follows
-- it is the cover of the columns that it leaves.
use Rattle.std.proofs.Common.{◌≡◌, ℕ, ◌+◌, ◌-◌, ◌*◌, ◌<◌, ◌≤◌, inl, inr, List, [], ◌∷◌, ◌++◌, replicate, sum_by, refl, sym, ap, ap₂, ◌∙◌, subst, append_assoc, arith}
use Rattle.std.proofs.lemmas.Bool.{cases_lt, le-ltb, ne_eqb}
use Rattle.std.proofs.lemmas.List.{append-nil}
use Rattle.std.proofs.lemmas.List.Folds.{sum_by-replicate}
use Rattle.std.proofs.lemmas.List.Sums.{sum_by-cons}
use Rattle.mt_fold.specs.declared.shape.Shape.{Shape}
use Rattle.mt_fold.specs.declared.shape.Shape.TheVariants.{C1, C2, C3, C4, C5, C6}
use Rattle.mt_fold.specs.Covers.{Ascends, Holds, IsCover}
use Rattle.mt_fold.specs.Shapes.{price, price_of, shape_table}
use Rattle.mt_fold.proofs.Ascending.{Above, Ascends-cons, Ascends-parts, NotAfter}
use Rattle.mt_fold.proofs.Cheapest.{cover_is_one}
use Rattle.mt_fold.proofs.Determined.{covers_determined}
use Rattle.mt_fold.proofs.Thinned.{Ascends-sorted, price_positive, sorted, sum_by-sorted}
use Rattle.mt_cover.specs.Steps.{Begins, cost_of, numbers_of, shapes_for, texts_of}

pub cover_is : (numbers texts : ℕ) → IsCover numbers texts (shapes_for numbers texts)
unfolding shapes_for
cover_is numbers texts = cover_is_one numbers texts

pub cost_is : (numbers texts : ℕ) → cost_of numbers texts ≡ price (shapes_for numbers texts)
unfolding cost_of
cost_is numbers texts = refl

pub nothing_is_empty : shapes_for 0 0 ≡ []
unfolding shapes_for
nothing_is_empty = refl

pub nothing_is_free : cost_of 0 0 ≡ 0
nothing_is_free = cost_is 0 0 ∙ ap price nothing_is_empty

-- no list that holds so many costs less
pub no_cheaper : (numbers texts : ℕ) (shapes : List Shape) → Holds numbers texts shapes → cost_of numbers texts ≤ price shapes
no_cheaper numbers texts shapes enough = subst (λ cost. cost ≤ price shapes) (sym (cost_is numbers texts)) ((cover_is numbers texts).cheapest shapes enough)

-- a chunk of one integer and one text for each column
pub cost_bound : (numbers texts : ℕ) → cost_of numbers texts ≤ (numbers + texts) * 217
cost_bound numbers texts =
    let number = sum_by-replicate numbers_of (numbers + texts) C3 in
    let text = sum_by-replicate texts_of (numbers + texts) C3 in
    let dear = sum_by-replicate price_of (numbers + texts) C3 in
    let least = no_cheaper numbers texts (replicate (numbers + texts) C3) (omega arith, omega arith) in
    omega arith

Holds-cons : (numbers texts : ℕ) (shape : Shape) (shapes : List Shape) → Holds (numbers - numbers_of shape) (texts - texts_of shape) shapes → Holds numbers texts (shape ∷ shapes)
Holds-cons numbers texts shape shapes enough =
    let number = sum_by-cons numbers_of shape shapes in
    let text = sum_by-cons texts_of shape shapes in
    (omega arith, omega arith)

Holds-rest : (numbers texts : ℕ) (shape : Shape) (shapes : List Shape) → Holds numbers texts (shape ∷ shapes) → Holds (numbers - numbers_of shape) (texts - texts_of shape) shapes
Holds-rest numbers texts shape shapes enough =
    let number = sum_by-cons numbers_of shape shapes in
    let text = sum_by-cons texts_of shape shapes in
    (omega arith, omega arith)

-- what the columns cost that a chunk of this shape leaves
abbrev cost_after : ℕ → ℕ → Shape → ℕ
cost_after numbers texts shape = cost_of (numbers - numbers_of shape) (texts - texts_of shape)

-- the chunks that the cover of the rest goes on from hold all columns
with_rest : (numbers texts : ℕ) (shape : Shape) → Holds numbers texts (shape ∷ shapes_for (numbers - numbers_of shape) (texts - texts_of shape))
with_rest numbers texts shape = Holds-cons numbers texts shape (shapes_for (numbers - numbers_of shape) (texts - texts_of shape)) (cover_is (numbers - numbers_of shape) (texts - texts_of shape)).holds

price-with_rest : (numbers texts : ℕ) (shape : Shape) → price (shape ∷ shapes_for (numbers - numbers_of shape) (texts - texts_of shape)) ≡ price_of shape + cost_after numbers texts shape
price-with_rest numbers texts shape =
    sum_by-cons price_of shape (shapes_for (numbers - numbers_of shape) (texts - texts_of shape))
    ∙ ap (λ cost. price_of shape + cost) (sym (cost_is (numbers - numbers_of shape) (texts - texts_of shape)))

pub no_dearer : (numbers texts : ℕ) (shape : Shape) → cost_of numbers texts ≤ price_of shape + cost_after numbers texts shape
no_dearer numbers texts shape =
    subst (λ cost. cost_of numbers texts ≤ cost) (price-with_rest numbers texts shape)
    (no_cheaper numbers texts (shape ∷ shapes_for (numbers - numbers_of shape) (texts - texts_of shape)) (with_rest numbers texts shape))

not_after_lower : (shape next : Shape) (shapes other : List Shape) → NotAfter (shape ∷ shapes) (next ∷ other) → shape_table next < shape_table shape → ⊥
not_after_lower shape next shapes other order lower =
    let less = le-ltb (shape_table shape) (shape_table next) (omega arith) in
    let same = ne_eqb (shape_table shape) (shape_table next) (λ is. omega arith) in
    (rw (less, same) at order) refl

NotAfter-rest : (shape : Shape) (shapes other : List Shape) → NotAfter (shape ∷ shapes) (shape ∷ other) → NotAfter shapes other
NotAfter-rest C1 shapes other order = order
NotAfter-rest C2 shapes other order = order
NotAfter-rest C3 shapes other order = order
NotAfter-rest C4 shapes other order = order
NotAfter-rest C5 shapes other order = order
NotAfter-rest C6 shapes other order = order

-- by how much the table of a shape is below another
abbrev below : Shape → Shape → ℕ
below low shape = shape_table low - shape_table shape

Above-lower : (low shape : Shape) (shapes : List Shape) → shape_table low ≤ shape_table shape → Above shape shapes → Above low shapes
Above-lower low shape [] first above = tt
Above-lower low shape (next ∷ shapes) first above = omega arith

none_below : (low : Shape) (shapes : List Shape) → Above low shapes → Ascends shapes → sum_by (below low) shapes ≡ 0
none_below low [] above ascends = refl
none_below low (shape ∷ shapes) above ascends =
    let parts = Ascends-parts shape shapes ascends in
    let rest = none_below low shapes (Above-lower low shape shapes above parts.0) parts.1 in
    let whole = sum_by-cons (below low) shape shapes in
    omega arith

Above-first : (shape : Shape) (shapes other : List Shape) → NotAfter (shape ∷ shapes) other → Above shape other
Above-first shape shapes [] order = tt
Above-first shape shapes (next ∷ other) order = elim (cases_lt (shape_table next) (shape_table shape)) [
  | inl lower ↦ absurd (not_after_lower shape next shapes other order lower)
  | inr above ↦ above
]

-- the first shape of the cover is of no later table than any of a list that is as cheap
none_earlier : (numbers texts : ℕ) (shape : Shape) (shapes : List Shape) → shapes_for numbers texts ≡ shape ∷ shapes → (other : List Shape) → Holds numbers texts other → price other ≡ cost_of numbers texts
    → sum_by (below shape) other ≡ 0
none_earlier numbers texts shape shapes begins other enough as_dear =
    let cover : IsCover numbers texts (shape ∷ shapes) = subst (IsCover numbers texts) begins (cover_is numbers texts) in
    let number = sum_by-sorted numbers_of other in
    let text = sum_by-sorted texts_of other in
    let hold : Holds numbers texts (sorted other) = (omega arith, omega arith) in
    let dear : price (sorted other) ≡ price (shape ∷ shapes) = sum_by-sorted price_of other ∙ as_dear ∙ cost_is numbers texts ∙ ap price begins in
    let order = cover.first (sorted other) hold (Ascends-sorted other) dear in
    sym (sum_by-sorted (below shape) other) ∙ none_below shape (sorted other) (Above-first shape shapes (sorted other) order) (Ascends-sorted other)

-- how the cover begins, and with no later table than any other list of its price
pub record Heads (numbers texts : ℕ) (shape : Shape) : Type 0 where
  pub start : Begins numbers texts shape
  pub costs : cost_of numbers texts ≡ price_of shape + cost_of (numbers - numbers_of shape) (texts - texts_of shape)
  pub earliest : (other : Shape) → price_of other + cost_of (numbers - numbers_of other) (texts - texts_of other) ≡ cost_of numbers texts → shape_table shape ≤ shape_table other

-- the cover without its first shape
module _ (numbers texts : ℕ) (shape : Shape) (shapes : List Shape) (begins : shapes_for numbers texts ≡ shape ∷ shapes) where
  whole : IsCover numbers texts (shape ∷ shapes)
  whole = subst (IsCover numbers texts) begins (cover_is numbers texts)

  rest_holds : Holds (numbers - numbers_of shape) (texts - texts_of shape) shapes
  rest_holds = Holds-rest numbers texts shape shapes whole.holds

  whole_costs : cost_of numbers texts ≡ price_of shape + price shapes
  whole_costs = cost_is numbers texts ∙ ap price begins ∙ sum_by-cons price_of shape shapes

  rest_costs : price shapes ≡ cost_after numbers texts shape
  rest_costs =
      let least = no_cheaper (numbers - numbers_of shape) (texts - texts_of shape) shapes rest_holds in
      let most = no_dearer numbers texts shape in
      let both = whole_costs in
      omega arith

  rest_first : (other : List Shape) → Holds (numbers - numbers_of shape) (texts - texts_of shape) other → Ascends other → price other ≡ price shapes → NotAfter shapes other
  rest_first other enough ascends as_dear =
      let hold = Holds-cons numbers texts shape other enough in
      let dear : price (shape ∷ other) ≡ cost_of numbers texts = sum_by-cons price_of shape other ∙ ap (λ cost. price_of shape + cost) as_dear ∙ sym whole_costs in
      let early = none_earlier numbers texts shape shapes begins (shape ∷ other) hold dear in
      let above : Above shape other = above_all other early in
      let same : price (shape ∷ other) ≡ price (shape ∷ shapes) = dear ∙ cost_is numbers texts ∙ ap price begins in
      NotAfter-rest shape shapes other (whole.first (shape ∷ other) hold (Ascends-cons shape other above ascends) same)
    where
      above_all : (list : List Shape) → sum_by (below shape) (shape ∷ list) ≡ 0 → Above shape list
      above_all [] early = tt
      above_all (next ∷ list) early =
          let one = sum_by-cons (below shape) shape (next ∷ list) in
          let two = sum_by-cons (below shape) next list in
          omega arith

  rest_is_cover : IsCover (numbers - numbers_of shape) (texts - texts_of shape) shapes
  rest_is_cover = record {
    holds = rest_holds;
    ascends = (Ascends-parts shape shapes whole.ascends).1;
    cheapest = λ other enough. subst (λ cost. cost ≤ price other) (sym rest_costs) (no_cheaper (numbers - numbers_of shape) (texts - texts_of shape) other enough);
    first = rest_first;
  }

  rest_is : shapes ≡ shapes_for (numbers - numbers_of shape) (texts - texts_of shape)
  rest_is =
      covers_determined (numbers - numbers_of shape) (texts - texts_of shape) shapes (shapes_for (numbers - numbers_of shape) (texts - texts_of shape))
      rest_is_cover (cover_is (numbers - numbers_of shape) (texts - texts_of shape))

  -- else the rest would hold as many for less
  rest_is_fewer : numbers - numbers_of shape + (texts - texts_of shape) < numbers + texts
  rest_is_fewer = elim (cases_lt (numbers - numbers_of shape + (texts - texts_of shape)) (numbers + texts)) [
    | inl fewer ↦ fewer
    | inr needless ↦
        let enough = rest_holds in
        let least = no_cheaper numbers texts shapes (omega arith, omega arith) in
        let both = whole_costs in
        let positive = price_positive shape in
        absurd (omega arith)
  ]

  heads : Heads numbers texts shape
  heads = record {
    start = record { fewer = rest_is_fewer; begins = begins ∙ ap (λ list. shape ∷ list) rest_is };
    costs = whole_costs ∙ ap (λ cost. price_of shape + cost) rest_costs;
    earliest = λ other as_dear.
        let early = none_earlier numbers texts shape shapes begins (other ∷ shapes_for (numbers - numbers_of other) (texts - texts_of other)) (with_rest numbers texts other) (price-with_rest numbers texts other ∙ as_dear) in
        let one = sum_by-cons (below shape) other (shapes_for (numbers - numbers_of other) (texts - texts_of other)) in
        omega arith;
  }

-- the cover of some columns begins
pub head_of : (numbers texts : ℕ) → 1 ≤ numbers + texts → (shape : Shape) × Heads numbers texts shape
head_of numbers texts some = by (shapes_for numbers texts) refl
  where
    by : (shapes : List Shape) → shapes_for numbers texts ≡ shapes → (shape : Shape) × Heads numbers texts shape
    by [] is = let enough = subst (Holds numbers texts) is (cover_is numbers texts).holds in absurd (omega arith)
    by (shape ∷ shapes) is = (shape, heads numbers texts shape shapes is)

-- shapes that go on with a cover, with its first shape behind them, go on with the cover of the rest
pub goes_on_more : (numbers texts rest_numbers rest_texts : ℕ) (shape : Shape) (shapes more all : List Shape) → Begins numbers texts shape → rest_numbers ≡ numbers - numbers_of shape → rest_texts ≡ texts - texts_of shape
    → more ≡ shapes ++ shape ∷ [] → shapes ++ shapes_for numbers texts ≡ all → more ++ shapes_for rest_numbers rest_texts ≡ all
goes_on_more numbers texts rest_numbers rest_texts shape shapes more all begins number text pushed goes_on =
    ap₂ (◌++◌) pushed (ap₂ shapes_for number text)
    ∙ append_assoc shapes (shape ∷ []) (shapes_for (numbers - numbers_of shape) (texts - texts_of shape))
    ∙ ap (λ list. shapes ++ list) (sym begins.begins)
    ∙ goes_on

-- nothing goes on with nothing
pub goes_no_further : (numbers texts : ℕ) (shapes all : List Shape) → numbers + texts ≡ 0 → shapes ++ shapes_for numbers texts ≡ all → shapes ≡ all
goes_no_further numbers texts shapes all none goes_on =
    let number : numbers ≡ 0 = omega arith in
    let text : texts ≡ 0 = omega arith in
    sym (append-nil shapes) ∙ ap (λ list. shapes ++ list) (sym nothing_is_empty ∙ sym (ap₂ shapes_for number text)) ∙ goes_on
