-- The place of a price in the table.
use Rattle.std.proofs.Common.{◌≡◌, ℕ, zero, suc, ◌+◌, ◌*◌, ◌/◌, ◌%◌, ◌<◌, ◌≤◌, inl, inr, List, [], ◌∷◌, ◌++◌, length, get_or, sym, ap, ap₂, ◌∙◌, arith}
use Rattle.std.proofs.lemmas.Bool.{cases_lt}
use Rattle.std.proofs.lemmas.List.{get_or_append_left, get_or_push, get_or_read, length_push}
use Rattle.std.proofs.lemmas.Nat.{div-mul-add, mod-mul-add, mul-le, row_fits}
use Rattle.mt_fold.specs.declared.shape.Shape.{Shape}
use Rattle.mt_fold.specs.declared.shape.Shape.TheVariants.{C1, C2, C3, C4, C5, C6}
use Rattle.mt_fold.specs.Shapes.{price_of}
use Rattle.mt_cover.specs.Steps.{ArePrices, cost_of}
use Rattle.mt_cover.proofs.Starts.{nothing_is_free}

-- fewer columns have an earlier place
pub earlier : (width numbers texts fewer_numbers fewer_texts : ℕ) → texts < width → fewer_numbers ≤ numbers → fewer_texts ≤ texts → fewer_numbers + fewer_texts < numbers + texts
    → fewer_numbers * width + fewer_texts < numbers * width + texts
earlier width numbers texts fewer_numbers fewer_texts within number text fewer = elim (cases_lt fewer_numbers numbers) [
  | inl less ↦ let row = row_fits fewer_numbers width numbers width less (omega arith) in omega arith
  | inr same ↦ let row = mul-le fewer_numbers width numbers width number (omega arith) in omega arith
]

-- what stands at the place of so many
pub price_read : (width numbers texts : ℕ) (prices : List ℕ) (read : ℕ) → ArePrices width prices → texts < width → numbers * width + texts < length prices
    → read ≡ get_or prices (numbers * width + texts) read → read ≡ cost_of numbers texts
price_read width numbers texts prices read are within known is =
    get_or_read prices (numbers * width + texts) read known is 0
    ∙ are (numbers * width + texts) known
    ∙ ap₂ cost_of (div-mul-add numbers width texts within) (mod-mul-add numbers width texts within)

pub price_below : (shape : Shape) → price_of shape < 614
price_below C1 = omega arith
price_below C2 = omega arith
price_below C3 = omega arith
price_below C4 = omega arith
price_below C5 = omega arith
price_below C6 = omega arith

-- the first price is that of nothing
pub free_of_cost : (width : ℕ) → 0 < width → ArePrices width (0 ∷ [])
free_of_cost width some zero below =
    let row : 0 / width ≡ 0 = omega arith in
    let column : 0 % width ≡ 0 = omega arith in
    sym (ap₂ cost_of row column ∙ nothing_is_free)
free_of_cost width some (suc place) below = absurd (omega arith)

-- one more price
pub ArePrices-push : (width : ℕ) (prices : List ℕ) (cost : ℕ) → ArePrices width prices → cost ≡ cost_of (length prices / width) (length prices % width) → ArePrices width (prices ++ cost ∷ [])
ArePrices-push width prices cost are is place below = elim (cases_lt place (length prices)) [
  | inl before ↦ get_or_append_left prices (cost ∷ []) 0 place before ∙ are place before
  | inr last ↦
      let long = length_push prices cost in
      let here : length prices ≡ place = omega arith in
      get_or_push prices cost 0 place here ∙ is ∙ ap (λ at. cost_of (at / width) (at % width)) here
]
