-- By the places row by row.
use Rattle.std.proofs.Common.{◌≡◌, ◌+◌, ◌/◌, ◌%◌, [], ◌∷◌, ◌++◌, List, ℕ, length, refl, sym, subst, ap, ap₂, ◌∙◌, arith}
use Rattle.std.proofs.lemmas.List.{length_push}
use Rattle.mt_cover.specs.Steps.{ArePrices, cost_of}
use Rattle.mt_cover.proofs.Places.{ArePrices-push, free_of_cost}
use Rattle.mt_cover.proofs.prices.Prices.up_to.Goals as goal

pub loop-place-init : goal.loop-place-init
loop-place-init c =
    let items : c.push.new.self.items ≡ 0 ∷ [] = c.in_ok-push.ensures.items ∙ ap (λ (list : List ℕ). list ++ 0 ∷ []) c.in_ok-prices.ensures.items in
    record { wide = refl; long = ap length items; priced = subst (ArePrices (c.args.most.texts + 1)) (sym items) (free_of_cost (c.args.most.texts + 1) (omega arith)) }

pub loop-place-preserved : goal.loop-place-preserved
loop-place-preserved c =
    let table = c.loop-place.table in
    let long = c.loop-place.invariant.long in
    let wide = c.loop-place.invariant.wide in
    let price = c.start_of-start.result.price in
    let items = c.in_ok-push-2.ensures.items in
    let cost : price ≡ cost_of (length table.prices.items / table.width) (length table.prices.items % table.width) = c.start_of-start.ensures.price ∙ ap₂ (λ at width. cost_of (at / width) (at % width)) (sym long) (sym wide) in
    record {
      wide = wide;
      long = ap length items ∙ length_push table.prices.items price ∙ ap (λ at. at + 1) long;
      priced = subst (ArePrices table.width) (sym items) (ArePrices-push table.width table.prices.items price c.loop-place.invariant.priced cost);
    }
