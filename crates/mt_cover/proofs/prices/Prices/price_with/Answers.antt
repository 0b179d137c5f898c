-- By the cost of what is left.
use Rattle.std.proofs.Common.{◌+◌, ap₂, ◌∙◌, arith}
use Rattle.mt_cover.specs.Steps.{cost_of}
use Rattle.mt_cover.proofs.Places.{earlier, price_below}
use Rattle.mt_cover.proofs.Starts.{cost_bound}
use Rattle.mt_cover.proofs.prices.Prices.price_with.Goals as goal

pub cost-requires-clause-known : goal.cost-requires-clause-known
cost-requires-clause-known c =
    let all = c.args.wanted in
    let rest = c.after-rest.result in
    let fewer = c.is_fewer_than.ensures.0 c.if-is_fewer_than.true in
    let before = earlier c.args.self.now.width all.numbers all.texts rest.numbers rest.texts c.requires.width (omega arith) (omega arith) fewer in
    omega arith

pub overflow_add-result : goal.overflow_add-result
overflow_add-result c =
    let most = cost_bound c.after-rest.result.numbers c.after-rest.result.texts in
    let dear = price_below c.args.shape in
    omega arith

pub returns-then-is_fewer_than-clause-of_use : goal.returns-then-is_fewer_than-clause-of_use
returns-then-is_fewer_than-clause-of_use c = λ of_use. ap₂ (◌+◌) c.price.ensures (c.cost.ensures ∙ ap₂ cost_of c.after-rest.ensures.numbers c.after-rest.ensures.texts)
