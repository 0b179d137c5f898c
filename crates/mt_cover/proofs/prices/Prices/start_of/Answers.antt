-- By the invariant that the first of the cover is the best so far, or is yet to come.
use Rattle.std.proofs.Common.{◌≡◌, ◌+◌, get_or, sym, subst}
use Rattle.mt_fold.specs.declared.shape.Shape.TheVariants.{C1}
use Rattle.mt_fold.specs.Shapes.{shape_table}
use Rattle.mt_cover.specs.declared.prices.Start.{Start}
use Rattle.mt_cover.proofs.Chosen.{IsBest, IsPriceWith, best_is, best_kept, best_none, best_taken, table_at}
use Rattle.mt_cover.proofs.prices.Prices.start_of.Goals as goal
use Rattle.mt_cover.proofs.prices.Prices.start_of.Goals.{then-price-best, else-price-best}

pub loop-shape-init : goal.loop-shape-init
loop-shape-init c = best_none c.args.wanted.numbers c.args.wanted.texts c.requires.few

pub loop-shape-preserved : goal.loop-shape-preserved
loop-shape-preserved c =
    let numbers = c.args.wanted.numbers in
    let texts = c.args.wanted.texts in
    let passed = c.loop-shape.shape-index in
    let best = c.loop-shape.best in
    let cost = c.price_with-price.result in
    let shapes = c.shapes-shape-items in
    let next = get_or shapes.result passed C1 in
    let at = subst (λ list. shape_table (get_or list passed C1) ≡ passed + 1) (sym shapes.ensures) (table_at passed C1 c.loop-shape-test.true) in
    let with_next : IsPriceWith numbers texts next cost = record { of_use = c.price_with-price.ensures.of_use; no_use = c.price_with-price.ensures.no_use } in
    elim c.if-price-best.branch [
      | then-price-best w ↦
          subst (λ (start : Start). IsBest numbers texts (passed + 1) start.price start.shape) (sym w.best-is)
          (best_taken numbers texts passed cost next c.requires.few at with_next best.price best.shape c.loop-shape.invariant w.if-price-best.true)
      | else-price-best w ↦
          subst (λ (start : Start). IsBest numbers texts (passed + 1) start.price start.shape) (sym w.best-is)
          (best_kept numbers texts passed cost next c.requires.few at with_next best.price best.shape c.loop-shape.invariant w.if-price-best.false)
    ]

pub returns-clause-begins : goal.returns-clause-begins
returns-clause-begins c = (best_is c.args.wanted.numbers c.args.wanted.texts c.loop-shape.shape-index c.loop-shape.best.price c.loop-shape.best.shape c.requires.some c.loop-shape-test.false c.loop-shape.invariant).1

pub returns-clause-price : goal.returns-clause-price
returns-clause-price c = (best_is c.args.wanted.numbers c.args.wanted.texts c.loop-shape.shape-index c.loop-shape.best.price c.loop-shape.best.shape c.requires.some c.loop-shape-test.false c.loop-shape.invariant).0
