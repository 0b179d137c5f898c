-- Each level is printed as its tokens at its place.
use Rattle.std.proofs.Common.{arith}
use Rattle.std.proofs.lemmas.Grind.{common_steps}
use Rattle.mt_show.specs.Spaced.{spaced}
use Rattle.mt_lexer.specs.Tokens.{Sign}
use Rattle.mt_lexer.specs.declared.token.Symbol.TheVariants as symbol
use Rattle.mt_show.specs.declared.place.Place.TheVariants.{Inner}
use Rattle.mt_show.specs.Shown.{expr_places}
use Rattle.mt_show.specs.Printing.{placed}
use Rattle.mt_show.proofs.PrintSteps.{member_printed, term_printed}
use Rattle.mt_show.proofs.PrintLevels.{atom_placed, sum_placed, product_placed}
use Rattle.mt_show.proofs.terms.+expression.Goals as goal

pub expression-returns-in-Atom : goal.expression-returns-in-Atom
expression-returns-in-Atom t c = rw (c.in-Atom.is, atom_placed c.args.place c.in-Atom.atom) c.print.ensures

pub expression-returns-in_ok-sum-in-Sum : goal.expression-returns-in_ok-sum-in-Sum
unfolding spaced
expression-returns-in_ok-sum-in-Sum t c = rw (c.in-Sum.is, sum_placed c.args.place c.in-Sum.terms) (grind (arith, common_steps))

pub expression-returns-in_ok-product-in-Product : goal.expression-returns-in_ok-product-in-Product
unfolding spaced
expression-returns-in_ok-product-in-Product t c = rw (c.in-Product.is, product_placed c.args.place c.in-Product.members) (grind (arith, common_steps))

pub product-loop-index-preserved : goal.product-loop-index-preserved
product-loop-index-preserved t c =
    member_printed (λ member. placed Inner (expr_places member)) (Sign symbol.Star) c.args.members.now c.loop-index.index c.index-members-index.result _ _ _ _ c.loop-index-test.true c.index-members-index.is c.loop-index.invariant c.in_ok-symbol_between.ensures c.in_ok-expression.ensures

pub sum-loop-index-preserved : goal.sum-loop-index-preserved
sum-loop-index-preserved t c =
    let sign = rw c.sign.ensures at c.in_ok-symbol_between.ensures in
    term_printed (λ term. (term.minus, expr_places term.expr)) c.args.terms.now c.loop-index.index c.index-terms-index.result _ _ _ _ c.loop-index-test.true c.index-terms-index.is c.loop-index.invariant sign c.in_ok-expression.ensures
