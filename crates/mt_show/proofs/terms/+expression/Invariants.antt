-- The first members are printed.
use Rattle.std.proofs.Common.{◌≡◌, ◌++◌, take, map}
use Rattle.mt_lexer.specs.Tokens.{Sign}
use Rattle.mt_lexer.specs.declared.token.Symbol.TheVariants.{Star}
use Rattle.mt_show.specs.Spaced.{spaced}
use Rattle.mt_show.specs.declared.place.Place.TheVariants.{Inner}
use Rattle.mt_show.specs.Shown.{between, sum_tokens, expr_places}
use Rattle.mt_show.specs.Printing.{placed}
use Rattle.mt_show.proofs.terms.+expression.Given as goal

abbrev pub invariant-product-loop-index : goal.invariant-product-loop-index
invariant-product-loop-index l = l.printer ≡ l.fn.printer ++ spaced (between (Sign Star) (map (λ member. placed Inner (expr_places member)) (take l.index l.members)))

abbrev pub invariant-sum-loop-index : goal.invariant-sum-loop-index
invariant-sum-loop-index l = l.printer ≡ l.fn.printer ++ spaced (sum_tokens (map (λ term. (term.minus, expr_places term.expr)) (take l.index l.terms)))
