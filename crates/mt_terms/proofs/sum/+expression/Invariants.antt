-- Each bracket takes one of the depth, and each iteration a lexeme.
use Rattle.std.proofs.Common.{◌+◌, ◌*◌, List, length}
use Rattle.mt_lexer.specs.Tokens.{Lexeme, Sign}
use Rattle.mt_lexer.specs.declared.token.Symbol.TheVariants.{Star}
use Rattle.mt_tree.specs.declared.expression.Expr.TheVariants.{Product}
use Rattle.mt_reader.specs.Taken.{Took}
use Rattle.mt_reader.proofs.Joining.{JoinedSoFar}
use Rattle.mt_terms.specs.Descent.{term_of, terms_of, factor_of}
use Rattle.mt_terms.specs.Inside.{IsExprInside, IsTermInside}
use Rattle.mt_terms.proofs.Expressions.{factor_shrinks}
use Rattle.mt_terms.proofs.Tails.{TermsSoFar}
use Rattle.mt_terms.proofs.sum.+expression.Given as goal

abbrev pub decreases-factor : goal.decreases-factor
decreases-factor l = 8 * l.depth

abbrev pub decreases-product_behind : goal.decreases-product_behind
decreases-product_behind l = 8 * l.depth + 1

abbrev pub decreases-product : goal.decreases-product
decreases-product l = 8 * l.depth + 2

abbrev pub decreases-add_product_behind : goal.decreases-add_product_behind
decreases-add_product_behind l = 8 * l.depth + 2

abbrev pub decreases-add_product : goal.decreases-add_product
decreases-add_product l = 8 * l.depth + 3

abbrev pub decreases-add_term : goal.decreases-add_term
decreases-add_term l = 8 * l.depth + 4

abbrev pub decreases-sum_behind : goal.decreases-sum_behind
decreases-sum_behind l = 8 * l.depth + 5

abbrev pub decreases-sum : goal.decreases-sum
decreases-sum l = 8 * l.depth + 6

abbrev pub decreases-sum_in_brackets : goal.decreases-sum_in_brackets
decreases-sum_in_brackets l = 8 * l.depth + 7

abbrev pub invariant-product_behind-loop-alloc : goal.invariant-product_behind-loop-alloc
invariant-product_behind-loop-alloc l =
    (lexemes : List Lexeme) → Took IsExprInside l.fn.first l.fn.reader (factor_of l.depth lexemes) → JoinedSoFar (factor_of l.depth) (factor_shrinks l.depth) (Sign Star) Product IsExprInside lexemes l.reader l.factors

abbrev pub decreases-product_behind-loop-alloc : goal.decreases-product_behind-loop-alloc
decreases-product_behind-loop-alloc l = length l.reader

abbrev pub invariant-sum_behind-loop-minus : goal.invariant-sum_behind-loop-minus
invariant-sum_behind-loop-minus l =
    (lexemes : List Lexeme) → Took IsExprInside l.fn.first l.fn.reader (term_of (factor_of l.depth) lexemes) → TermsSoFar (term_of (factor_of l.depth)) IsTermInside (terms_of (term_of (factor_of l.depth)) lexemes) l.reader l.terms

abbrev pub decreases-sum_behind-loop-minus : goal.decreases-sum_behind-loop-minus
decreases-sum_behind-loop-minus l = length l.reader
