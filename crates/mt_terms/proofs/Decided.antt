-- Each number of an expression or a condition is inside 64 bits, or one is not.
use Rattle.mt_tree.specs.declared.expression.Cond.{Cond}
use Rattle.mt_tree.specs.declared.expression.Expr.{Expr}
use Rattle.mt_reader.specs.Literals.{IsLiteralInside}
use Rattle.mt_reader.proofs.Decided.{OrNot, all_or_not, literal_or_not}
use Rattle.mt_terms.specs.Inside.{expr_literals, cond_literals, IsExprInside, IsCondInside}

-- those of an expression
pub expr_or_not : (e : Expr) → OrNot (IsExprInside e)
expr_or_not e = all_or_not IsLiteralInside literal_or_not (expr_literals e)

-- those of a condition
pub cond_or_not : (c : Cond) → OrNot (IsCondInside c)
cond_or_not c = all_or_not IsLiteralInside literal_or_not (cond_literals c)
