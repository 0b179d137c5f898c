-- It takes a token at least.
use Rattle.mt_reader.proofs.Fronts.{took_shrinks}
use Rattle.mt_terms.specs.Descent.{expr_of}
use Rattle.mt_terms.specs.Inside.{IsExprInside}
use Rattle.mt_terms.proofs.Expressions.{expr_shrinks}
use Rattle.mt_terms.proofs.form.ExpressionFormProduction.take.Goals as goal

pub returns-clause-shrinks : goal.returns-clause-shrinks
returns-clause-shrinks c = took_shrinks IsExprInside expr_of expr_shrinks c.expression.result c.args.reader.now c.expression.new.reader c.expression.ensures
