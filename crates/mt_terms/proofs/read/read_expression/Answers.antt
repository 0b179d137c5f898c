-- What reads is a front that is spelled so.
use Rattle.mt_reader.specs.Fronts.{BeginsWithNone}
use Rattle.mt_reader.proofs.Fronts.{takes_front_inside}
use Rattle.mt_terms.specs.Expression.{SpellsExpr}
use Rattle.mt_terms.specs.Descent.{expr_of}
use Rattle.mt_terms.specs.Follow.{expr_goes_on}
use Rattle.mt_terms.specs.Inside.{IsExprInside}
use Rattle.mt_terms.proofs.Expressions.{expr_sound}
use Rattle.mt_terms.proofs.Follow.{expr_follows}
use Rattle.mt_terms.proofs.read.read_expression.Goals as goal

pub returns-clause-spelled : goal.returns-clause-spelled
returns-clause-spelled c = takes_front_inside SpellsExpr expr_of (BeginsWithNone expr_goes_on) expr_follows expr_sound IsExprInside c.expression.result c.args.reader.now c.expression.new.reader c.expression.ensures
