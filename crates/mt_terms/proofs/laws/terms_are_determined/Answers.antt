-- A front that is spelled so is what reading from the left gives, and that is one.
use Rattle.mt_reader.specs.Fronts.{BeginsWithNone}
use Rattle.mt_reader.proofs.Fronts.{front_unique}
use Rattle.mt_terms.specs.Condition.{SpellsCond}
use Rattle.mt_terms.specs.Expression.{SpellsExpr}
use Rattle.mt_terms.specs.Descent.{expr_of, cond_of}
use Rattle.mt_terms.specs.Follow.{expr_goes_on, cond_goes_on}
use Rattle.mt_terms.proofs.Follow.{expr_follows, cond_follows}
use Rattle.mt_terms.proofs.laws.terms_are_determined.Goals as goal

pub returns-clause-expression : goal.returns-clause-expression
returns-clause-expression c = front_unique SpellsExpr expr_of (BeginsWithNone expr_goes_on) expr_follows

pub returns-clause-condition : goal.returns-clause-condition
returns-clause-condition c = front_unique SpellsCond cond_of (BeginsWithNone cond_goes_on) cond_follows
