-- It takes a token at least.
use Rattle.mt_reader.proofs.Fronts.{took_shrinks}
use Rattle.mt_terms.specs.Descent.{cond_of}
use Rattle.mt_terms.specs.Inside.{IsCondInside}
use Rattle.mt_terms.proofs.Conditions.{cond_shrinks}
use Rattle.mt_terms.proofs.form.ConditionFormProduction.take.Goals as goal

pub returns-clause-shrinks : goal.returns-clause-shrinks
returns-clause-shrinks c = took_shrinks IsCondInside cond_of cond_shrinks c.condition.result c.args.reader.now c.condition.new.reader c.condition.ensures
