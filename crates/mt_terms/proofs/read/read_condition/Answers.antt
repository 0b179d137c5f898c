-- What reads is a front that is spelled so.
use Rattle.mt_reader.specs.Fronts.{BeginsWithNone}
use Rattle.mt_reader.proofs.Fronts.{takes_front_inside}
use Rattle.mt_terms.specs.Condition.{SpellsCond}
use Rattle.mt_terms.specs.Descent.{cond_of}
use Rattle.mt_terms.specs.Follow.{cond_goes_on}
use Rattle.mt_terms.specs.Inside.{IsCondInside}
use Rattle.mt_terms.proofs.Conditions.{cond_sound}
use Rattle.mt_terms.proofs.Follow.{cond_follows}
use Rattle.mt_terms.proofs.read.read_condition.Goals as goal

pub returns-clause-spelled : goal.returns-clause-spelled
returns-clause-spelled c = takes_front_inside SpellsCond cond_of (BeginsWithNone cond_goes_on) cond_follows cond_sound IsCondInside c.condition.result c.args.reader.now c.condition.new.reader c.condition.ensures
