-- A front that is spelled so is what reading from the left gives, and that is one.
use Rattle.mt_reader.specs.Fronts.{AtEnd}
use Rattle.mt_reader.proofs.Fronts.{front_unique}
use Rattle.mt_statements.specs.QueryDescent.{select_of}
use Rattle.mt_statements.specs.Query.{SpellsSelect}
use Rattle.mt_statements.proofs.Selects.{select_follows}
use Rattle.mt_statements.proofs.laws.selects_are_determined.Goals as goal

pub returns : goal.returns
returns c = front_unique SpellsSelect select_of AtEnd select_follows
