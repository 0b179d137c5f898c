-- A front that is spelled so is what reading from the left gives, and that is one.
use Rattle.mt_reader.specs.Fronts.{AtEnd}
use Rattle.mt_reader.proofs.Fronts.{front_unique}
use Rattle.mt_statements.specs.Change.{SpellsChange}
use Rattle.mt_statements.specs.ChangeDescent.{change_of}
use Rattle.mt_statements.proofs.Changes.{change_follows}
use Rattle.mt_statements.proofs.laws.changes_are_determined.Goals as goal

pub returns : goal.returns
returns c = front_unique SpellsChange change_of AtEnd change_follows
