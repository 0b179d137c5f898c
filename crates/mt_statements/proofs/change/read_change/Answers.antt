-- What reads is a front that is spelled so.
use Rattle.mt_reader.specs.Fronts.{AtEnd}
use Rattle.mt_reader.proofs.Fronts.{takes_front_inside}
use Rattle.mt_statements.specs.Change.{SpellsChange}
use Rattle.mt_statements.specs.ChangeDescent.{change_of}
use Rattle.mt_statements.specs.ChangeInside.{IsChangeInside}
use Rattle.mt_statements.proofs.Changes.{change_sound, change_follows}
use Rattle.mt_statements.proofs.change.read_change.Goals as goal

pub returns-clause-spelled : goal.returns-clause-spelled
returns-clause-spelled c = takes_front_inside SpellsChange change_of AtEnd change_follows change_sound IsChangeInside c.change.result c.args.reader.now c.change.new.reader c.change.ensures
