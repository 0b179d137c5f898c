-- What reads is a front that is spelled so.
use Rattle.mt_reader.specs.Fronts.{AtEnd}
use Rattle.mt_reader.proofs.Fronts.{takes_front_inside}
use Rattle.mt_statements.specs.QueryDescent.{select_of}
use Rattle.mt_statements.specs.QueryInside.{IsSelectInside}
use Rattle.mt_statements.specs.Query.{SpellsSelect}
use Rattle.mt_statements.proofs.Selects.{select_sound, select_follows}
use Rattle.mt_statements.proofs.query.read_select.Goals as goal

pub returns-clause-spelled : goal.returns-clause-spelled
returns-clause-spelled c = takes_front_inside SpellsSelect select_of AtEnd select_follows select_sound IsSelectInside c.select.result c.args.reader.now c.select.new.reader c.select.ensures
