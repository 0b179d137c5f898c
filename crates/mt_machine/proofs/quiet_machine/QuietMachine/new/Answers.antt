use Rattle.std.proofs.Common.{◌∙◌}
use Rattle.mt_machine.proofs.Blank.{disk_of-blank}
use Rattle.mt_machine.proofs.quiet_machine.QuietMachine.new.Goals as goal

pub returns-clause-content : goal.returns-clause-content
returns-clause-content c = c.new-3.ensures.content ∙ disk_of-blank c.new.result c.new-2.result c.new.ensures c.new-2.ensures
