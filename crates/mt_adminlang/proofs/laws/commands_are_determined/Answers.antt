-- A reading is what reading from the left gives, and that is one.
use Rattle.mt_reader.specs.Descent.{ended}
use Rattle.mt_reader.proofs.Texts.{reads_unique}
use Rattle.mt_adminlang.specs.Command.{SpellsCommand}
use Rattle.mt_adminlang.specs.Descent.{command_of}
use Rattle.mt_adminlang.proofs.Explained.{whole_complete}
use Rattle.mt_adminlang.proofs.laws.commands_are_determined.Goals as goal

pub returns : goal.returns
returns c = reads_unique SpellsCommand (λ lexemes. ended (command_of lexemes)) whole_complete
