use Rattle.mt_reader.specs.Descent.{ended}
use Rattle.mt_reader.proofs.Decided.{text_gives}
use Rattle.mt_adminlang.specs.Command.{SpellsCommand}
use Rattle.mt_adminlang.specs.Descent.{command_of}
use Rattle.mt_adminlang.specs.Inside.{IsCommandInside}
use Rattle.mt_adminlang.proofs.Explained.{whole_sound, whole_complete}
use Rattle.mt_adminlang.proofs.Insides.{command_or_not}
use Rattle.mt_adminlang.proofs.laws.each_command_text_gives_something.Goals as goal

pub returns : goal.returns
returns c = text_gives SpellsCommand IsCommandInside (λ lexemes. ended (command_of lexemes)) whole_sound whole_complete command_or_not
