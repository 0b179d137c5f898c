-- The line has one tag and text, and the text one reading.
use Rattle.mt_model.proofs.OneRequest.{IsRequest-determined}
use Rattle.mt_model.proofs.laws.each_line_says_one_thing.Goals as goal

pub returns : goal.returns
returns c = IsRequest-determined c.statements_are_determined.ensures c.commands_are_determined.ensures
