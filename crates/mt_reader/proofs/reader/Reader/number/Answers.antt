-- What is taken is a number, and nothing else reads as one.
use Rattle.mt_reader.proofs.reader.Reader.number.Goals as goal

pub returns-in_default-clause-taken : goal.returns-in_default-clause-taken
returns-in_default-clause-taken c = c.in_default.ensures.taken.0
