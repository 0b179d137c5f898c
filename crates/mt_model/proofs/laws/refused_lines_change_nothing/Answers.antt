-- A refused statement puts back the database that is there, and no step is answered for want of memory.
use Rattle.mt_model.proofs.Replies.{line-forgone}
use Rattle.mt_model.proofs.Unchanged.{line-refused}
use Rattle.mt_model.proofs.laws.refused_lines_change_nothing.Goals as goal

pub returns-clause-refused : goal.returns-clause-refused
returns-clause-refused c = line-refused

pub returns-clause-forgone : goal.returns-clause-forgone
returns-clause-forgone c = line-forgone
