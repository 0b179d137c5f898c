-- By the orders of prices and of tables.
use Rattle.mt_fold.proofs.Determined.{covers_determined}
use Rattle.mt_fold.proofs.laws.covers_are_determined.Goals as goal

pub returns : goal.returns
returns c = covers_determined
