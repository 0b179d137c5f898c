-- Each step prints something.
use Rattle.mt_model.specs.Prints.{service_prints, first_path_prints}
use Rattle.mt_model.proofs.laws.each_reply_prints_something.Goals as goal

pub returns-clause-service : goal.returns-clause-service
returns-clause-service c = service_prints

pub returns-clause-first_path : goal.returns-clause-first_path
returns-clause-first_path c = first_path_prints
