-- By what is kept of each tenant.
use Rattle.mt_model.proofs.PartsTold.{databases-told, kept-told, refusals-told}
use Rattle.mt_model.proofs.parts.parts_tell_the_service.Goals as goal

pub returns-clause-databases : goal.returns-clause-databases
returns-clause-databases c = databases-told

pub returns-clause-kept : goal.returns-clause-kept
returns-clause-kept c = kept-told

pub returns-clause-refusals : goal.returns-clause-refusals
returns-clause-refusals c = refusals-told
