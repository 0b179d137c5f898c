use Rattle.mt_journal.specs.StandsLaws.{stands_after_looks, stands_after_emit, stands_keeps, keeps_stands}
use Rattle.mt_journal.proofs.laws.standing_is_kept.Goals as goal

pub returns-clause-looks : goal.returns-clause-looks
returns-clause-looks g c tail old new stands looks = stands_after_looks stands looks

pub returns-clause-emit : goal.returns-clause-emit
returns-clause-emit g c tail old new result bytes stands call = stands_after_emit stands call

pub returns-clause-keeps : goal.returns-clause-keeps
returns-clause-keeps g c tail machine stands = stands_keeps (g.met.M.Machine.moments_told machine) stands

pub returns-clause-stands : goal.returns-clause-stands
returns-clause-stands g c tail machine keeps = keeps_stands keeps
