use Rattle.mt_chunkstore.specs.StandsLaws.{emit_keeps, looks_keep, stands_still}
use Rattle.mt_chunkstore.proofs.laws.standing_is_kept.Goals as goal

pub returns-clause-kept : goal.returns-clause-kept
returns-clause-kept g c store old new stands keeps = stands_still stands keeps

pub returns-clause-looks : goal.returns-clause-looks
returns-clause-looks g c old new looks = looks_keep looks

pub returns-clause-emit : goal.returns-clause-emit
returns-clause-emit g c old new answer bytes call = emit_keeps call
