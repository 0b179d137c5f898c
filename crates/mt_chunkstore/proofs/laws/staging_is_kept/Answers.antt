use Rattle.mt_chunkstore.specs.StandsLaws.{staged_still}
use Rattle.mt_chunkstore.proofs.laws.staging_is_kept.Goals as goal

pub returns : goal.returns
returns g c changes group store old new staged keeps = staged_still staged keeps
