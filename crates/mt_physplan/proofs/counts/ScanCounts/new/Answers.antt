-- An array of zeros counts nothing.
use Rattle.mt_physplan.proofs.Counted.{none_counted}
use Rattle.mt_physplan.proofs.counts.ScanCounts.new.Goals as goal

pub returns : goal.returns
returns c = none_counted 32
