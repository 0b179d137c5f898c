use Rattle.std.proofs.Common.{length}
use Rattle.mt_private.proofs.fit.+has_same_key.Given as goal

abbrev pub decreases-has_same_key : goal.decreases-has_same_key
decreases-has_same_key l = length l.columns.now
