use Rattle.std.proofs.Common.{length}
use Rattle.mt_private.proofs.fit.+has_long_text.Given as goal

abbrev pub decreases-has_long_text : goal.decreases-has_long_text
decreases-has_long_text l = length l.columns.now
