use Rattle.std.proofs.Common.{length}
use Rattle.mt_fold.proofs.Uses.{FitBelow}
use Rattle.mt_fold.proofs.validity.fields_fit.Given as goal

abbrev pub invariant-loop-place : goal.invariant-loop-place
invariant-loop-place l = FitBelow l.shapes l.places l.columns (length l.yielded)
