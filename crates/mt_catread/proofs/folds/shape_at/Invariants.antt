-- What is left decides.
use Rattle.std.proofs.Common.{◌≡◌, length}
use Rattle.mt_catalog.specs.Found.{shape_found}
use Rattle.mt_catread.proofs.folds.shape_at.Given as goal

abbrev pub invariant-loop-first : goal.invariant-loop-first
invariant-loop-first l = shape_found l.rest l.chunk ≡ shape_found l.fn.fields l.chunk

abbrev pub decreases-loop-first : goal.decreases-loop-first
decreases-loop-first l = length l.rest
