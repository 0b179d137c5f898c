-- The columns so far, and those that are left, are all; each iteration takes one.
use Rattle.std.proofs.Common.{length}
use Rattle.mt_adminlang.specs.Descent.{body_of}
use Rattle.mt_adminlang.proofs.Loops.{ColumnsSoFar}
use Rattle.mt_adminlang.proofs.create.body.Given as goal

abbrev pub invariant-loop-columns : goal.invariant-loop-columns
invariant-loop-columns l = ColumnsSoFar (body_of l.fn.reader) l.reader l.columns

abbrev pub decreases-loop-columns : goal.decreases-loop-columns
decreases-loop-columns l = length l.reader
