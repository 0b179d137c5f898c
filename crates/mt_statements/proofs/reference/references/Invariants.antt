-- Each iteration takes one of the room.
use Rattle.mt_statements.specs.QueryDescent.{refs_of}
use Rattle.mt_statements.proofs.Refs.{RefsSoFar}
use Rattle.mt_statements.proofs.reference.references.Given as goal

abbrev pub invariant-loop-refs : goal.invariant-loop-refs
invariant-loop-refs l = RefsSoFar (refs_of l.fn.reader) l.reader l.room l.refs

abbrev pub decreases-loop-refs : goal.decreases-loop-refs
decreases-loop-refs l = l.room
