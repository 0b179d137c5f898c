use Rattle.std.proofs.Common.{take, All}
use Rattle.mt_directory.specs.Known.{known_in}
use Rattle.mt_places.specs.Held.{state_of}
use Rattle.mt_staging.specs.Group.{IsAsked}
use Rattle.mt_staging.specs.States.{group_of}
use Rattle.mt_chunkstore.specs.Walked.{IsChosen}
use Rattle.mt_chunkstore.proofs.stage.choose.Given as goal

-- the group is that of the changes so far
abbrev pub invariant-loop-i : goal.invariant-loop-i
invariant-loop-i l = record {
  asked : All (λ change. IsAsked change (group_of l.group).places) l.changes;
  chosen : IsChosen (known_in l.layouts) (take l.i l.changes) l.pages (state_of l.fn.places) (group_of l.group);
}
