use Rattle.std.proofs.Common.{◌*◌, ◌≤◌, length, All}
use Rattle.mt_physplan.specs.declared.change.Change.{Change}
use Rattle.mt_staging.specs.Group.{IsAsked}
use Rattle.mt_staging.specs.States.{group_of}
use Rattle.mt_staging.proofs.tests.staged.Given as goal

abbrev pub invariant-loop-i : goal.invariant-loop-i
invariant-loop-i l = record {
  asked : All (λ (change : Change). IsAsked change (group_of l.group).places) l.changes;
  few : length (group_of l.group).ranges ≤ 3 * l.i;
}
