use Rattle.std.proofs.Common.{◌≤◌, All, arith}
use Rattle.mt_physplan.specs.declared.change.Change.{Change}
use Rattle.mt_places.specs.Named.{table_of}
use Rattle.mt_staging.specs.Group.{IsAsked, Suits}
use Rattle.mt_staging.specs.States.{group_of}
use Rattle.mt_staging.proofs.Asked.{all_at}
use Rattle.mt_staging.proofs.tests.staged.Goals as goal

pub add-requires-clause-suits : goal.add-requires-clause-suits
add-requires-clause-suits c = all_at (Suits c.args.layout.now) c.args.changes.now c.loop-i.i c.get.result.now c.requires.suit c.get.ensures

pub add-requires-clause-table : goal.add-requires-clause-table
add-requires-clause-table c = all_at (λ (change : Change). table_of change ≤ 31) c.args.changes.now c.loop-i.i c.get.result.now c.requires.tables c.get.ensures

pub add-requires-clause-asked : goal.add-requires-clause-asked
add-requires-clause-asked c = all_at (λ (change : Change). IsAsked change (group_of c.loop-i.group).places) c.args.changes.now c.loop-i.i c.get.result.now c.loop-i.invariant.asked c.get.ensures

-- what is asked for stays so, and a change adds three ranges at most
pub loop-i-preserved : goal.loop-i-preserved
loop-i-preserved c = record {
  asked = λ k d within. c.in_ok-add.ensures.asked _ (c.loop-i.invariant.asked k d within);
  few = (let grown = c.in_ok-add.ensures.few in let so_far = c.loop-i.invariant.few in omega arith);
}
