-- No more slots are free than there are.
use Rattle.std.proofs.Common.{arith}
use Rattle.mt_chunkstore.proofs.InUse.{free_few, slots_few}
use Rattle.mt_chunkstore.proofs.survey.used_slots.Goals as goal

pub overflow_sub-result : goal.overflow_sub-result
overflow_sub-result c =
    let few = free_few c.args.layout.now c.args.page.now in
    omega (arith, few, c.slots_per_page.ensures, c.free_slots.ensures)

pub returns-clause-few : goal.returns-clause-few
returns-clause-few c =
    let few = slots_few c.args.layout.now in
    omega (arith, few, c.slots_per_page.ensures)
