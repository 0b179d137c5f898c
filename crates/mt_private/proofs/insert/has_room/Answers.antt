-- What is left covers each list, since all of them are within the quota.
use Rattle.std.proofs.Common.{ap, length, arith}
use Rattle.mt_private.specs.Seen.{list_at}
use Rattle.mt_private.proofs.Counted.{sum_more, sum_within}
use Rattle.mt_private.proofs.insert.has_room.Goals as goal

pub overflow_sub-left : goal.overflow_sub-left
overflow_sub-left c =
    let within = sum_within (λ base. length (list_at c.args.lists.now base)) c.loop-base.base c.args.count c.loop-base-test.true in
    let size = ap length c.rows_at.ensures in
    omega (arith, within, size, c.loop-base.invariant, c.requires)

pub loop-base-preserved : goal.loop-base-preserved
loop-base-preserved c =
    let within = sum_within (λ base. length (list_at c.args.lists.now base)) c.loop-base.base c.args.count c.loop-base-test.true in
    let more = sum_more (λ base. length (list_at c.args.lists.now base)) c.loop-base.base in
    let size = ap length c.rows_at.ensures in
    omega (arith, within, more, size, c.loop-base.invariant, c.requires)
