-- The count of all lists is below 2^64, and so is that of the first.
use Rattle.std.proofs.Common.{ap, length, arith}
use Rattle.mt_private.specs.Seen.{list_at}
use Rattle.mt_private.proofs.Counted.{sum_more, sum_within}
use Rattle.mt_private.proofs.command.count_kept.Goals as goal

pub overflow_add-kept : goal.overflow_add-kept
overflow_add-kept c =
    let within = sum_within (λ base. length (list_at c.args.lists.now base)) c.loop-base.base c.args.count c.loop-base-test.true in
    let size = ap length c.rows_at.ensures in
    omega (arith, within, size, c.loop-base.invariant, c.requires)

pub loop-base-preserved : goal.loop-base-preserved
loop-base-preserved c =
    let more = sum_more (λ base. length (list_at c.args.lists.now base)) c.loop-base.base in
    let size = ap length c.rows_at.ensures in
    omega (arith, more, size, c.loop-base.invariant)
