use Rattle.std.proofs.Common.{arith}
use Rattle.mt_journal.proofs.Heads.{head_stands}
use Rattle.mt_journal.proofs.group.range_within.Goals as goal

pub returns-clause-found : goal.returns-clause-found
returns-clause-found g c t =
    let bounds = c.in_ok-range.ensures.bounds in
    head_stands _ c.args.at c.in_ok-range.range (c.in_ok-range.ensures.found t) bounds.0 bounds.1 (omega arith)
