use Rattle.std.proofs.Common.{arith}
use Rattle.mt_journal.proofs.Chains.{group_end}
use Rattle.mt_machine.specs.LeavesLaws.{looks_itself}
use Rattle.mt_journal.proofs.group.payload_behind.Goals as goal
use Rattle.mt_journal.proofs.group.payload_behind.Goals.{then-length-lt4-via-then-length-lt4, then-length-lt4-via-else-length-lt4+then-length-at}

pub returns-then-at-lt14-clause-found : goal.returns-then-at-lt14-clause-found
returns-then-at-lt14-clause-found g c t ranges end group =
    let last = group_end _ _ _ _ group in
    let within = group.within in
    omega (arith, last, within)

pub returns-then-at-lt14-clause-looks : goal.returns-then-at-lt14-clause-looks
returns-then-at-lt14-clause-looks g c = looks_itself (g.M.Machine.meaning c.args.m.now) (g.met.M.Machine.moments_told c.args.m.now) (λ t image out. g.met.M.Machine.only_now c.args.m.now image out t)

pub returns-then-length-lt4-clause-found : goal.returns-then-length-lt4-clause-found
returns-then-length-lt4-clause-found g c t ranges end group =
    let last = group_end _ _ _ _ group in
    let within = group.within in
    let size = group.size in
    let length = c.in_ok-length.ensures.found t in
    elim c.then-length-lt4.branch [
      | then-length-lt4-via-then-length-lt4 w ↦ omega (arith, last, within, size, length)
      | then-length-lt4-via-else-length-lt4+then-length-at w ↦ omega (arith, last, within, size, length)
    ]
