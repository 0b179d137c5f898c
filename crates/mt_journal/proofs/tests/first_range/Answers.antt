use Rattle.std.proofs.Common.{◌≡◌, ℕ, ◌+◌, ◌<◌, ◌≤◌, ◌^◌, List, [], ◌∷◌, sym, subst, arith}
use Rattle.mt_machine.specs.declared.machine.Area.TheVariants.{Log}
use Rattle.mt_machine.specs.Meaning.{Disk}
use Rattle.mt_journal.specs.Layout.{Area, Range, IsRangeAt, AreRangesAt, range_size}
use Rattle.mt_journal.proofs.Chains.{ranges_end}
use Rattle.mt_journal.proofs.tests.first_range.Goals as goal

-- where ranges take some room, the first of them stands at their start
first_stands : (log : Area) (at : ℕ) (ranges : List Range) (end : ℕ) → AreRangesAt log at ranges end → at < end → (range : Range) × IsRangeAt log at range × (at + range_size range ≤ end)
first_stands log at [] end stand room = absurd (omega (arith, stand, room))
first_stands log at (range ∷ ranges) end stand room = (range, stand.0, ranges_end log (at + range_size range) ranges end stand.1)

pub next_range-requires-clause-range : goal.next_range-requires-clause-range
next_range-requires-clause-range g c t =
    let found = rw c.in-Some.is at c.in_ok-group.ensures.found in
    let bounds = rw c.in-Some.is at c.in_ok-group.ensures.bounds in
    let payload = found t in
    let place : c.args.at + 13 ≡ c.in-Some.group.at + 4 = omega (arith, bounds.0) in
    let room : c.in-Some.group.at + 4 < payload.end = omega (arith, payload.size, c.if-group-ge16.true) in
    let within : payload.end < 2 ^ 42 = omega (arith, payload.size, bounds.2) in
    let old = (g.M.Machine.meaning c.args.m.now).content Log in
    let first = first_stands old (c.in-Some.group.at + 4) payload.ranges payload.end (subst (λ (n : ℕ). AreRangesAt old n payload.ranges payload.end) place payload.stands.payload) room in
    let stands = subst (λ (d : Disk). IsRangeAt (d Log) (c.in-Some.group.at + 4) first.0) (sym (c.next_group.ensures.looks.content t)) first.1 in
    (first.0, stands, omega (arith, first.2, within))
