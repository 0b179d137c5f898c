use Rattle.mt_journal.proofs.Walks.{told_payload, group_places}
use Rattle.mt_journal.proofs.recovery.replay_group.Goals as goal

pub returns-in_err-replay_ranges-clause-places : goal.returns-in_err-replay_ranges-clause-places
returns-in_err-replay_ranges-clause-places g c ranges end told =
    let found = rw c.in-Some.is at c.in_ok-group.ensures.found in
    let bounds = rw c.in-Some.is at c.in_ok-group.ensures.bounds in
    let payload = told_payload _ _ (g.M.Machine.meaning c.replay_ranges.new.m) c.args.at end c.in-Some.group ranges c.next_group.ensures.looks bounds.0 found told in
    group_places _ _ _ c.args.at end c.in-Some.group ranges c.next_group.ensures.looks bounds.0 found told c.replay_ranges.ensures.quiet (c.replay_ranges.ensures.places ranges payload)

pub returns-clause-places : goal.returns-clause-places
returns-clause-places g c ranges end told =
    let found = rw c.in-Some.is at c.in_ok-group.ensures.found in
    let bounds = rw c.in-Some.is at c.in_ok-group.ensures.bounds in
    let payload = told_payload _ _ (g.M.Machine.meaning c.replay_ranges.new.m) c.args.at end c.in-Some.group ranges c.next_group.ensures.looks bounds.0 found told in
    group_places _ _ _ c.args.at end c.in-Some.group ranges c.next_group.ensures.looks bounds.0 found told c.replay_ranges.ensures.quiet (c.replay_ranges.ensures.places ranges payload)
