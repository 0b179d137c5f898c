use Rattle.mt_journal.proofs.Placing.{places_copied, placed_copied}
use Rattle.mt_journal.proofs.recovery.replay_range.Goals as goal

pub returns-in_err-copy-clause-places : goal.returns-in_err-copy-clause-places
returns-in_err-copy-clause-places g c range told =
    let found = rw c.in-Some.is at c.in_ok-range.ensures.found in
    places_copied _ _ _ c.args.at c.args.end c.in-Some.range range c.range_within.ensures.looks found told c.copy.ensures.changes

pub returns-clause-places : goal.returns-clause-places
returns-clause-places g c range told =
    let found = rw c.in-Some.is at c.in_ok-range.ensures.found in
    places_copied _ _ _ c.args.at c.args.end c.in-Some.range range c.range_within.ensures.looks found told c.copy.ensures.changes

pub returns-clause-placed : goal.returns-clause-placed
returns-clause-placed g c range told =
    let found = rw c.in-Some.is at c.in_ok-range.ensures.found in
    placed_copied _ _ _ c.args.at c.args.end c.in-Some.range range c.range_within.ensures.looks found told c.copy.ensures.changes c.in_ok-copy.ensures.copied
