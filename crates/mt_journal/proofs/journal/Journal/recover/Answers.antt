use Rattle.std.proofs.Common.{refl}
use Rattle.mt_machine.specs.LeavesLaws.{sync_looks, looks_then}
use Rattle.mt_journal.proofs.Recovering.{durable_looks, chain_found, replay_leaves, replay_keeps, close_leaves, close_keeps, close_recovers}
use Rattle.mt_journal.proofs.journal.Journal.recover.Goals as goal

pub returns-in_err-replay-clause-any_moment : goal.returns-in_err-replay-clause-any_moment
returns-in_err-replay-clause-any_moment g c =
    let synced = sync_looks c.sync.ensures.effect in
    let read = looks_then synced c.chain_end.ensures.looks in
    let durable = durable_looks _ _ c.chain_end.ensures.looks c.in_ok-sync.ensures.effect.durable in
    let found = chain_found _ _ _ synced c.chain_end.ensures.looks c.in_ok-end.end c.in_ok-end.ensures.found in
    replay_leaves _ _ _ c.in_ok-end.end read durable found c.replay.ensures.quiet c.replay.ensures.places

pub returns-in_err-close_first-clause-any_moment : goal.returns-in_err-close_first-clause-any_moment
returns-in_err-close_first-clause-any_moment g c =
    let synced = sync_looks c.sync.ensures.effect in
    let read = looks_then synced c.chain_end.ensures.looks in
    let durable = durable_looks _ _ c.chain_end.ensures.looks c.in_ok-sync.ensures.effect.durable in
    let found = chain_found _ _ _ synced c.chain_end.ensures.looks c.in_ok-end.end c.in_ok-end.ensures.found in
    close_leaves _ _ _ c.in_ok-end.end read durable found c.replay.ensures.quiet c.replay.ensures.places _ c.if-end-eq0.false c.in_ok-replay.ensures.placed c.close_first.ensures.leaves

pub returns-clause-any_moment : goal.returns-clause-any_moment
returns-clause-any_moment g c =
    let synced = sync_looks c.sync.ensures.effect in
    let read = looks_then synced c.chain_end.ensures.looks in
    let durable = durable_looks _ _ c.chain_end.ensures.looks c.in_ok-sync.ensures.effect.durable in
    let found = chain_found _ _ _ synced c.chain_end.ensures.looks c.in_ok-end.end c.in_ok-end.ensures.found in
    close_leaves _ _ _ c.in_ok-end.end read durable found c.replay.ensures.quiet c.replay.ensures.places _ c.if-end-eq0.false c.in_ok-replay.ensures.placed c.close_first.ensures.leaves

pub returns-clause-ok : goal.returns-clause-ok
returns-clause-ok g c =
    let synced = sync_looks c.sync.ensures.effect in
    let read = looks_then synced c.chain_end.ensures.looks in
    let durable = durable_looks _ _ c.chain_end.ensures.looks c.in_ok-sync.ensures.effect.durable in
    let found = chain_found _ _ _ synced c.chain_end.ensures.looks c.in_ok-end.end c.in_ok-end.ensures.found in (
      refl,
      close_recovers _ _ _ c.in_ok-end.end read durable found c.replay.ensures.quiet c.replay.ensures.places _ c.if-end-eq0.false c.in_ok-replay.ensures.placed
          c.close_first.ensures.leaves c.in_ok-close_first.ensures.closes,
    )

pub returns-in_err-replay-clause-content : goal.returns-in_err-replay-clause-content
returns-in_err-replay-clause-content g c =
    let synced = sync_looks c.sync.ensures.effect in
    let read = looks_then synced c.chain_end.ensures.looks in
    let durable = durable_looks _ _ c.chain_end.ensures.looks c.in_ok-sync.ensures.effect.durable in
    let found = chain_found _ _ _ synced c.chain_end.ensures.looks c.in_ok-end.end c.in_ok-end.ensures.found in
    replay_keeps _ _ _ c.in_ok-end.end read durable found c.replay.ensures.quiet c.replay.ensures.places

pub returns-in_err-close_first-clause-content : goal.returns-in_err-close_first-clause-content
returns-in_err-close_first-clause-content g c =
    let synced = sync_looks c.sync.ensures.effect in
    let read = looks_then synced c.chain_end.ensures.looks in
    let durable = durable_looks _ _ c.chain_end.ensures.looks c.in_ok-sync.ensures.effect.durable in
    let found = chain_found _ _ _ synced c.chain_end.ensures.looks c.in_ok-end.end c.in_ok-end.ensures.found in
    close_keeps _ _ _ c.in_ok-end.end read durable found c.replay.ensures.quiet c.replay.ensures.places _ c.if-end-eq0.false c.in_ok-replay.ensures.placed
    c.close_first.ensures.leaves c.close_first.ensures.content

pub returns-clause-content : goal.returns-clause-content
returns-clause-content g c =
    let synced = sync_looks c.sync.ensures.effect in
    let read = looks_then synced c.chain_end.ensures.looks in
    let durable = durable_looks _ _ c.chain_end.ensures.looks c.in_ok-sync.ensures.effect.durable in
    let found = chain_found _ _ _ synced c.chain_end.ensures.looks c.in_ok-end.end c.in_ok-end.ensures.found in
    close_keeps _ _ _ c.in_ok-end.end read durable found c.replay.ensures.quiet c.replay.ensures.places _ c.if-end-eq0.false c.in_ok-replay.ensures.placed
    c.close_first.ensures.leaves c.close_first.ensures.content
