use Rattle.std.proofs.Common.{◌≡◌, ℕ, ◌+◌, ◌<◌, ◌^◌, IsTrue, List, length, arith, ap, sym, ◌∙◌, subst}
use Rattle.mt_machine.specs.declared.machine.Area.TheVariants.{Log}
use Rattle.mt_journal.specs.Commits.{StandsFor, Committed, payload_size}
use Rattle.mt_journal.specs.Steps.{IsBehind}
use Rattle.mt_journal.proofs.Committing.{written_leaves, opened_leaves, commit_leaves, commit_commits}
use Rattle.mt_journal.proofs.Spelled.{length-spelling_of}
use Rattle.mt_journal.proofs.journal.Journal.commit.Goals as goal

pub write_behind-requires : goal.write_behind-requires
write_behind-requires g c =
    let spelled = ap length c.payload-payload.ensures.spells in
    let size = length-spelling_of c.args.body.now in
    let tail = c.self.view_is in
    let short = c.requires.short in
    let few = c.requires.size in
    omega (arith, spelled, size, tail, short, few)

pub returns-in_err-write_behind-clause-any_moment : goal.returns-in_err-write_behind-clause-any_moment
returns-in_err-write_behind-clause-any_moment g c =
    let stands = subst (λ (n : ℕ). StandsFor n (g.M.Machine.meaning c.args.m.now)) (sym c.self.view_is) c.requires.stands in
    let first = g.met.M.Machine.content_is_image c.args.m.now in
    written_leaves c.self.inside.tail c.args.body.now _ _ (9 + length c.payload-payload.result.now) stands first c.write_behind.ensures.changes

pub returns-in_err-set_gate-clause-any_moment : goal.returns-in_err-set_gate-clause-any_moment
returns-in_err-set_gate-clause-any_moment g c =
    let stands = subst (λ (n : ℕ). StandsFor n (g.M.Machine.meaning c.args.m.now)) (sym c.self.view_is) c.requires.stands in
    let first = g.met.M.Machine.content_is_image c.args.m.now in
    let within : c.self.inside.tail + 9 + payload_size c.args.body.now < 2 ^ 42 = omega (arith, c.self.view_is, c.requires.short, c.requires.size) in
    let behind = subst (λ (l : List ℕ). IsTrue (g.M.Machine.meaning c.write_behind.new.m).tells → IsBehind ((g.M.Machine.meaning c.write_behind.new.m).content Log) c.self.inside.tail l) c.payload-payload.ensures.spells c.in_ok-write_behind.ensures.stands in
    opened_leaves c.self.inside.tail c.args.body.now _ _ (9 + length c.payload-payload.result.now) stands first c.write_behind.ensures.changes _ c.payload-payload.ensures.fit c.payload-payload.ensures.few within behind c.in_ok-write_behind.ensures.durable c.set_gate.ensures.changes

pub returns-in_err-place-clause-any_moment : goal.returns-in_err-place-clause-any_moment
returns-in_err-place-clause-any_moment g c =
    let stands = subst (λ (n : ℕ). StandsFor n (g.M.Machine.meaning c.args.m.now)) (sym c.self.view_is) c.requires.stands in
    let first = g.met.M.Machine.content_is_image c.args.m.now in
    let within : c.self.inside.tail + 9 + payload_size c.args.body.now < 2 ^ 42 = omega (arith, c.self.view_is, c.requires.short, c.requires.size) in
    let behind = subst (λ (l : List ℕ). IsTrue (g.M.Machine.meaning c.write_behind.new.m).tells → IsBehind ((g.M.Machine.meaning c.write_behind.new.m).content Log) c.self.inside.tail l) c.payload-payload.ensures.spells c.in_ok-write_behind.ensures.stands in
    commit_leaves c.self.inside.tail c.args.body.now _ _ (9 + length c.payload-payload.result.now) stands first c.write_behind.ensures.changes _ c.payload-payload.ensures.fit c.payload-payload.ensures.few within behind c.in_ok-write_behind.ensures.durable c.set_gate.ensures.changes _ c.in_ok-set_gate.ensures.set c.in_ok-set_gate.ensures.durable c.place.ensures.quiet c.place.ensures.places

pub returns-clause-any_moment : goal.returns-clause-any_moment
returns-clause-any_moment g c =
    let stands = subst (λ (n : ℕ). StandsFor n (g.M.Machine.meaning c.args.m.now)) (sym c.self.view_is) c.requires.stands in
    let first = g.met.M.Machine.content_is_image c.args.m.now in
    let within : c.self.inside.tail + 9 + payload_size c.args.body.now < 2 ^ 42 = omega (arith, c.self.view_is, c.requires.short, c.requires.size) in
    let behind = subst (λ (l : List ℕ). IsTrue (g.M.Machine.meaning c.write_behind.new.m).tells → IsBehind ((g.M.Machine.meaning c.write_behind.new.m).content Log) c.self.inside.tail l) c.payload-payload.ensures.spells c.in_ok-write_behind.ensures.stands in
    commit_leaves c.self.inside.tail c.args.body.now _ _ (9 + length c.payload-payload.result.now) stands first c.write_behind.ensures.changes _ c.payload-payload.ensures.fit c.payload-payload.ensures.few within behind c.in_ok-write_behind.ensures.durable c.set_gate.ensures.changes _ c.in_ok-set_gate.ensures.set c.in_ok-set_gate.ensures.durable c.place.ensures.quiet c.place.ensures.places

pub returns-clause-ok : goal.returns-clause-ok
returns-clause-ok g c =
    let stands = subst (λ (n : ℕ). StandsFor n (g.M.Machine.meaning c.args.m.now)) (sym c.self.view_is) c.requires.stands in
    let first = g.met.M.Machine.content_is_image c.args.m.now in
    let within : c.self.inside.tail + 9 + payload_size c.args.body.now < 2 ^ 42 = omega (arith, c.self.view_is, c.requires.short, c.requires.size) in
    let behind = subst (λ (l : List ℕ). IsTrue (g.M.Machine.meaning c.write_behind.new.m).tells → IsBehind ((g.M.Machine.meaning c.write_behind.new.m).content Log) c.self.inside.tail l) c.payload-payload.ensures.spells c.in_ok-write_behind.ensures.stands in
    let new_tail : c.self.inside.tail + 9 + length c.payload-payload.result.now ≡ c.self.inside.tail + 9 + payload_size c.args.body.now =
    ap (λ (n : ℕ). c.self.inside.tail + 9 + n) (ap length c.payload-payload.ensures.spells ∙ length-spelling_of c.args.body.now) in
    subst (λ (n : ℕ). Committed c.args.body.now n (c.self.inside.tail + 9 + length c.payload-payload.result.now) (g.M.Machine.meaning c.args.m.now) (g.M.Machine.meaning c.place.new.m)) c.self.view_is
    (commit_commits c.self.inside.tail c.args.body.now _ _ (9 + length c.payload-payload.result.now) stands first c.write_behind.ensures.changes _ c.payload-payload.ensures.fit c.payload-payload.ensures.few within behind c.in_ok-write_behind.ensures.durable c.set_gate.ensures.changes _ c.in_ok-set_gate.ensures.set c.in_ok-set_gate.ensures.durable c.place.ensures.quiet c.place.ensures.places _ new_tail c.in_ok-place.ensures.placed)
