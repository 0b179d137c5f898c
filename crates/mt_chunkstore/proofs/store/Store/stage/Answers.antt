-- The store stands still, and the group is one for its pages.
use Rattle.std.proofs.Common.{◌≤◌, ℕ, List, refl, sym, subst, rules}
use Rattle.mt_journal.specs.Layout.{Area}
use Rattle.mt_directory.specs.Known.{known_in}
use Rattle.mt_places.specs.Held.{state_of}
use Rattle.mt_staging.specs.States.{group_of}
use Rattle.mt_chunkstore.specs.Changes.{MayChange, free_at_start}
use Rattle.mt_chunkstore.specs.Walked.{Begins, IsFound}
use Rattle.mt_chunkstore.proofs.Stages.{cause_chosen, staged_is, stands_kept}
use Rattle.mt_chunkstore.proofs.store.Store.stage.Goals as goal

pub returns-in_err-places-clause-stands : goal.returns-in_err-places-clause-stands
returns-in_err-places-clause-stands g c =
    let meaning = g.M.Machine.meaning in
    stands_kept c.args.self.now _ (meaning c.args.m.now) (meaning c.look_through.new.m) refl c.look_through.ensures.same refl refl refl c.requires.stands c.look_through.ensures.looks

pub returns-in_err-group-clause-stands : goal.returns-in_err-group-clause-stands
returns-in_err-group-clause-stands g c =
    let meaning = g.M.Machine.meaning in
    stands_kept c.args.self.now _ (meaning c.args.m.now) (meaning c.look_through.new.m) refl c.look_through.ensures.same refl refl refl c.requires.stands c.look_through.ensures.looks

pub returns-in_err-group-clause-cause : goal.returns-in_err-group-clause-cause
returns-in_err-group-clause-cause g c =
    let meaning = g.M.Machine.meaning in
    let known = known_in c.args.self.now.layouts in
    let changes = c.args.changes.now in
    let places = state_of c.in_ok-places.places in
    cause_chosen c.from_residual-in_err-group.result known changes c.args.self.now.pages c.args.self.now.directory.tables places (meaning c.args.m.now) (meaning c.look_through.new.m)
    c.look_through.ensures.looks c.in_ok-places.ensures.cause c.requires.stands.directory c.requires.stands.pages c.in_ok-places.ensures.found (search rules)
    (λ disk. subst (λ (n : ℕ). (area : Area) → Begins known n area (free_at_start known changes n area) places → MayChange known changes n area → ⊥) c.look_through.ensures.same (c.in_err-group.ensures.disk (search rules)))

pub returns-in_err-reserve-clause-stands : goal.returns-in_err-reserve-clause-stands
returns-in_err-reserve-clause-stands g c =
    let meaning = g.M.Machine.meaning in
    stands_kept c.args.self.now _ (meaning c.args.m.now) (meaning c.look_through.new.m) refl c.look_through.ensures.same refl c.reserve.ensures.same refl c.requires.stands c.look_through.ensures.looks

pub returns-clause-staged : goal.returns-clause-staged
returns-clause-staged g c =
    let meaning = g.M.Machine.meaning in
    let known = known_in c.args.self.now.layouts in
    let changes = c.args.changes.now in
    let new = meaning c.look_through.new.m in
    let places = state_of c.in_ok-places.places in
    let group = group_of c.in_ok-group.group in
    let stands = stands_kept c.args.self.now _ (meaning c.args.m.now) new refl c.look_through.ensures.same refl c.reserve.ensures.same refl c.requires.stands c.look_through.ensures.looks in
    let found = subst (λ (n : ℕ). IsFound known changes n c.args.self.now.directory.tables n new places) (sym c.look_through.ensures.same) c.in_ok-places.ensures.found in
    staged_is changes group places _ new stands c.requires.few
    (subst (λ (tables : List ℕ). IsFound known changes c.look_through.new.pages tables c.look_through.new.pages new places) (sym c.reserve.ensures.same) found)
    c.in_ok-group.ensures.ok (subst (λ (n : ℕ). n ≤ c.reserve.new.self.room) c.added_count.ensures c.in_ok-reserve.ensures.room)

pub returns-clause-stands : goal.returns-clause-stands
returns-clause-stands g c =
    let meaning = g.M.Machine.meaning in
    stands_kept c.args.self.now _ (meaning c.args.m.now) (meaning c.look_through.new.m) refl c.look_through.ensures.same refl c.reserve.ensures.same refl c.requires.stands c.look_through.ensures.looks
