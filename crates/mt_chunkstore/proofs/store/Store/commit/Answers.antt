use Rattle.std.proofs.Common.{◌≡◌, IsTrue, List, sym, ap, subst, ◌∙◌}
use Rattle.mt_machine.specs.declared.machine.Area.TheVariants as areas
use Rattle.mt_machine.specs.Meaning.{Meaning}
use Rattle.mt_machine.specs.Leaves.{Leaves}
use Rattle.mt_journal.specs.Commits.{ReplaysToEither, StandsFor}
use Rattle.mt_journal.specs.Layout.{Range}
use Rattle.mt_journal.specs.Replay.{with_ranges}
use Rattle.mt_staging.specs.States.{group_of}
use Rattle.mt_chunkstore.proofs.Committing.{committed, stops_whole}
use Rattle.mt_chunkstore.proofs.store.Store.commit.Goals as goal

-- what a commit of these ranges may leave at each moment
abbrev LeavesEither : Meaning → Meaning → List Range → Type 0
LeavesEither old new ranges = Leaves (ReplaysToEither (old.content areas.Pages) (with_ranges ranges (old.content areas.Pages))) old new

pub returns-in_err-commit_body-clause-any_moment :
    goal.returns-in_err-commit_body-clause-any_moment
returns-in_err-commit_body-clause-any_moment g c = λ changes staged allowed.
    let meaning = g.M.Machine.meaning in
    stops_whole changes (group_of c.args.staged.group) c.args.self.now (meaning c.args.m.now) (meaning c.commit_body.new.m) c.requires.stands staged allowed
    (subst (LeavesEither (meaning c.args.m.now) (meaning c.commit_body.new.m)) c.body.ensures c.commit_body.ensures.any_moment)

pub returns-clause-ok : goal.returns-clause-ok
returns-clause-ok g c = λ changes staged allowed.
    let meaning = g.M.Machine.meaning in
    let old = meaning c.args.m.now in
    let new = meaning c.commit_body.new.m in
    committed changes (group_of c.args.staged.group) c.args.self.now c.take_over.new.self old new c.requires.stands staged allowed
    (subst (λ tail. StandsFor tail new) (sym c.take_over.ensures.journal) c.in_ok-commit_body.ensures.stands)
    c.commit_body.ensures.any_moment.told
    (λ tells. c.in_ok-commit_body.ensures.pages tells ∙ ap (λ (ranges : List Range). with_ranges ranges (old.content areas.Pages)) c.body.ensures)
    (record {
      pages = c.take_over.ensures.pages;
      tables = c.take_over.ensures.tables;
      used = c.take_over.ensures.used;
      layouts = c.take_over.ensures.layouts;
      scans = c.take_over.ensures.scans;
      some = c.take_over.ensures.some;
    })

pub returns-clause-any_moment : goal.returns-clause-any_moment
returns-clause-any_moment g c = λ changes staged allowed.
    let meaning = g.M.Machine.meaning in
    stops_whole changes (group_of c.args.staged.group) c.args.self.now (meaning c.args.m.now) (meaning c.commit_body.new.m) c.requires.stands staged allowed
    (subst (LeavesEither (meaning c.args.m.now) (meaning c.commit_body.new.m)) c.body.ensures c.commit_body.ensures.any_moment)
