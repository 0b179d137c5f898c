-- The store that was opened stands for the machine.
use Rattle.std.proofs.Common.{subst, sym}
use Rattle.mt_directory.specs.Known.{known_in}
use Rattle.mt_chunkstore.specs.Found.{Surveyed}
use Rattle.mt_pages.specs.Standing.{Counts}
use Rattle.mt_chunkstore.proofs.Opening.{opened}
use Rattle.mt_chunkstore.proofs.store.Store.load.Goals as goal

pub returns-clause-ok : goal.returns-clause-ok
returns-clause-ok g c =
    let meaning = g.M.Machine.meaning in
    let second = meaning c.load.new.m in
    let new = meaning c.load-2.new.m in
    let survey = c.in_ok-directory.field-0 in
    let counts = subst (λ count. Counts count second) (sym c.load-2.ensures.same) c.in_ok-pages.ensures.ok in
    let found = subst (λ count. Surveyed (known_in c.in_ok-layouts.layouts) count survey.directory.tables survey.used new) (sym c.load-2.ensures.same) c.in_ok-directory.ensures.ok in
    opened _ (meaning c.args.m.now) (meaning c.recover.new.m) second new c.in_ok-journal.ensures.ok.0 c.in_ok-journal.ensures.ok.1 c.load.ensures.looks counts c.in_ok-layouts.ensures c.load-2.ensures.looks found
