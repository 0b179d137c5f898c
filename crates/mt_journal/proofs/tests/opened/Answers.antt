use Rattle.std.proofs.Common.{ℕ, sym, subst}
use Rattle.mt_journal.specs.Commits.{StandsFor}
use Rattle.mt_journal.proofs.tests.opened.Goals as goal

pub returns-clause-stands : goal.returns-clause-stands
returns-clause-stands g c =
    let ok = c.in_ok-journal.ensures.ok in
    subst (λ (n : ℕ). StandsFor n (g.M.Machine.meaning c.recover.new.m)) (sym ok.0) ok.1.stands
