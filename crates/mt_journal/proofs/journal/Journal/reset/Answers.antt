use Rattle.std.proofs.Common.{◌∙◌, refl}
use Rattle.mt_journal.proofs.Emptying.{reset_leaves, reset_empties}
use Rattle.mt_journal.proofs.journal.Journal.reset.Goals as goal

pub returns-in_err-close_first-clause-any_moment : goal.returns-in_err-close_first-clause-any_moment
returns-in_err-close_first-clause-any_moment g c =
    reset_leaves c.args.self.now _ _ c.requires (λ none. c.if-self-eq0.false (c.self.view_is ∙ none)) (g.met.M.Machine.content_is_image c.args.m.now) c.close_first.ensures.leaves

pub returns-clause-any_moment : goal.returns-clause-any_moment
returns-clause-any_moment g c =
    reset_leaves c.args.self.now _ _ c.requires (λ none. c.if-self-eq0.false (c.self.view_is ∙ none)) (g.met.M.Machine.content_is_image c.args.m.now) c.close_first.ensures.leaves

pub returns-clause-ok : goal.returns-clause-ok
returns-clause-ok g c = (refl, reset_empties _ _ c.close_first.ensures.leaves c.in_ok-close_first.ensures.closes)
