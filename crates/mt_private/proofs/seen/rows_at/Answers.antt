-- A number past the lists is that of no rows.
use Rattle.std.proofs.Common.{sym, ◌∙◌}
use Rattle.mt_private.proofs.Lists.{at_got, at_none}
use Rattle.mt_private.proofs.seen.rows_at.Goals as goal

pub returns-in-None : goal.returns-in-None
returns-in-None c = sym (at_none c.args.lists.now c.args.base (sym c.in-None.ensures))

pub returns-in-Some : goal.returns-in-Some
returns-in-Some c = c.as_slice.ensures ∙ sym (at_got c.args.lists.now c.args.base c.in-Some.rows.now (sym c.in-Some.ensures))
