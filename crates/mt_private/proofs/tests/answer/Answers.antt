-- The next service is kept.
use Rattle.mt_private.proofs.tests.answer.Goals as goal

pub returns : goal.returns
returns g c = let kept = c.line-reply.ensures c.requires.0 c.requires.1 in (kept.1, kept.3)
