-- What a text says is never refused so.
use Rattle.mt_model.proofs.Replies.{line-not_readable, line-too_long}
use Rattle.mt_model.proofs.laws.unread_lines_need_no_service.Goals as goal

pub returns-clause-too_long : goal.returns-clause-too_long
returns-clause-too_long c = line-too_long

pub returns-clause-not_readable : goal.returns-clause-not_readable
returns-clause-not_readable c = line-not_readable
