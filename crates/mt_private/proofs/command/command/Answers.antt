-- What the text says is answered by the step of the service.
use Rattle.std.proofs.Common.{inl, inr, Err, refl, ap, subst}
use Rattle.mt_model.specs.Said.{IsCommandSaid, Outside, Unread, Unserved}
use Rattle.mt_private.specs.Serving.{ServesAs}
use Rattle.mt_private.proofs.StepAnswers.{said_yields}
use Rattle.mt_private.proofs.command.command.Goals as goal

pub returns-in-Err-Unread : goal.returns-in-Err-Unread
returns-in-Err-Unread c = (
  Unread,
  subst (ServesAs (λ said. IsCommandSaid c.args.text.now said)) (ap Err c.in-Err-Unread.field-0-is) c.in-Err-Unread.ensures,
  λ service kept. (service, inl (record { reply_is = refl; next_is = refl }), kept),
)

pub returns-in-Err-Outside : goal.returns-in-Err-Outside
returns-in-Err-Outside c = (
  Outside,
  subst (ServesAs (λ said. IsCommandSaid c.args.text.now said)) (ap Err c.in-Err-Outside.field-0-is) c.in-Err-Outside.ensures,
  λ service kept. (service, inl (record { reply_is = refl; next_is = refl }), kept),
)

pub returns-in-Err-Unserved : goal.returns-in-Err-Unserved
returns-in-Err-Unserved c = (
  Unserved,
  subst (ServesAs (λ said. IsCommandSaid c.args.text.now said)) (ap Err c.in-Err-Unserved.field-0-is) c.in-Err-Unserved.ensures,
  λ service kept. (service, inl (record { reply_is = refl; next_is = refl }), kept),
)

pub returns-in-Err-Memory : goal.returns-in-Err-Memory
returns-in-Err-Memory c =
    let said = c.each_text_says_something.ensures.command c.args.text.now in
    (said.0, said.1, λ service kept. (service, inr (record { reply_is = refl; next_is = refl; yields = said_yields service said.0 }), kept))
