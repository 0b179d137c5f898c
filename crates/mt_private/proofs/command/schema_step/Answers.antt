-- By the tests, the next catalogue and the rows.
use Rattle.std.proofs.Common.{Err, sym, ap, subst}
use Rattle.mt_tree.specs.declared.reply.Reply.TheVariants.{Memory, Refused, Text}
use Rattle.mt_catalog.specs.State.{State}
use Rattle.mt_model.specs.Request.{Command}
use Rattle.mt_model.specs.Said.{Says}
use Rattle.mt_private.specs.Outcome.{IsAnswered}
use Rattle.mt_private.proofs.StepAnswers.{step_forgone, step_made, step_refused}
use Rattle.mt_private.proofs.command.schema_step.Goals as goal

pub returns-in-Ok : goal.returns-in-Ok
returns-in-Ok c =
    subst (λ text. IsAnswered c.args.catalog.now c.make_step.new.catalog c.args.rows.now.entries c.make_step.new.rows.entries (Command (Says c.args.step.now)) (Text text)) (sym c.in-Ok.ensures.reply)
    (λ service kept. step_made c.parts_tell_the_service.ensures.kept c.parts_tell_the_service.ensures.refusals c.args.catalog.now c.args.rows.now.entries c.args.step.now c.kept_of-kept.result c.kept_of-kept.ensures
    c.schema_steps_keep_the_parts.ensures c.requires.formed c.make_step.new.catalog c.make_step.new.rows.entries c.in-Ok.ensures.made service kept)

pub returns-in-Err-Refused : goal.returns-in-Err-Refused
returns-in-Err-Refused c =
    subst (λ (state : State). IsAnswered c.args.catalog.now state c.args.rows.now.entries c.make_step.new.rows.entries (Command (Says c.args.step.now)) (Refused c.in-Err-Refused.code)) (sym c.in-Err-Refused.ensures.same_catalog)
    (step_refused c.parts_tell_the_service.ensures.kept c.parts_tell_the_service.ensures.refusals c.args.catalog.now c.args.rows.now.entries c.args.step.now c.kept_of-kept.result c.kept_of-kept.ensures
    c.make_step.new.rows.entries c.in-Err-Refused.code (c.in-Err-Refused.ensures.refused c.in-Err-Refused.code (ap Err c.in-Err-Refused.field-0-is)) c.in-Err-Refused.ensures.same_rows)

pub returns-in-Err-Memory : goal.returns-in-Err-Memory
returns-in-Err-Memory c =
    subst (λ (state : State). IsAnswered c.args.catalog.now state c.args.rows.now.entries c.make_step.new.rows.entries (Command (Says c.args.step.now)) Memory) (sym c.in-Err-Memory.ensures.same_catalog)
    (step_forgone c.args.catalog.now c.args.rows.now.entries c.make_step.new.rows.entries c.args.step.now c.in-Err-Memory.ensures.same_rows)
