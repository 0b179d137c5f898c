-- The reader's answer and what comes of it.
use Rattle.std.proofs.Common.{refl, Ok, Err}
use Rattle.mt_machine.specs.Keeps.{Keeps}
use Rattle.mt_machine.specs.PassesLaws.{keeps_after_emit}
use Rattle.mt_tree.specs.declared.code.Code.TheVariants as code
use Rattle.mt_tree.specs.declared.reply.Reply.TheVariants.{Refused}
use Rattle.mt_script.specs.Lines.{TooLong}
use Rattle.mt_script.specs.declared.reader.Took.TheVariants as took
use Rattle.mt_script.specs.declared.reader.ReadStop.TheVariants as stop
use Rattle.mt_model.specs.Service.{Service}
use Rattle.foldsql.specs.declared.status.Status.TheVariants.{Done, SourceFault, InputTooLong}
use Rattle.foldsql.proofs.Turning.{RefuseTooLong, keeps_laid, kept_on, long_answered, reply_comes, stops_here}
use Rattle.foldsql.proofs.turn.turn.Goals as goal

pub returns-in-Ok-Line-clause-turns : goal.returns-in-Ok-Line-clause-turns
returns-in-Ok-Line-clause-turns g c = record { took = Ok took.Line; nexts = rw c.in-Ok-Line.field-0-is at c.in-Ok-Line.ensures; outcome = rw c.line.ensures at c.answer.ensures.answers }

pub returns-in-Ok-TooLong-clause-turns : goal.returns-in-Ok-TooLong-clause-turns
returns-in-Ok-TooLong-clause-turns g c =
    let m = g.M.Machine.meaning in
    let engine = c.args.engine.now in
    let machine = m c.args.machine.now in
    let told = g.met.M.Machine.moments_told c.args.machine.now in
    let refuse : RefuseTooLong g.E.Engine.rules = record { says = g.met.E.Engine.says_too_long; refuses = g.met.E.Engine.refuses_too_long } in
    let laid = λ (service : Service). keeps_laid g.E.Engine.laid (g.E.Engine.holds engine) (g.E.Engine.may_leave engine) (g.met.E.Engine.laid_beside engine) service machine in
    let kept = λ (service : Service). Keeps (g.E.Engine.holds engine service) (g.E.Engine.may_leave engine) machine in
    record {
      took = Ok took.TooLong;
      nexts = rw c.in-Ok-TooLong.field-0-is at c.in-Ok-TooLong.ensures;
      outcome = reply_comes g.E.Engine.rules g.E.Engine.laid g.met.E.Engine.prints (g.E.Engine.holds engine) (g.E.Engine.may_leave engine) (g.met.E.Engine.laid_beside engine)
          TooLong (Refused code.LineTooLong) machine machine (m c.put_out.new.machine) c.put_out.result c.status_of.result kept refl
          (λ tells service keeps. long_answered g.E.Engine.rules g.E.Engine.laid kept machine told (λ t image out. g.met.M.Machine.only_now c.args.machine.now image out t) laid refuse service keeps)
          c.put_out.ensures.emits c.status_of.ensures.ok c.status_of.ensures.err;
    }

pub returns-in-Ok-TooLong-clause-ready : goal.returns-in-Ok-TooLong-clause-ready
returns-in-Ok-TooLong-clause-ready g c = kept_on c.status_of.result (c.requires.ready.0, keeps_after_emit c.requires.ready.1 c.put_out.ensures.emits)

pub returns-in-Ok-End-clause-turns : goal.returns-in-Ok-End-clause-turns
returns-in-Ok-End-clause-turns g c =
    let engine = c.args.engine.now in
    let machine = g.M.Machine.meaning c.args.machine.now in
    record {
      took = Ok took.End;
      nexts = rw c.in-Ok-End.field-0-is at c.in-Ok-End.ensures;
      outcome = (
        refl,
        λ tells service keeps. stops_here g.E.Engine.rules g.E.Engine.laid service Done machine (refl, refl)
            (g.met.M.Machine.moments_told c.args.machine.now) (λ t image out. g.met.M.Machine.only_now c.args.machine.now image out t)
            (keeps_laid g.E.Engine.laid (g.E.Engine.holds engine) (g.E.Engine.may_leave engine) (g.met.E.Engine.laid_beside engine) service machine keeps),
      );
    }

pub returns-in-Err-Source-clause-turns : goal.returns-in-Err-Source-clause-turns
returns-in-Err-Source-clause-turns g c =
    let engine = c.args.engine.now in
    let machine = g.M.Machine.meaning c.args.machine.now in
    record {
      took = Err stop.Source;
      nexts = rw c.in-Err-Source.field-0-is at c.in-Err-Source.ensures;
      outcome = (
        refl,
        λ tells service keeps. stops_here g.E.Engine.rules g.E.Engine.laid service SourceFault machine (refl, refl)
            (g.met.M.Machine.moments_told c.args.machine.now) (λ t image out. g.met.M.Machine.only_now c.args.machine.now image out t)
            (keeps_laid g.E.Engine.laid (g.E.Engine.holds engine) (g.E.Engine.may_leave engine) (g.met.E.Engine.laid_beside engine) service machine keeps),
      );
    }

pub returns-in-Err-Budget-clause-turns : goal.returns-in-Err-Budget-clause-turns
returns-in-Err-Budget-clause-turns g c =
    let engine = c.args.engine.now in
    let machine = g.M.Machine.meaning c.args.machine.now in
    record {
      took = Err stop.Budget;
      nexts = rw c.in-Err-Budget.field-0-is at c.in-Err-Budget.ensures;
      outcome = (
        refl,
        λ tells service keeps. stops_here g.E.Engine.rules g.E.Engine.laid service InputTooLong machine (refl, refl)
            (g.met.M.Machine.moments_told c.args.machine.now) (λ t image out. g.met.M.Machine.only_now c.args.machine.now image out t)
            (keeps_laid g.E.Engine.laid (g.E.Engine.holds engine) (g.E.Engine.may_leave engine) (g.met.E.Engine.laid_beside engine) service machine keeps),
      );
    }
