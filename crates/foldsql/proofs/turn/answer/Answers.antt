-- A line is answered, or the run ends within it.
use Rattle.std.proofs.Common.{◌≡◌, ◌∙◌, inr, refl, sym, ap, true, false, IsTrue}
use Rattle.std.specs.Prelude.{not, ℕ, List}
use Rattle.mt_machine.specs.Keeps.{Keeps}
use Rattle.mt_machine.specs.PassesLaws.{keeps_after_emit}
use Rattle.mt_script.specs.Lines.{Text, is_silent}
use Rattle.mt_model.specs.Service.{Service}
use Rattle.foldsql.proofs.Turning.{keeps_laid, kept_on, line_failed, reply_comes, silent_passes}
use Rattle.foldsql.proofs.turn.answer.Goals as goal

pub returns-then-silent-clause-answers : goal.returns-then-silent-clause-answers
returns-then-silent-clause-answers g c =
    let engine = c.args.engine.now in
    let machine = g.M.Machine.meaning c.args.machine.now in
    silent_passes g.E.Engine.rules g.E.Engine.laid (λ (service : Service). Keeps (g.E.Engine.holds engine service) (g.E.Engine.may_leave engine) machine) (Text c.args.line.now) machine
    (g.met.M.Machine.moments_told c.args.machine.now) (λ told image out. g.met.M.Machine.only_now c.args.machine.now image out told)
    (λ service. keeps_laid g.E.Engine.laid (g.E.Engine.holds engine) (g.E.Engine.may_leave engine) (g.met.E.Engine.laid_beside engine) service machine)
    (ap not (sym c.silent.ensures ∙ c.if-silent.true))

pub returns-in-Ok-clause-answers : goal.returns-in-Ok-clause-answers
returns-in-Ok-clause-answers g c =
    let m = g.M.Machine.meaning in
    let engine = c.line.new.self in
    reply_comes g.E.Engine.rules g.E.Engine.laid g.met.E.Engine.prints (g.E.Engine.holds engine) (g.E.Engine.may_leave engine) (g.met.E.Engine.laid_beside engine)
    (Text c.args.line.now) c.in-Ok.reply (m c.args.machine.now) (m c.line.new.machine) (m c.put_out.new.machine) c.put_out.result c.status_of.result
    (λ (service : Service). Keeps (g.E.Engine.holds c.args.engine.now service) (g.E.Engine.may_leave c.args.engine.now) (m c.args.machine.now))
    (ap not (sym c.silent.ensures ∙ c.if-silent.false)) c.in-Ok.ensures.does c.put_out.ensures.emits c.status_of.ensures.ok c.status_of.ensures.err

pub returns-in-Ok-clause-ready : goal.returns-in-Ok-clause-ready
returns-in-Ok-clause-ready g c = kept_on c.status_of.result (c.in-Ok.ensures.ready.0, keeps_after_emit c.in-Ok.ensures.ready.1 c.put_out.ensures.emits)

pub returns-in-Err-clause-answers : goal.returns-in-Err-clause-answers
returns-in-Err-clause-answers g c =
    let m = g.M.Machine.meaning in
    (inr refl, ap not (sym c.silent.ensures ∙ c.if-silent.false), λ tells service keeps. line_failed g.E.Engine.rules g.E.Engine.laid (Text c.args.line.now) service (m c.args.machine.now) (m c.line.new.machine) tells (c.in-Err.ensures.does tells service keeps))
