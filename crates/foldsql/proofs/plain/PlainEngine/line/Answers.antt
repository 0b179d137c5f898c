-- The line is answered in memory.
use Rattle.mt_model.specs.Isolation.{service_rules}
use Rattle.mt_script.specs.Lines.{Text}
use Rattle.mt_private.specs.Kept.{IsKept}
use Rattle.foldsql.proofs.Engines.{AnswersFrom, answered_in_memory, keeps_in_memory}
use Rattle.foldsql.proofs.plain.PlainEngine.line.Goals as goal

pub returns-clause-does : goal.returns-clause-does
returns-clause-does g c =
    answered_in_memory service_rules _ c.line.result (IsKept c.args.self.now) (IsKept c.line.new.self) (g.M.Machine.meaning c.args.machine.now)
    (g.met.M.Machine.moments_told c.args.machine.now) (λ told image out. g.met.M.Machine.only_now c.args.machine.now image out told) c.line.ensures

-- the service that is kept before goes on to the next one
pub returns-clause-sound : goal.returns-clause-sound
returns-clause-sound g c =
    let answered : AnswersFrom service_rules (Text c.args.line.now) c.line.result (IsKept c.line.new.self) c.requires.sound.0 = c.line.ensures c.requires.sound.0 c.requires.sound.1 in
    (answered.1, answered.3)

pub returns-clause-ready : goal.returns-clause-ready
returns-clause-ready g c =
    let answered : AnswersFrom service_rules (Text c.args.line.now) c.line.result (IsKept c.line.new.self) c.requires.sound.0 = c.line.ensures c.requires.sound.0 c.requires.sound.1 in
    (answered.1, keeps_in_memory (IsKept c.line.new.self answered.1) (g.M.Machine.meaning c.args.machine.now) (g.met.M.Machine.moments_told c.args.machine.now) answered.3)
