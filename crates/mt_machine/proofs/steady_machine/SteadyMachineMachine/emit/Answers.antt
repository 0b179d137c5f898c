use Rattle.std.proofs.Common.{Ok, rules}
use Rattle.mt_machine.specs.InMemory.{run_of}
use Rattle.mt_machine.proofs.Steps.{emits_by_step}
use Rattle.mt_machine.proofs.steady_machine.SteadyMachineMachine.emit.Goals as goal

pub returns-clause-effect : goal.returns-clause-effect
returns-clause-effect c =
    emits_by_step (Ok tt) c.args.bytes.now (run_of c.args.self.now.recording) (run_of c.emit.new.self) 0 0 0 c.emit.ensures (search rules)
