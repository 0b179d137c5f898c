use Rattle.std.proofs.Common.{Ok, rules}
use Rattle.mt_machine.specs.InMemory.{run_of}
use Rattle.mt_machine.proofs.Steps.{writes_by_step}
use Rattle.mt_machine.proofs.steady_machine.SteadyMachineMachine.write.Goals as goal

pub returns-clause-effect : goal.returns-clause-effect
returns-clause-effect c =
    writes_by_step (Ok tt) c.args.area c.args.at c.args.bytes.now (run_of c.args.self.now.recording) (run_of c.write.new.self) 0 0 0 c.write.ensures (search rules)
