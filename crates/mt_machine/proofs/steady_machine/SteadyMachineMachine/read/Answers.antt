use Rattle.std.proofs.Common.{Ok, rules}
use Rattle.mt_machine.specs.InMemory.{run_of}
use Rattle.mt_machine.proofs.Steps.{reads_by_step}
use Rattle.mt_machine.proofs.steady_machine.SteadyMachineMachine.read.Goals as goal

pub returns-clause-effect : goal.returns-clause-effect
returns-clause-effect c =
    reads_by_step (Ok tt) c.args.area c.args.at c.read.new.buf (run_of c.args.self.now.recording) (run_of c.pass.new.self) 0 0 0 c.pass.ensures (rw c.contents.ensures at c.read.ensures) (search rules)
