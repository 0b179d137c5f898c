use Rattle.std.proofs.Common.{Ok, rules}
use Rattle.mt_machine.specs.InMemory.{run_of}
use Rattle.mt_machine.proofs.Steps.{syncs_by_step}
use Rattle.mt_machine.proofs.steady_machine.SteadyMachineMachine.sync.Goals as goal

pub returns-clause-effect : goal.returns-clause-effect
returns-clause-effect c =
    syncs_by_step (Ok tt) (run_of c.args.self.now.recording) (run_of c.sync.new.self) 0 0 0 c.sync.ensures (search rules)
