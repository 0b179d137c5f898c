use Rattle.std.proofs.Common.{Ok, Err, rules}
use Rattle.mt_machine.specs.InMemory.{run_of}
use Rattle.mt_machine.proofs.Steps.{syncs_by_step}
use Rattle.mt_machine.proofs.mem_machine.MemMachineMachine.sync.Goals as goal

pub returns-then-fails-clause-effect : goal.returns-then-fails-clause-effect
returns-then-fails-clause-effect c =
    syncs_by_step (Err (record {})) (run_of c.args.self.now.recording) (run_of c.sync.new.self) _ _ _ (search rules) (search rules)

pub returns-clause-effect : goal.returns-clause-effect
returns-clause-effect c =
    syncs_by_step (Ok tt) (run_of c.args.self.now.recording) (run_of c.sync.new.self) _ _ _ (search rules) (search rules)
