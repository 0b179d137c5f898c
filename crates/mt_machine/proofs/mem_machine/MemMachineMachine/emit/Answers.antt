use Rattle.std.proofs.Common.{Ok, Err, rules}
use Rattle.mt_machine.specs.InMemory.{run_of}
use Rattle.mt_machine.proofs.Steps.{emits_by_step}
use Rattle.mt_machine.proofs.mem_machine.MemMachineMachine.emit.Goals as goal

pub returns-then-fails_now-clause-effect : goal.returns-then-fails_now-clause-effect
returns-then-fails_now-clause-effect c =
    emits_by_step (Err (record {})) c.args.bytes.now (run_of c.args.self.now.recording) (run_of c.emit.new.self) _ _ _ (search rules) (search rules)

pub returns-clause-effect : goal.returns-clause-effect
returns-clause-effect c =
    emits_by_step (Ok tt) c.args.bytes.now (run_of c.args.self.now.recording) (run_of c.emit-2.new.self) _ _ _ c.emit-2.ensures (search rules)
