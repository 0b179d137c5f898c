use Rattle.std.proofs.Common.{Ok, Err, rules}
use Rattle.mt_machine.specs.InMemory.{run_of}
use Rattle.mt_machine.proofs.Steps.{reads_by_step}
use Rattle.mt_machine.proofs.mem_machine.MemMachineMachine.read.Goals as goal

pub returns-then-fails_now-clause-effect : goal.returns-then-fails_now-clause-effect
returns-then-fails_now-clause-effect c =
    reads_by_step (Err (record {})) c.args.area c.args.at _ (run_of c.args.self.now.recording) (run_of c.pass.new.self) _ _ _ c.pass.ensures tt (search rules)

pub returns-clause-effect : goal.returns-clause-effect
returns-clause-effect c =
    reads_by_step (Ok tt) c.args.area c.args.at c.read.new.buf (run_of c.args.self.now.recording) (run_of c.pass.new.self) _ _ _ c.pass.ensures (rw c.contents.ensures at c.read.ensures) (search rules)
