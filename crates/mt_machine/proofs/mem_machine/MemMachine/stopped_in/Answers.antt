use Rattle.std.proofs.Common.{◌-◌, reverse}
use Rattle.std.proofs.lemmas.Result.{IfOk-weaker}
use Rattle.mt_machine.specs.Image.{disk_of}
use Rattle.mt_machine.specs.InMemory.{mem_run}
use Rattle.mt_machine.specs.Run.{since_of}
use Rattle.mt_machine.specs.Stops.{IsStopIn}
use Rattle.mt_machine.proofs.Moments.{stop_is_moment}
use Rattle.mt_machine.proofs.mem_machine.MemMachine.stopped_in.Goals as goal

pub returns-clause-moment : goal.returns-clause-moment
returns-clause-moment c =
    let run = mem_run c.args.self.now in
    IfOk-weaker c.stopped_in.result (IsStopIn c.args.fill run.first run.steps c.args.call) (λ stopped. since_of run.first (reverse run.steps) (c.args.call - 1) (disk_of stopped.log stopped.pages) stopped.out)
    (λ stopped stop. stop_is_moment c.args.fill run.first run.steps c.args.call stopped c.requires.from c.requires.to stop)
    c.stopped_in.ensures
