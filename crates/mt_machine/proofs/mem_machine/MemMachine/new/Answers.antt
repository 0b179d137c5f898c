use Rattle.std.proofs.Common.{subst}
use Rattle.mt_machine.specs.InMemory.{IsFresh, mem_meaning}
use Rattle.mt_machine.proofs.Blank.{disk_of-blank}
use Rattle.mt_machine.proofs.mem_machine.MemMachine.new.Goals as goal

pub returns-clause-meaning : goal.returns-clause-meaning
returns-clause-meaning c =
    subst (λ disk. IsFresh disk (mem_meaning c.from_image.result)) (disk_of-blank c.new.result c.new-2.result c.new.ensures c.new-2.ensures) c.from_image.ensures.meaning
