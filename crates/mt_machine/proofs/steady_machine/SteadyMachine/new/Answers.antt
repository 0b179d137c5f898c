use Rattle.std.proofs.Common.{subst}
use Rattle.mt_machine.specs.InMemory.{IsFresh, steady_meaning}
use Rattle.mt_machine.proofs.Blank.{disk_of-blank}
use Rattle.mt_machine.proofs.steady_machine.SteadyMachine.new.Goals as goal

pub returns : goal.returns
returns c =
    subst (λ disk. IsFresh disk (steady_meaning c.from_image.result)) (disk_of-blank c.new.result c.new-2.result c.new.ensures c.new-2.ensures) c.from_image.ensures
