use Rattle.mt_machine.specs.InMemory.{steady_meaning}
use Rattle.mt_chunkstore.specs.Standing.{Stands}
use Rattle.mt_chunkstore.proofs.tests.all_tables_have_sizes.Given as goal

-- the store stands for the machine still
abbrev pub invariant-loop-table-2 : goal.invariant-loop-table-2
invariant-loop-table-2 g l = record {
  stands : Stands l.store (steady_meaning l.machine);
}
