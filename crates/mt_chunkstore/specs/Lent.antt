-- A store and its machine, lent for scans, as physical tables.
use Rattle.std.specs.Prelude.{IsTrue, slice_index}
use Rattle.mt_machine.specs.declared.machine.Area.TheVariants.{Pages}
use Rattle.mt_machine.specs.Leaves.{Looks}
use Rattle.mt_machine.specs.Meaning.{Meaning}
use Rattle.mt_physplan.specs.Phys.{PhysMeaning}
use Rattle.mt_tables.specs.Rows.{ArePages, rows_of}
use Rattle.mt_directory.specs.Known.{known_in}
use Rattle.mt_chunkstore.specs.declared.store.Store.{Store}
use Rattle.mt_chunkstore.specs.Standing.{SameStore}

-- What they stand for: the rows of the pages by the layouts that are known. They tell it where the
-- machine tells its content, each slot can be read, and no two in use have one key.
abbrev pub lent_meaning : Store → Meaning → PhysMeaning
lent_meaning store machine = record {
  tells = IsTrue machine.tells × ArePages (known_in store.layouts) (machine.content Pages);
  content = rows_of (known_in store.layouts) (machine.content Pages);
  scans = slice_index store.scans.each;
  faults = machine.disk_faults;
}

-- what scans leave: the store but for its counts of scans, and the machine but for its faults
pub record LentScanned (old_store new_store : Store) (old new : Meaning) : Type 0 where
  pub same : SameStore old_store new_store
  pub looks : Looks old new
