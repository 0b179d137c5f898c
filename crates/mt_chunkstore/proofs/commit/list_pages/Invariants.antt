use Rattle.std.proofs.Common.{◌≡◌, ◌+◌, ◌++◌, map, take}
use Rattle.mt_directory.specs.Directory.{listed_table}
use Rattle.mt_staging.specs.States.{group_of}
use Rattle.mt_chunkstore.proofs.commit.list_pages.Given as goal

-- so many of the pages are listed, and there is room for the others
abbrev pub invariant-loop-i : goal.invariant-loop-i
invariant-loop-i l = record {
  tables : l.directory.tables ≡ l.fn.directory.tables ++ map listed_table (take l.i (group_of l.fn.group).added);
  room : l.directory.room + l.i ≡ l.fn.directory.room;
}
