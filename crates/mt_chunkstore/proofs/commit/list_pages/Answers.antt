use Rattle.std.proofs.Common.{arith}
use Rattle.mt_chunkstore.proofs.Committing.{listed_more}
use Rattle.mt_chunkstore.proofs.commit.list_pages.Goals as goal

pub loop-i-preserved : goal.loop-i-preserved
loop-i-preserved c = record {
  tables = listed_more c.loop-i.directory.tables c.push_reserved.new.self.tables c.args.directory.now.tables c.args.group.now.added c.loop-i.i c.added_table.result c.added_table.ensures c.push_reserved.ensures.tables c.loop-i.invariant.tables;
  room = (let one = c.push_reserved.ensures.room in let so_far = c.loop-i.invariant.room in omega arith);
}
