use Rattle.mt_staging.specs.Few.{AreFew}
use Rattle.mt_staging.proofs.Counting.{few_after, few_counted}
use Rattle.mt_staging.proofs.group.Group.remove_body.Goals as goal

pub invariant_of-self-in-Some : goal.invariant_of-self-in-Some
invariant_of-self-in-Some c = record {
  few_taken = few_after c.args.self.now.body c.write.new.body _ c.args.self.now.taken c.args.self.now.few_taken c.in_ok-write-in-Some.ensures.ok;
  few_freed = few_counted c.args.self.now.body c.write.new.body _ c.args.self.now.freed c.count_one.new.counts c.args.table c.args.self.now.few_freed c.in_ok-write-in-Some.ensures.ok c.count_one.ensures;
}
