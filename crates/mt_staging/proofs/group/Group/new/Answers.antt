use Rattle.std.proofs.Common.{refl}
use Rattle.mt_staging.specs.Few.{AreFew}
use Rattle.mt_staging.specs.States.{IsEmptyGroup}
use Rattle.mt_staging.proofs.Counting.{few_none, none_counted}
use Rattle.mt_staging.proofs.group.Group.new.Goals as goal

pub invariant_of-result : goal.invariant_of-result
invariant_of-result c = record { few_taken = few_none c.in_ok-new.field-0; few_freed = few_none c.in_ok-new.field-0 }

pub returns : goal.returns
returns c = record { ranges = c.in_ok-new.ensures; places_are = refl; added = c.new-2.ensures; taken = none_counted; freed = none_counted }
