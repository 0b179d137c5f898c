use Rattle.std.proofs.Common.{◌≡◌, ℕ, [], ◌∷◌, ◌++◌, refl, inl, inr}
use Rattle.std.proofs.lemmas.Result.{err_from_is_err_and}
use Rattle.mt_places.specs.Held.{state_of}
use Rattle.mt_staging.specs.Few.{AreFew}
use Rattle.mt_staging.specs.States.{group_of}
use Rattle.mt_staging.specs.Steps.{PutFaults, WritesFree}
use Rattle.mt_staging.proofs.Counting.{few_after, few_counted}
use Rattle.mt_staging.proofs.group.Group.put_new_body.Goals as goal

pub returns-in_err-write-clause-disk : goal.returns-in_err-write-clause-disk
returns-in_err-write-clause-disk c =
    let p = err_from_is_err_and c.from_residual-in_err-write.result c.from_residual-in_err-write.ensures.1 in
    rw (p.1, p.2) (λ disk. inr (inl (record {
      position = c.in_ok-position.position;
      between = group_of c.free_place.new.self;
      nowhere = c.requires.nowhere;
      found = c.in_ok-position.ensures.ok;
      far = c.in_err-write.ensures.disk disk;
    })))

pub invariant_of-self-2 : goal.invariant_of-self-2
invariant_of-self-2 c = record {
  few_taken = few_counted c.free_place.new.self.body c.write.new.body _ c.free_place.new.self.taken c.count_one.new.counts c.args.table c.free_place.new.self.few_taken c.in_ok-write.ensures.ok c.count_one.ensures;
  few_freed = few_after c.free_place.new.self.body c.write.new.body _ c.free_place.new.self.freed c.free_place.new.self.few_freed c.in_ok-write.ensures.ok;
}

pub returns-clause-ok : goal.returns-clause-ok
returns-clause-ok c = record {
  position = c.in_ok-position.position;
  between = group_of c.free_place.new.self;
  nowhere = c.requires.nowhere;
  found = c.in_ok-position.ensures.ok;
  written = λ i. record {
    ranges = c.in_ok-write.ensures.ok i;
    places = record { named = c.set_body.ensures.named i; rows = c.set_body.ensures.rows i; bodies = c.set_body.ensures.bodies i; free = c.set_body.ensures.free i; wanted = c.set_body.ensures.wanted i };
    added = c.free_place.new.self.added;
    taken = c.count_one.ensures i;
    freed = (group_of c.free_place.new.self).freed;
  };
}
