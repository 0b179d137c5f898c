use Rattle.std.proofs.Common.{◌≡◌, length}
use Rattle.mt_fold.specs.Free.{HaveFewChunks, free_fields}
use Rattle.mt_fold.proofs.extend.Fields.take_first.Given as goal

abbrev pub invariant-loop-shape : goal.invariant-loop-shape
invariant-loop-shape l = record { same : free_fields l.self ≡ free_fields l.initial.self; few : HaveFewChunks l.self }

abbrev pub decreases-loop-shape : goal.decreases-loop-shape
decreases-loop-shape l = length l.self.shapes.now
