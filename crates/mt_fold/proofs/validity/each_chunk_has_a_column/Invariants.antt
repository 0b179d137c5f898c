use Rattle.std.proofs.Common.{◌<◌, ℕ}
use Rattle.mt_fold.specs.Clauses.{HasColumn}
use Rattle.mt_fold.proofs.validity.each_chunk_has_a_column.Given as goal

abbrev pub invariant-loop-chunk : goal.invariant-loop-chunk
invariant-loop-chunk l = (chunk : ℕ) → chunk < l.chunk → HasColumn l.places chunk
