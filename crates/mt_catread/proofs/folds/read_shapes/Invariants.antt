-- The shapes so far were found, one of each chunk.
use Rattle.std.proofs.Common.{◌≡◌, ℕ, length, Some}
use Rattle.std.specs.Prelude.{slice_get}
use Rattle.mt_fold.specs.declared.shape.Shape.{Shape}
use Rattle.mt_catalog.specs.Found.{shape_found}
use Rattle.mt_catread.proofs.folds.read_shapes.Given as goal

abbrev pub invariant-loop-chunk : goal.invariant-loop-chunk
invariant-loop-chunk l = record {
  size : length l.shapes ≡ l.chunk;
  each : (n : ℕ) (shape : Shape) → slice_get l.shapes n ≡ Some shape → shape_found l.fields n ≡ Some shape;
}
