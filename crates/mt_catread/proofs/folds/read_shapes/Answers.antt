-- One shape more; a seventeenth chunk has one.
use Rattle.std.proofs.Common.{◌≡◌, ℕ, ◌∙◌, List, [], ◌∷◌, ◌++◌, length, Option, Some, sym, ap, subst, arith}
use Rattle.std.specs.Prelude.{slice_get, is_some}
use Rattle.std.proofs.lemmas.List.{length-append}
use Rattle.mt_fold.specs.declared.shape.Shape.{Shape}
use Rattle.mt_catalog.specs.Found.{shape_found}
use Rattle.mt_catalog.proofs.Runs.{present, run_pushed}
use Rattle.mt_catread.proofs.folds.read_shapes.Goals as goal

pub loop-chunk-preserved : goal.loop-chunk-preserved
loop-chunk-preserved c =
    let shapes : List Shape = c.loop-chunk.shapes in
    let pushed : c.push.new.self ≡ shapes ++ c.in-Some.shape ∷ [] = c.in_ok-push.ensures.ok in
    let stands : ℕ → Shape → Type 0 = λ n shape. shape_found c.args.fields.now n ≡ Some shape in
    let here : stands c.loop-chunk.chunk c.in-Some.shape = sym c.in-Some.ensures in
    record {
      size = ap length pushed ∙ omega (arith, length-append shapes (c.in-Some.shape ∷ []), c.loop-chunk.invariant.size);
      each = λ n shape is. run_pushed stands shapes c.in-Some.shape c.loop-chunk.invariant.each
          (subst (λ (n : ℕ). stands n c.in-Some.shape) (sym c.loop-chunk.invariant.size) here) n shape (subst (λ (of : List Shape). slice_get of n ≡ Some shape) pushed is);
    }

pub returns-clause-damaged : goal.returns-clause-damaged
returns-clause-damaged c damaged =
    let size : length c.loop-chunk.shapes ≡ 17 = omega (arith, c.loop-chunk.invariant.size, c.loop-chunk-test.false, c.loop-chunk.auto.chunk-end) in
    let last = present c.loop-chunk.shapes 16 (omega (arith, size)) in
    ap (λ (o : Option Shape). is_some o) (c.loop-chunk.invariant.each 16 last.0 last.1)
