-- A seventeenth chunk is of no catalogue.
use Rattle.std.proofs.Common.{ℕ, List, Option, subst, rules, arith}
use Rattle.std.specs.Prelude.{IsSome}
use Rattle.mt_fold.specs.declared.shape.Shape.{Shape}
use Rattle.mt_catalog.specs.Found.{shape_found}
use Rattle.mt_catalog.specs.Keyed.{slot_in}
use Rattle.mt_catalog.proofs.Chunks.{too_many_chunks}
use Rattle.mt_catread.proofs.folds.read_fold.Goals as goal

pub returns-in_err-shapes-clause-damaged : goal.returns-in_err-shapes-clause-damaged
returns-in_err-shapes-clause-damaged c damaged state is =
    let some : IsSome (shape_found c.as_slice.result.now 16) = c.in_err-shapes.ensures.damaged (first_of (search rules, grind arith)) in
    too_many_chunks (slot_in c.args.slots.now.entries) c.args.tenant c.args.base c.args.generation c.args.columns c.in_ok-fields.fields c.in_ok-fields.ensures
    (subst (λ (of : List (Option (Shape × ℕ × ℕ))). IsSome (shape_found of 16)) c.as_slice.ensures some) state is
