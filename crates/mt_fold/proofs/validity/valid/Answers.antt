use Rattle.std.proofs.Common.{sym, ◌∙◌}
use Rattle.std.proofs.lemmas.Bool.{false≢true}
use Rattle.mt_fold.proofs.Uses.{parts_by, valid_by}
use Rattle.mt_fold.proofs.validity.valid.Goals as goal
use Rattle.mt_fold.proofs.validity.valid.Goals.{then-columns_are_placed, else-columns_are_placed}

pub returns-then-chunks_are_used : goal.returns-then-chunks_are_used
returns-then-chunks_are_used c =
    let fold = c.args.fold.now in
    let columns = c.args.columns.now in
    let shapes = c.as_slice-shapes.result.now in
    let places = c.as_slice-places.result.now in
    let listed = c.as_slice-columns.result.now in
    elim c.if-columns_are_placed.branch [
      | then-columns_are_placed w ↦ (
        λ passed.
            valid_by fold columns c.args.base_len shapes places listed c.as_slice-shapes.ensures c.as_slice-places.ensures c.as_slice-columns.ensures
            (c.columns_are_placed.ensures.0 w.if-columns_are_placed.true, w.chunks_are_used.ensures.0 (sym w.value-is ∙ c.if-chunks_are_used.true), c.fields_are_used.ensures.0 passed),
        λ valid. c.fields_are_used.ensures.1 (parts_by fold columns c.args.base_len shapes places listed c.as_slice-shapes.ensures c.as_slice-places.ensures c.as_slice-columns.ensures valid).2,
      )
      | else-columns_are_placed w ↦ absurd (false≢true (sym w.if-columns_are_placed.false ∙ sym w.value-is ∙ c.if-chunks_are_used.true))
    ]

pub returns-else-chunks_are_used : goal.returns-else-chunks_are_used
returns-else-chunks_are_used c =
    let fold = c.args.fold.now in
    let columns = c.args.columns.now in
    let shapes = c.as_slice-shapes.result.now in
    let places = c.as_slice-places.result.now in
    let listed = c.as_slice-columns.result.now in (
      λ passed. absurd (false≢true (sym c.if-chunks_are_used.false ∙ passed)),
      λ valid.
          let parts = parts_by fold columns c.args.base_len shapes places listed c.as_slice-shapes.ensures c.as_slice-places.ensures c.as_slice-columns.ensures valid in
          elim c.if-columns_are_placed.branch [
            | then-columns_are_placed w ↦ w.value-is ∙ w.chunks_are_used.ensures.1 parts.1
            | else-columns_are_placed w ↦ w.value-is ∙ c.columns_are_placed.ensures.1 parts.0
          ],
    )
