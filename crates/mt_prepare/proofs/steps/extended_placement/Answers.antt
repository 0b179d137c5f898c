-- The cover of columns is filled by them.
use Rattle.std.proofs.Common.{List, sym, ap, ◌∙◌, subst}
use Rattle.mt_tree.specs.declared.schema.Column.{Column}
use Rattle.mt_fold.specs.declared.shape.Shape.{Shape}
use Rattle.mt_fold.specs.Extended.{FillShapes, kinds_of}
use Rattle.mt_fold.proofs.Cheapest.{cover_is_one}
use Rattle.mt_fold.proofs.Filled.{cover_is_filled}
use Rattle.mt_schema.specs.Steps.{cover_for}
use Rattle.mt_prepare.proofs.steps.extended_placement.Goals as goal

pub extend_fold-requires-clause-fill : goal.extend_fold-requires-clause-fill
extend_fold-requires-clause-fill c =
    let added : List Column = c.args.added.now in
    subst (λ (of : List Shape). FillShapes (kinds_of added) of) (sym (c.in_ok-shapes-in-Settled.ensures ∙ ap (λ (of : List Column). cover_for of) c.as_slice.ensures))
    (cover_is_filled (kinds_of added) (cover_for added) (cover_is_one _ _))
