use Rattle.std.proofs.Common.{sym, ◌∙◌}
use Rattle.std.proofs.lemmas.Bool.{false≢true}
use Rattle.mt_fold.proofs.validity.fields_are_used.Goals as goal
use Rattle.mt_fold.proofs.validity.fields_are_used.Goals.{then-fields_fit, else-fields_fit}

pub returns-then-are_apart : goal.returns-then-are_apart
returns-then-are_apart c = elim c.if-fields_fit.branch [
  | then-fields_fit w ↦ (λ passed. (c.fields_fit.ensures.0 w.if-fields_fit.true, w.are_apart.ensures.0 (sym w.value-is ∙ c.if-are_apart.true), c.first_fields_first.ensures.0 passed), λ fields. c.first_fields_first.ensures.1 fields.2)
  | else-fields_fit w ↦ absurd (false≢true (sym w.if-fields_fit.false ∙ sym w.value-is ∙ c.if-are_apart.true))
]
