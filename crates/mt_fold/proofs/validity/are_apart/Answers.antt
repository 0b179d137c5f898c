use Rattle.std.proofs.Common.{refl, sym, ◌∙◌, take, arith}
use Rattle.std.proofs.lemmas.Bool.{false≢true}
use Rattle.std.proofs.lemmas.Option.{slice_get_within}
use Rattle.mt_fold.specs.Clauses.{IsTaken}
use Rattle.mt_fold.proofs.Uses.{apart_more, at_same_field, not_conv}
use Rattle.mt_fold.proofs.validity.are_apart.Goals as goal
use Rattle.mt_fold.proofs.validity.are_apart.Goals.{in-Field+else-is_taken, in_default}

pub loop-column-preserved : goal.loop-column-preserved
loop-column-preserved c =
    let places = c.args.places.now in
    let n = c.loop-column.column in
    apart_more places n (λ chunk field at taken. elim c.match-place.branch as (λ _. ⊥) [
      | in-Field+else-is_taken w ↦
          let there = at_same_field places n chunk field w.in-Field.chunk w.in-Field.field (IsTaken (take n places)) at w.in-Field.is taken in
          false≢true (sym w.if-is_taken.false ∙ w.is_taken.ensures.1 there)
      | in_default w ↦ not_conv places n chunk field at w.in_default.is
    ]) c.loop-column.invariant

pub returns : goal.returns
returns c = (
  λ _ a b chunk field at_a at_b.
      c.loop-column.invariant a b chunk field (omega (arith, slice_get_within c.args.places.now a _ at_a)) (omega (arith, slice_get_within c.args.places.now b _ at_b)) at_a at_b,
  λ _. refl,
)
