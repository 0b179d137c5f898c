use Rattle.std.proofs.Common.{refl, sym, ◌∙◌, below_more, arith}
use Rattle.std.proofs.lemmas.Bool.{false≢true}
use Rattle.std.proofs.lemmas.Option.{slice_get_within}
use Rattle.mt_fold.specs.Clauses.{Follows}
use Rattle.mt_fold.proofs.Uses.{at_same_field, not_conv, place_found}
use Rattle.mt_fold.proofs.validity.first_fields_first.Goals as goal
use Rattle.mt_fold.proofs.validity.first_fields_first.Goals.{in-Field+else-not-follows, in_default}

pub loop-place-preserved : goal.loop-place-preserved
loop-place-preserved c =
    let shapes = c.args.shapes.now in
    let places = c.args.places.now in
    let n = c.loop-place.place-index in
    below_more _ _ c.loop-place.invariant (λ chunk field at. elim c.match-place.branch as (λ _. Follows shapes places chunk field) [
      | in-Field+else-not-follows w ↦ at_same_field places n chunk field w.in-Field.chunk w.in-Field.field (λ other there. Follows shapes places other there → Follows shapes places chunk field) at w.in-Field.is (λ follows. follows) (w.follows.ensures.0 w.if-not-follows.false)
      | in_default w ↦ absurd (not_conv places n chunk field at w.in_default.is)
    ])

pub returns-then-not-follows : goal.returns-then-not-follows
returns-then-not-follows c = (
  λ e. absurd (false≢true e),
  λ first.
      let at = place_found c.args.places.now c.loop-place.place-index c.in-Field.chunk c.in-Field.field c.loop-place-test.true c.in-Field.is in
      sym c.if-not-follows.true ∙ c.follows.ensures.1 (first c.loop-place.place-index c.in-Field.chunk c.in-Field.field at),
)

pub returns : goal.returns
returns c = (λ _ column chunk field at. c.loop-place.invariant column (omega (arith, slice_get_within c.args.places.now column _ at)) chunk field at, λ _. refl)
