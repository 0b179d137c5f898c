use Rattle.std.proofs.Common.{length, drop, slice_index_or, sym, ap, ◌∙◌, arith}
use Rattle.std.proofs.lemmas.List.{drop-drop}
use Rattle.mt_fold.specs.declared.fold.Place.TheVariants.{Conv}
use Rattle.mt_fold.specs.Extended.{places_from}
use Rattle.mt_fold.proofs.Taken.{first_left, rest_left}
use Rattle.mt_fold.proofs.extend.Fields.take_first.Goals as goal

pub loop-shape-preserved : goal.loop-shape-preserved
loop-shape-preserved c =
    let fields = c.loop-shape.self in
    let size = ap length c.in-Some.ensures.cases.0 in
    record {
      same =
          rest_left fields.kind fields.chunk fields.taken _ _ c.in-Some.shape.now c.in-Some.behind.now c.range_of-start.ensures c.if-self-count.false
          ∙ ap (λ shapes. drop fields.taken (places_from fields.kind fields.chunk shapes)) (sym c.in-Some.ensures.cases.0)
          ∙ c.loop-shape.invariant.same;
      few = omega (arith, size);
    }

pub returns-then-self-count-clause-first : goal.returns-then-self-count-clause-first
returns-then-self-count-clause-first c =
    let fields = c.loop-shape.self in
    sym (first_left fields.kind fields.chunk fields.taken _ _ c.in-Some.shape.now c.in-Some.behind.now c.range_of-start.ensures c.if-self-count.true)
    ∙ ap (λ shapes. slice_index_or (drop fields.taken (places_from fields.kind fields.chunk shapes)) 0 Conv) (sym c.in-Some.ensures.cases.0)
    ∙ ap (λ left. slice_index_or left 0 Conv) c.loop-shape.invariant.same

pub returns-then-self-count-clause-rest : goal.returns-then-self-count-clause-rest
returns-then-self-count-clause-rest c =
    let fields = c.loop-shape.self in
    sym (drop-drop 1 fields.taken (places_from fields.kind fields.chunk fields.shapes.now)) ∙ ap (drop 1) c.loop-shape.invariant.same
