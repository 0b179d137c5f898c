use Rattle.std.proofs.Common.{◌≡◌, length, Some, subst₂, refl, arith}
use Rattle.std.proofs.lemmas.List.{length_push}
use Rattle.std.proofs.lemmas.Option.{slice_get_read, slice_get_within}
use Rattle.std.proofs.lemmas.Slice.Zip.{zip_end, zip_turn}
use Rattle.mt_fold.specs.Clauses.{kind_at}
use Rattle.mt_fold.specs.Shapes.{chunk_kind}
use Rattle.mt_fold.proofs.Uses.{fit_more}
use Rattle.mt_fold.proofs.validity.fields_fit.Goals as goal

pub loop-place-preserved-else-not-is_of_kind : goal.loop-place-preserved-else-not-is_of_kind
loop-place-preserved-else-not-is_of_kind c =
    let shapes = c.args.shapes.now in
    let places = c.args.places.now in
    let columns = c.args.columns.now in
    let place = c.in-Some.place.now in
    let column = c.in-Some.column.now in
    let first : c.into_iter-place-iterator.result.a.rest.now ≡ places = cc in
    let second : c.into_iter-place-iterator.result.b.rest.now ≡ columns = cc in
    let turn = zip_turn places columns c.loop-place.yielded c.into_iter-place-iterator.result c.loop-place.place-iterator c.next.new.self c.next.result first second c.loop-place.yielded_by (c.in-Some.place, c.in-Some.column) c.in-Some.is c.next.ensures.steps in
    let n = length c.loop-place.yielded in
    fit_more shapes places columns n _ place column (length_push c.loop-place.yielded (c.in-Some.place, c.in-Some.column)) (slice_get_read places _ n place refl turn.0 (turn.2 place))
    (slice_get_read columns _ n column refl turn.1 (turn.3 column))
    (λ chunk field is.
    let same_chunk : c.in-Field.chunk ≡ chunk = cc in
    let same_field : c.in-Field.field ≡ field = cc in
    subst₂ (λ k f. kind_at shapes k f ≡ Some (chunk_kind column.kind)) same_chunk same_field (c.is_of_kind.ensures.0 c.if-not-is_of_kind.false))
    c.loop-place.invariant

pub loop-place-preserved : goal.loop-place-preserved
loop-place-preserved c =
    let shapes = c.args.shapes.now in
    let places = c.args.places.now in
    let columns = c.args.columns.now in
    let place = c.in-Some.place.now in
    let column = c.in-Some.column.now in
    let first : c.into_iter-place-iterator.result.a.rest.now ≡ places = cc in
    let second : c.into_iter-place-iterator.result.b.rest.now ≡ columns = cc in
    let turn = zip_turn places columns c.loop-place.yielded c.into_iter-place-iterator.result c.loop-place.place-iterator c.next.new.self c.next.result first second c.loop-place.yielded_by (c.in-Some.place, c.in-Some.column) c.in-Some.is c.next.ensures.steps in
    let n = length c.loop-place.yielded in
    fit_more shapes places columns n _ place column (length_push c.loop-place.yielded (c.in-Some.place, c.in-Some.column)) (slice_get_read places _ n place refl turn.0 (turn.2 place))
    (slice_get_read columns _ n column refl turn.1 (turn.3 column))
    (λ chunk field is. absurd (c.in_default.not-Field chunk field is))
    c.loop-place.invariant

pub returns : goal.returns
returns c =
    let places = c.args.places.now in
    let columns = c.args.columns.now in
    let first : c.into_iter-place-iterator.result.a.rest.now ≡ places = cc in
    let second : c.into_iter-place-iterator.result.b.rest.now ≡ columns = cc in
    let end = zip_end places columns c.loop-place.yielded c.into_iter-place-iterator.result c.loop-place.place-iterator c.next.new.self c.next.result first second c.loop-place.yielded_by c.in-None.is c.next.ensures.steps in (
      λ _ position column chunk field column_is place_is.
          c.loop-place.invariant position (omega (arith, end, slice_get_within places position _ place_is, slice_get_within columns position _ column_is)) column chunk field column_is place_is,
      λ _. refl,
    )
