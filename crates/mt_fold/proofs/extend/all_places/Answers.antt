-- A column takes the first field that is left of its sort, and of the other sort all are left.
use Rattle.std.proofs.Common.{slice_index_or, drop, refl, sym, ap, subst, ◌∙◌}
use Rattle.mt_codec.specs.declared.field.FieldKind.TheVariants.{Int, Text}
use Rattle.mt_tree.specs.declared.schema.Kind.TheVariants.{Integer, Varchar}
use Rattle.mt_fold.specs.declared.fold.Place.TheVariants.{Conv}
use Rattle.mt_fold.specs.Extended.{kinds_of, place_taken}
use Rattle.mt_fold.specs.Free.{HaveFewChunks, free_fields}
use Rattle.mt_fold.proofs.Taken.{kind_known, next_taken, placed_more, rest_of_other, rest_of_own}
use Rattle.mt_fold.proofs.extend.all_places.Goals as goal
use Rattle.mt_fold.proofs.extend.all_places.Goals.{in-Integer, in-Varchar}

pub loop-column-preserved : goal.loop-column-preserved
loop-column-preserved c =
    let first = c.args.first in
    let shapes = c.args.shapes.now in
    let kinds = kinds_of c.args.added.now in
    let column = c.loop-column.column-index in
    let so_far = c.loop-column.invariant in
    elim c.match-column.branch [
      | in-Integer w ↦
          let kind = kind_known c.args.added.now column c.column-item.result Integer c.loop-column-test.true c.column-item.is w.in-Integer.is in
          record {
            placed =
                placed_more (place_taken first shapes kinds) c.args.old.now c.loop-column.places.items c.push.new.self.items c.match-column.place column so_far.placed c.in_ok-push.ensures.items
                (w.place-is ∙ w.take_first-place.ensures.first ∙ ap (λ left. slice_index_or left 0 Conv) so_far.numbers_left ∙ next_taken first column shapes kinds Int kind);
            numbers_left = ap free_fields w.numbers-is ∙ w.take_first-place.ensures.rest ∙ ap (drop 1) so_far.numbers_left ∙ rest_of_own first column shapes kinds Int kind;
            numbers_few = subst HaveFewChunks (sym w.numbers-is) w.take_first-place.ensures.few;
            texts_left = ap free_fields w.texts-is ∙ so_far.texts_left ∙ rest_of_other first column shapes kinds Int (Text 120) kind refl;
            texts_few = subst HaveFewChunks (sym w.texts-is) so_far.texts_few;
          }
      | in-Varchar w ↦
          let kind = kind_known c.args.added.now column c.column-item.result (Varchar w.in-Varchar.field-0) c.loop-column-test.true c.column-item.is w.in-Varchar.is in
          record {
            placed =
                placed_more (place_taken first shapes kinds) c.args.old.now c.loop-column.places.items c.push.new.self.items c.match-column.place column so_far.placed c.in_ok-push.ensures.items
                (w.place-is ∙ w.take_first-place-in-Varchar.ensures.first ∙ ap (λ left. slice_index_or left 0 Conv) so_far.texts_left ∙ next_taken first column shapes kinds (Text 120) kind);
            numbers_left = ap free_fields w.numbers-is ∙ so_far.numbers_left ∙ rest_of_other first column shapes kinds (Text 120) Int kind refl;
            numbers_few = subst HaveFewChunks (sym w.numbers-is) so_far.numbers_few;
            texts_left = ap free_fields w.texts-is ∙ w.take_first-place-in-Varchar.ensures.rest ∙ ap (drop 1) so_far.texts_left ∙ rest_of_own first column shapes kinds (Text 120) kind;
            texts_few = subst HaveFewChunks (sym w.texts-is) w.take_first-place-in-Varchar.ensures.few;
          }
    ]
