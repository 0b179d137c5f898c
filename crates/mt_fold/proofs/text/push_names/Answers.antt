-- The next pair of a place and a column is the next of those that are looked at.
use Rattle.std.proofs.Common.{◌≡◌, ◌++◌, ◌∷◌, [], length, refl, sym, ap, ◌∙◌, arith}
use Rattle.std.proofs.lemmas.List.{length_push}
use Rattle.std.proofs.lemmas.Slice.Zip.{length-zip, zip_end, zip_turn}
use Rattle.mt_fold.specs.Parts.{first_behind, parts_text, separator}
use Rattle.mt_fold.proofs.Printed.{behind_more, names_all, names_among, names_with, names_without, part_more}
use Rattle.mt_fold.proofs.text.push_names.Goals as goal

pub loop-at-preserved-then-is_place : goal.loop-at-preserved-then-is_place
loop-at-preserved-then-is_place c =
    let places = c.args.fold.now.places in
    let columns = c.args.columns.now in
    let first : c.into_iter-at-iterator.result.a.rest.now ≡ places = cc in
    let second : c.into_iter-at-iterator.result.b.rest.now ≡ columns = cc in
    let turn = zip_turn places columns c.loop-at.yielded c.into_iter-at-iterator.result c.loop-at.at-iterator c.next.new.self c.next.result first second c.loop-at.yielded_by (c.in-Some.at, c.in-Some.column) c.in-Some.is c.next.ensures.steps in
    let at = c.in-Some.at.now in
    let column = c.in-Some.column.now in
    let count = length c.loop-at.yielded in
    let more = names_with places columns c.args.place at column count _ (length_push c.loop-at.yielded (c.in-Some.at, c.in-Some.column)) turn.0 turn.1 (turn.2 at) (turn.3 column) (sym c.is_place.ensures ∙ c.if-is_place.true) in
    let so_far = names_among places columns c.args.place count in
    let push : c.push_bytes.new.self ≡ (c.loop-at.into ++ separator c.loop-at.first) ++ column.name = cc (c.in_ok-push_bytes.ensures.ok, c.in_ok-push_separator.ensures, c.as_bytes.ensures.value, c.as_str.ensures) in
    record {
      text =
          part_more c.args.first c.loop-at.first c.args.into.now c.loop-at.into c.push_bytes.new.self column.name so_far c.loop-at.invariant.text c.loop-at.invariant.behind push
          ∙ ap (λ names. c.args.into.now ++ parts_text c.args.first names) (sym more);
      behind = behind_more c.args.first c.loop-at.first _ so_far (column.name ∷ []) c.loop-at.invariant.behind refl ∙ ap (first_behind c.args.first) (sym more);
    }

pub loop-at-preserved : goal.loop-at-preserved
loop-at-preserved c =
    let places = c.args.fold.now.places in
    let columns = c.args.columns.now in
    let first : c.into_iter-at-iterator.result.a.rest.now ≡ places = cc in
    let second : c.into_iter-at-iterator.result.b.rest.now ≡ columns = cc in
    let turn = zip_turn places columns c.loop-at.yielded c.into_iter-at-iterator.result c.loop-at.at-iterator c.next.new.self c.next.result first second c.loop-at.yielded_by (c.in-Some.at, c.in-Some.column) c.in-Some.is c.next.ensures.steps in
    let at = c.in-Some.at.now in
    let column = c.in-Some.column.now in
    let count = length c.loop-at.yielded in
    let same = names_without places columns c.args.place at column count _ (length_push c.loop-at.yielded (c.in-Some.at, c.in-Some.column)) turn.0 turn.1 (turn.2 at) (turn.3 column) (sym c.is_place.ensures ∙ c.if-is_place.false) in
    record {
      text = c.loop-at.invariant.text ∙ ap (λ names. c.args.into.now ++ parts_text c.args.first names) (sym same);
      behind = c.loop-at.invariant.behind ∙ ap (first_behind c.args.first) (sym same);
    }

pub returns-clause-text : goal.returns-clause-text
returns-clause-text c =
    let places = c.args.fold.now.places in
    let columns = c.args.columns.now in
    let first : c.into_iter-at-iterator.result.a.rest.now ≡ places = cc in
    let second : c.into_iter-at-iterator.result.b.rest.now ≡ columns = cc in
    let end = zip_end places columns c.loop-at.yielded c.into_iter-at-iterator.result c.loop-at.at-iterator c.next.new.self c.next.result first second c.loop-at.yielded_by c.in-None.is c.next.ensures.steps in
    let all = names_all c.args.fold.now columns c.args.place (length c.loop-at.yielded) (omega (arith, end, length-zip places columns)) in
    c.loop-at.invariant.text ∙ ap (λ names. c.args.into.now ++ parts_text c.args.first names) all

pub returns-clause-first : goal.returns-clause-first
returns-clause-first c =
    let places = c.args.fold.now.places in
    let columns = c.args.columns.now in
    let first : c.into_iter-at-iterator.result.a.rest.now ≡ places = cc in
    let second : c.into_iter-at-iterator.result.b.rest.now ≡ columns = cc in
    let end = zip_end places columns c.loop-at.yielded c.into_iter-at-iterator.result c.loop-at.at-iterator c.next.new.self c.next.result first second c.loop-at.yielded_by c.in-None.is c.next.ensures.steps in
    let all = names_all c.args.fold.now columns c.args.place (length c.loop-at.yielded) (omega (arith, end, length-zip places columns)) in
    c.loop-at.invariant.behind ∙ ap (first_behind c.args.first) all
