use Rattle.std.proofs.Common.{◌≡◌, ◌++◌, map, take, drop, count_by}
use Rattle.std.specs.List.{range_with_len}
use Rattle.mt_codec.specs.declared.field.FieldKind.TheVariants.{Int, Text}
use Rattle.mt_fold.specs.Extended.{kinds_of, place_taken, places_from}
use Rattle.mt_fold.specs.Free.{HaveFewChunks, free_fields}
use Rattle.mt_fold.specs.Shapes.{same_sort}
use Rattle.mt_fold.proofs.extend.all_places.Given as goal

abbrev pub invariant-loop-column : goal.invariant-loop-column
invariant-loop-column l = record {
  placed : l.places.items ≡ l.old ++ map (place_taken l.first l.shapes (kinds_of l.added)) (range_with_len 0 l.column-index);
  numbers_left : free_fields l.numbers ≡ drop (count_by (same_sort Int) (take l.column-index (kinds_of l.added))) (places_from Int l.first l.shapes);
  numbers_few : HaveFewChunks l.numbers;
  texts_left : free_fields l.texts ≡ drop (count_by (same_sort (Text 120)) (take l.column-index (kinds_of l.added))) (places_from (Text 120) l.first l.shapes);
  texts_few : HaveFewChunks l.texts;
}
