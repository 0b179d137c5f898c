-- Rows that are visible, and what a SELECT prints of them.
use Rattle.std.specs.Prelude.{ℕ, List, map, filter}
use Rattle.mt_value.specs.declared.value.Value.{Value}
use Rattle.mt_value.specs.Sorted.{in_row_order}
use Rattle.mt_tree.specs.declared.schema.Column.{Column}
use Rattle.mt_tree.specs.declared.row.MarkedRow.{MarkedRow}
use Rattle.mt_model.specs.Answer.{select_text, output_names, places_of, projected}

-- their values
abbrev pub visible_values : List MarkedRow → List (List Value)
visible_values rows = map (λ row. row.values) (filter (λ row. row.visible) rows)

-- what a SELECT of these names prints
abbrev pub select_text_of : List Column → List MarkedRow → List (List ℕ) → List ℕ
select_text_of columns rows names = select_text (output_names columns names) (in_row_order (map (projected (places_of columns names)) (visible_values rows)))
