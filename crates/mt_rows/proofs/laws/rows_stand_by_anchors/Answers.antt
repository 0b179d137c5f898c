-- Each row is that of an anchor, and each anchor stands at a Row that was made.
use Rattle.std.proofs.Common.{map, ap, ◌∙◌}
use Rattle.std.specs.List.{range_with_len}
use Rattle.mt_rows.specs.Assembled.{row_of}
use Rattle.mt_rows.specs.Series.{anchors_of, slot_at}
use Rattle.mt_rows.proofs.ByRow.{map_of_filter_map, slots_by_row}
use Rattle.mt_rows.proofs.laws.rows_stand_by_anchors.Goals as goal

pub returns : goal.returns
returns c = λ content kept columns base_len made rules.
    ap (map (row_of content kept)) (slots_by_row content (anchors_of kept.tenant kept.base) made rules.below)
    ∙ map_of_filter_map (row_of content kept) (slot_at content (anchors_of kept.tenant kept.base)) (range_with_len 0 made)
