-- The rows of a tenant's table as its slots hold them: an anchor for each, and beside it the rows of
-- the chunks in which its columns lie.
use Rattle.std.specs.Prelude.{ℕ, ◌==◌, List, length, map, slice_get, slice_index_or, Option, Some, None}
use Rattle.std.specs.List.{range_with_len}
use Rattle.mt_value.specs.declared.value.Value.{Value}
use Rattle.mt_value.specs.declared.value.Value.TheVariants as value
use Rattle.mt_rowfile.specs.declared.slot.SlotRow.{SlotRow}
use Rattle.mt_physplan.specs.Content.{Content}
use Rattle.mt_tree.specs.declared.row.MarkedRow.{MarkedRow}
use Rattle.mt_fold.specs.declared.fold.Place.{Place}
use Rattle.mt_fold.specs.declared.fold.Place.TheVariants.{Conv, Field}
use Rattle.mt_fold.specs.declared.fold.Placement.{Placement}
use Rattle.mt_fold.specs.declared.shape.Shape.{Shape}
use Rattle.mt_fold.specs.Folds.{place_in}
use Rattle.mt_fold.specs.Placements.{Folded, chunk_number, folded_at}
use Rattle.mt_rows.specs.Series.{anchors_of, chunk_of, slot_at, slots_of}

-- a table of a tenant, and how its rows lie
pub record Kept : Type 0 where
  pub tenant : ℕ
  pub base : ℕ
  pub placement : Placement

-- a field of a slot
abbrev pub value_in : SlotRow → ℕ → Value
value_in slot field = slice_index_or slot.values field value.Null

-- a field of a chunk's row; NULL where that is absent
abbrev pub field_value : Option SlotRow → ℕ → Value
field_value None field = value.Null
field_value (Some slot) field = value_in slot field

-- a field of a chunk of this shape; NULL where the fold has no such chunk
abbrev pub chunk_value : Content → ℕ → ℕ → ℕ → Option Shape → ℕ → ℕ → Value
chunk_value content tenant base number None row field = value.Null
chunk_value content tenant base number (Some shape) row field = field_value (slot_at content (chunk_of tenant base shape number) row) field

-- what stands at the place of a column
abbrev pub value_at : Content → ℕ → ℕ → Folded → SlotRow → ℕ → Place → Value
value_at content tenant base folded anchor column Conv = value_in anchor column
value_at content tenant base folded anchor column (Field chunk field) =
    chunk_value content tenant base (chunk_number folded chunk) (slice_get folded.fold.shapes chunk) anchor.row field

-- the value of a column in the row of an anchor
abbrev pub column_value : Content → ℕ → ℕ → Folded → SlotRow → ℕ → Value
column_value content tenant base folded anchor column = value_at content tenant base folded anchor column (place_in folded.fold column)

-- the values of all columns
abbrev pub values_of : Content → ℕ → ℕ → Folded → SlotRow → List Value
values_of content tenant base folded anchor = map (column_value content tenant base folded anchor) (range_with_len 0 (length folded.fold.places))

-- the row of an anchor, which carries its mark
abbrev pub row_of : Content → Kept → SlotRow → MarkedRow
row_of content kept anchor = record { visible = anchor.mark == 1; values = values_of content kept.tenant kept.base (folded_at kept.placement anchor.row) anchor }

-- the rows of the table, visible and in the trashcan, in order of Row
abbrev pub assembled : Content → Kept → List MarkedRow
assembled content kept = map (row_of content kept) (slots_of content (anchors_of kept.tenant kept.base))
