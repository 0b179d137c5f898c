-- The rules that the slots of a tenant's table keep.
use Rattle.std.specs.Prelude.{◌≡◌, ℕ, ◌≤◌, ◌<◌, List, map, slice_get, take, Some}
use Rattle.mt_codec.specs.declared.field.FieldKind.{FieldKind}
use Rattle.mt_codec.specs.declared.field.FieldKind.TheVariants as field_kinds
use Rattle.mt_rowfile.specs.declared.slot.SlotRow.{SlotRow}
use Rattle.mt_rowfile.specs.Fields.{AreFitting}
use Rattle.mt_rowfile.specs.Layouts.{chunk_kinds}
use Rattle.mt_physplan.specs.Content.{Content}
use Rattle.mt_tree.specs.declared.schema.Column.{Column}
use Rattle.mt_tree.specs.declared.schema.Kind.{Kind}
use Rattle.mt_tree.specs.declared.schema.Kind.TheVariants.{Integer, Varchar}
use Rattle.mt_tree.specs.Rows.{AreSound}
use Rattle.mt_fold.specs.declared.shape.Shape.{Shape}
use Rattle.mt_fold.specs.Placements.{chunk_number, folded_at}
use Rattle.mt_rows.specs.Assembled.{Kept, assembled}
use Rattle.mt_rows.specs.Series.{Series, anchors_of, chunk_of, slot_at}

-- A row of a chunk of the fold in which its Row lies, beside an anchor.
pub record IsChunkRow (content : Content) (kept : Kept) (series : Series) (row : ℕ) : Type 0 where
  pub chunk : ℕ
  pub shape : Shape
  pub chunk_is : slice_get (folded_at kept.placement row).fold.shapes chunk ≡ Some shape
  pub series_is : series ≡ chunk_of kept.tenant kept.base shape (chunk_number (folded_at kept.placement row) chunk)
  pub anchor : SlotRow
  pub anchored : slot_at content (anchors_of kept.tenant kept.base) row ≡ Some anchor

-- the field of a conventional row in which a base column of this kind lies
abbrev pub conventional_kind : Kind → FieldKind
conventional_kind Integer = field_kinds.Int
conventional_kind (Varchar size) = field_kinds.Text size

-- the fields of a conventional row, by the base table's columns
abbrev pub conventional_kinds : List Column → List FieldKind
conventional_kinds columns = map (λ column. conventional_kind column.kind) columns

-- The slots of a tenant's table with these columns, the first so many of which are the base table's,
-- and of which so many rows were ever made.
pub record KeepsRules (content : Content) (kept : Kept) (columns : List Column) (base_len made : ℕ) : Type 0 where
  -- each anchor's Row was made
  pub below : (row : ℕ) (anchor : SlotRow) → slot_at content (anchors_of kept.tenant kept.base) row ≡ Some anchor → row < made
  -- each row of a chunk stands beside an anchor, in the fold of its Row
  pub chunks : (series : Series) (row : ℕ) (slot : SlotRow) → 1 ≤ series.table → series.table ≤ 6 → series.tenant ≡ kept.tenant → series.base ≡ kept.base
      → slot_at content series row ≡ Some slot → IsChunkRow content kept series row
  -- each slot has the fields of its table
  pub anchors_fit : (row : ℕ) (anchor : SlotRow) → slot_at content (anchors_of kept.tenant kept.base) row ≡ Some anchor → AreFitting (conventional_kinds (take base_len columns)) anchor.values
  pub chunks_fit : (series : Series) (row : ℕ) (slot : SlotRow) → 1 ≤ series.table → series.table ≤ 6 → series.tenant ≡ kept.tenant → series.base ≡ kept.base
      → slot_at content series row ≡ Some slot → AreFitting (chunk_kinds series.table) slot.values
  pub sound : AreSound columns (assembled content kept)
