-- The slots of physical tables as they are found by their identifiers and Row.
use Rattle.std.specs.Prelude.{ℕ, ◌+◌, Bool, ◌&&◌, nat_eq, List, Option, option_map}
use Rattle.std.specs.FinMap as finite
use Rattle.mt_rowfile.specs.declared.slot.SlotRow.{SlotRow}
use Rattle.mt_physplan.specs.declared.key.Key.{Key}
use Rattle.mt_physplan.specs.declared.scan.Scan.{Scan}
use Rattle.mt_physplan.specs.Content.{Content, slots_in_order}
use Rattle.mt_physplan.specs.Keys.{slot_in}
use Rattle.mt_fold.specs.declared.shape.Shape.{Shape}
use Rattle.mt_fold.specs.Shapes.{shape_table}

-- The identifiers that the anchors of a tenant's table share, or the rows of one of its chunks. The
-- slots with these identifiers are told apart by their Row.
pub record Series : Type 0 where
  -- the physical table
  pub table : ℕ
  pub tenant : ℕ
  pub base : ℕ
  pub chunk : ℕ

-- the anchors of a tenant's table, which stand in the conventional table of its base table
abbrev pub anchors_of : ℕ → ℕ → Series
anchors_of tenant base = record { table = 16 + base; tenant = tenant; base = 0; chunk = 0 }

-- the rows of a chunk with this shape and number of a tenant's table
abbrev pub chunk_of : ℕ → ℕ → Shape → ℕ → Series
chunk_of tenant base shape number = record { table = shape_table shape; tenant = tenant; base = base; chunk = number }

-- the key of a slot
abbrev pub key_at : Series → ℕ → Key
key_at series row = record { table = series.table; tenant = series.tenant; base = series.base; chunk = series.chunk; row = row }

-- the slot with this Row, if there is one
abbrev pub slot_at : Content → Series → ℕ → Option SlotRow
slot_at content series row = option_map (slot_in (key_at series row)) (finite.get content (key_at series row))

-- whether a key has these identifiers
abbrev pub in_series : Series → Key → Bool
in_series series key = nat_eq key.table series.table && nat_eq key.tenant series.tenant && nat_eq key.base series.base && nat_eq key.chunk series.chunk

-- all slots with these identifiers, in order of Row
abbrev pub slots_of : Content → Series → List SlotRow
slots_of content series = slots_in_order (finite.retain_keys content (in_series series))

-- the scan of those whose Row is at least the one and below the other
abbrev pub scan_of : Series → ℕ → ℕ → Scan
scan_of series from upto = record { table = series.table; tenant = series.tenant; base = series.base; chunk = series.chunk; from = from; upto = upto }
