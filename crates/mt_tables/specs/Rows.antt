-- The rows and the catalogue that an image's pages hold, by the layouts that are known.
use Rattle.std.specs.Prelude.{◌≡◌, ℕ, ◌==◌, ◌&&◌, nat_le, Bool, if◌then◌else◌, List, [], drop, All, Option, None, Some, IfSome, slice_index}
use Rattle.mt_journal.specs.Layout.{Area}
use Rattle.mt_rowfile.specs.declared.layout.Layout.{Layout}
use Rattle.mt_rowfile.specs.declared.layout.Head.{Head}
use Rattle.mt_rowfile.specs.declared.layout.Head.TheVariants.{Catalogue, Conventional, Chunk}
use Rattle.mt_rowfile.specs.Layouts.{IsLayout, chunk_layout, slot_width, slots_per_page}
use Rattle.mt_rowfile.specs.Slots.{IsSlot, slot_of}
use Rattle.mt_physplan.specs.declared.key.Cell.{Cell}
use Rattle.mt_physplan.specs.declared.key.Key.{Key}
use Rattle.mt_physplan.specs.Applied as applied
use Rattle.mt_physplan.specs.Applied.{body_cmp}
use Rattle.mt_physplan.specs.Content.{Content}
use Rattle.mt_physplan.specs.Keys.{cell_of, key_cmp, key_in}
use Rattle.mt_tables.specs.Pages.{SlotSizes, page_count}
use Rattle.mt_tables.specs.Tables.{TableSlot, slots_below, tables_of}
use Rattle.mt_tables.specs.Unique.{AreUnique}

-- the layouts of conventional tables that are known, by table
abbrev pub KnownLayouts : Type 0
KnownLayouts = ℕ → Option Layout

-- the layout of a table of the catalogue
abbrev pub catalogue_layout : ℕ → Layout
catalogue_layout table = record { head = Catalogue table; kinds = [] }

-- The layout of each physical table: the chunk tables are 1 to 6, those of the catalogue 8 to 13, and
-- the conventional ones, of which some are known, 16 to 31.
abbrev pub layout_of : KnownLayouts → ℕ → Option Layout
layout_of known table =
    if nat_le 1 table && nat_le table 6 then Some (chunk_layout table)
    else (if nat_le 8 table && nat_le table 13 then Some (catalogue_layout table)
    else (if nat_le 16 table && nat_le table 31 then known table else None))

-- the bytes of a slot; one where no layout is known, of which there are then no slots
abbrev pub width_by : Option Layout → ℕ
width_by None = 1
width_by (Some layout) = slot_width layout

-- the slots of a page; none where no layout is known
abbrev pub slot_count_by : Option Layout → ℕ
slot_count_by None = 0
slot_count_by (Some layout) = slots_per_page layout

-- the sizes of all tables
abbrev pub sizes_of : KnownLayouts → SlotSizes
sizes_of known = record { width = λ table. width_by (layout_of known table); count = λ table. slot_count_by (layout_of known table) }

-- the key and the rest of a slot in use with a layout of rows
abbrev pub row_under : Head → Layout → ℕ → List ℕ → Option (Key × Cell)
row_under (Catalogue number) layout table bytes = None
row_under Conventional layout table bytes = Some (key_in table (slot_of layout bytes), cell_of (slot_of layout bytes))
row_under Chunk layout table bytes = Some (key_in table (slot_of layout bytes), cell_of (slot_of layout bytes))

-- the same where the layout is known
abbrev pub row_by : Option Layout → ℕ → List ℕ → Option (Key × Cell)
row_by None table bytes = None
row_by (Some layout) table bytes = row_under layout.head layout table bytes

-- the row that a slot with this layout says; a free one says nothing
abbrev pub row_with : Option Layout → TableSlot → Option (Key × Cell)
row_with found slot = if slice_index slot.1 0 == 0 then None else row_by found slot.0 slot.1

-- the row that a slot says, by the layout of its table
abbrev pub row_in : KnownLayouts → TableSlot → Option (Key × Cell)
row_in known slot = row_with (layout_of known slot.0) slot

-- whether a table is one of the catalogue
abbrev pub is_of_catalogue : ℕ → Bool
is_of_catalogue table = nat_le 8 table && nat_le table 13

-- the slot of the catalogue that a slot in use is: its table, and the body behind its mark
abbrev pub body_in : TableSlot → Option ((ℕ × List ℕ) × Unit {0})
body_in slot =
    if slice_index slot.1 0 == 0 then None
    else (if is_of_catalogue slot.0 then Some ((slot.0, drop 1 slot.1), tt) else None)

-- the rows and parts of rows that the pages hold, by their keys
abbrev pub rows_of : KnownLayouts → Area → Content
rows_of known pages = tables_of (sizes_of known) (row_in known) pages

-- the slots in use of the catalogue
abbrev pub catalogue_of : KnownLayouts → Area → applied.Catalogue
catalogue_of known pages = tables_of (sizes_of known) body_in pages

-- a slot of a table of which a layout is known is free, or can be read
abbrev pub IsReadableSlot : KnownLayouts → TableSlot → Type 0
IsReadableSlot known slot = IfSome (layout_of known slot.0) (λ layout. IsSlot layout slot.1)

-- the layouts that are known are of conventional tables
abbrev pub AreKnown : KnownLayouts → Type 0
AreKnown known = (table : ℕ) → IfSome (known table) (λ layout. (layout.head ≡ Conventional) × IsLayout layout)

-- Each slot of a table with a known layout can be read, and no two in use have one key, or are one
-- slot of the catalogue.
pub record ArePages (known : KnownLayouts) (pages : Area) : Type 0 where
  pub readable : All (IsReadableSlot known) (slots_below (sizes_of known) (page_count pages) pages)
  pub rows_once : AreUnique key_cmp (row_in known) (slots_below (sizes_of known) (page_count pages) pages)
  pub bodies_once : AreUnique body_cmp body_in (slots_below (sizes_of known) (page_count pages) pages)
