-- The slots of a page by a layout, one after another.
use Rattle.std.specs.Prelude.{ℕ, List, map, drop, zip}
use Rattle.std.specs.List.{range_with_len}
use Rattle.mt_rowfile.specs.declared.layout.Layout.{Layout}
use Rattle.mt_rowfile.specs.Layouts.{slot_width, slots_per_page}
use Rattle.mt_rowfile.specs.Pages.{slots_in}
use Rattle.mt_tables.specs.Pages.{slot_position}
use Rattle.mt_tables.specs.Plan.{PlacedSlot, free_in}

-- so many slots of a page, from one with a number on
abbrev pub slots_from : ℕ → ℕ → ℕ → ℕ → ℕ → List ℕ → List PlacedSlot
slots_from width table page number count bytes =
    zip (map (λ n. record { table = table; position = slot_position width page n }) (range_with_len number count)) (map (λ slot. (table, slot)) (slots_in width count bytes))

-- the slots of a page of a table with this layout
abbrev pub slots_by : Layout → ℕ → ℕ → List ℕ → List PlacedSlot
slots_by layout table page bytes = slots_from (slot_width layout) table page 0 (slots_per_page layout) (drop 8 bytes)

-- where the free slots of a page stand
abbrev pub free_by : Layout → ℕ → ℕ → List ℕ → List ℕ
free_by layout table page bytes = free_in table (slots_by layout table page bytes)

-- where all slots of a page stand
abbrev pub positions_by : Layout → ℕ → List ℕ
positions_by layout page = map (slot_position (slot_width layout) page) (range_with_len 0 (slots_per_page layout))
