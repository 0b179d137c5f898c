-- Where the slots of physical tables stand in the pages. Page 0 counts the pages; each other page has
-- a head of 8 bytes, of which the first 4 are the number of its table, and the table's slots behind it.
use Rattle.std.specs.Prelude.{ℕ, zero, suc, ◌+◌, ◌*◌, ◌-◌, ◌≤◌, max, List, [], ◌∷◌, map, flat_map}
use Rattle.std.specs.List.{range_with_len}
use Rattle.mt_journal.specs.Layout.{Area, number_at}

-- so many bytes from a position on
abbrev pub bytes_at : Area → ℕ → ℕ → List ℕ
bytes_at area at zero = []
bytes_at area at (suc n) = area at ∷ bytes_at area (at + 1) n

-- the table that a page belongs to
abbrev pub table_at : Area → ℕ → ℕ
table_at area page = number_at 4 area (4096 * page)

-- the number of pages, page 0 among them: 1 where page 0 is blank
abbrev pub page_count : Area → ℕ
page_count area = max 1 (number_at 8 area 12)

-- How many bytes a slot of each table has, and how many slots a page of it has: none where no layout
-- of the table is known.
pub record SlotSizes : Type 0 where
  pub width : ℕ → ℕ
  pub count : ℕ → ℕ

-- slots have bytes, and those of a page lie within it
pub record AreSlotSizes (sizes : SlotSizes) : Type 0 where
  pub some : (table : ℕ) → 1 ≤ sizes.width table
  pub within : (table : ℕ) → sizes.width table * sizes.count table + 8 ≤ 4096

-- where a slot stands, and the table that it belongs to
pub record SlotPlace : Type 0 where
  pub table : ℕ
  pub position : ℕ

-- where the slot with this number in a page begins
abbrev pub slot_position : ℕ → ℕ → ℕ → ℕ
slot_position width page number = 4096 * page + 8 + width * number

-- a slot of a page of this table
abbrev pub place_in : SlotSizes → ℕ → ℕ → ℕ → SlotPlace
place_in sizes table page number = record { table = table; position = slot_position (sizes.width table) page number }

-- the places of the slots of a page
abbrev pub page_places : SlotSizes → Area → ℕ → List SlotPlace
page_places sizes area page = map (place_in sizes (table_at area page) page) (range_with_len 0 (sizes.count (table_at area page)))

-- the places of the slots of all pages below a number, in page order
abbrev pub places_below : SlotSizes → ℕ → Area → List SlotPlace
places_below sizes count area = flat_map (page_places sizes area) (range_with_len 1 (count - 1))
