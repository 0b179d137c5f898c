-- Worked examples of the definitions: an empty disk, and one on which table 16, with a layout of one
-- integer, has one row.
use Rattle.std.proofs.Common.{◌≡◌, ℕ, ◌==◌, if◌then◌else◌, List, [], ◌∷◌, Option, Some, None, length, take, refl, pos}
use Rattle.std.specs.FinMap as finite
use Rattle.mt_codec.specs.declared.field.FieldKind.TheVariants.{Int}
use Rattle.mt_value.specs.declared.value.Value.TheVariants as value
use Rattle.mt_journal.specs.Layout.{Area}
use Rattle.mt_rowfile.specs.declared.layout.Head.TheVariants.{Conventional}
use Rattle.mt_physplan.specs.declared.key.Cell.{Cell}
use Rattle.mt_physplan.specs.declared.key.Key.{Key}
use Rattle.mt_physplan.specs.Keys.{key_cmp}
use Rattle.mt_tables.specs.Pages.{bytes_at, page_count, places_below, table_at}
use Rattle.mt_tables.specs.Plan.{PlacedSlot, free_in, placed, placed_in, sought}
use Rattle.mt_tables.specs.Rows.{KnownLayouts, catalogue_of, row_in, rows_of, sizes_of}
use Rattle.mt_tables.specs.Tables.{overwritten}

-- table 16 has rows of one integer
abbrev known : KnownLayouts
known table = if table == 16 then Some (record { head = Conventional; kinds = Int ∷ [] }) else None

-- nothing was written
abbrev blank : Area
blank k = 0

-- page 0 counts 2 pages, and page 1 is of table 16; its first slot is visible, of tenant 1 and Row 0,
-- and holds 5
abbrev one_row : Area
one_row k =
    if k == 12 then 2 else (if k == 4096 then 16 else (if k == 4104 then 1 else (if k == 4105 then 1 else (if k == 4117 then 1 else (if k == 4118 then 5 else 0)))))

-- a slot of it has 22 bytes, and a page 185 slots
width-of-table : (sizes_of known).width 16 ≡ 22
width-of-table = refl

slots-of-page : length (places_below (sizes_of known) 2 one_row) ≡ 185
slots-of-page = refl

-- the slot as it stands
slot-bytes : bytes_at one_row 4104 22 ≡ 1 ∷ 1 ∷ 0 ∷ 0 ∷ 0 ∷ 0 ∷ 0 ∷ 0 ∷ 0 ∷ 0 ∷ 0 ∷ 0 ∷ 0 ∷ 1 ∷ 5 ∷ 0 ∷ 0 ∷ 0 ∷ 0 ∷ 0 ∷ 0 ∷ 0 ∷ []
slot-bytes = refl

-- a blank disk has one page and no row
blank-count : page_count blank ≡ 1
blank-count = refl

blank-rows : rows_of known blank ≡ finite.empty
blank-rows = refl

blank-catalogue : catalogue_of known blank ≡ finite.empty
blank-catalogue = refl

-- the other has 2 pages and that row
count-of-pages : page_count one_row ≡ 2
count-of-pages = refl

abbrev key : Key
key = record { table = 16; tenant = 1; base = 0; chunk = 0; row = 0 }

abbrev cell : Cell
cell = record { mark = 1; values = value.Int (pos 5) ∷ [] }

rows-of-page : rows_of known one_row ≡ finite.insert finite.empty key cell
rows-of-page = refl

-- its page, as its bytes have it, has the slots of the disk
abbrev page : List PlacedSlot
page = placed_in (sizes_of known) 16 1 (bytes_at one_row 4096 4096)

slots-of-bytes : placed (sizes_of known) one_row (places_below (sizes_of known) 2 one_row) ≡ page
slots-of-bytes = refl

-- its key gets its place where it is asked for, and is not entered where it is not
key-sought : (index : finite.FinMap key_cmp (Option ℕ)) → sought (row_in known) page index ≡ (if finite.contains_key index key then finite.insert index key (Some 4104) else index)
key-sought index = refl

-- and all slots behind the first are free
free-of-page : take 2 (free_in 16 page) ≡ 4126 ∷ 4148 ∷ []
free-of-page = refl

count-of-free : length (free_in 16 page) ≡ 184
count-of-free = refl

-- where the layout is not known there is none
rows-unknown : rows_of (λ table. None) one_row ≡ finite.empty
rows-unknown = refl

-- a page of no table has no slots
no-table : table_at blank 1 ≡ 0
no-table = refl

-- the mark alone is overwritten
mark-overwritten : overwritten (2 ∷ []) (1 ∷ 7 ∷ 9 ∷ []) ≡ 2 ∷ 7 ∷ 9 ∷ []
mark-overwritten = refl
