-- What a scan asks for, and what slots add to what it found.
use Rattle.std.specs.Prelude.{ℕ, List, filter_map, map}
use Rattle.mt_journal.specs.Layout.{Area}
use Rattle.mt_physplan.specs.declared.key.Key.{Key}
use Rattle.mt_physplan.specs.declared.scan.Scan.{Scan}
use Rattle.mt_physplan.specs.Content.{Content, in_scan}
use Rattle.mt_rowfile.specs.declared.slot.SlotHead.{SlotHead}
use Rattle.mt_tables.specs.Pages.{page_places}
use Rattle.mt_tables.specs.Rows.{KnownLayouts, row_in, sizes_of}
use Rattle.mt_tables.specs.Tables.{TableSlot, passing, slot_at, with_entries}

-- the key of a slot of a table, by its head
abbrev pub key_at : ℕ → SlotHead → Key
key_at table head = record { table = table; tenant = head.tenant; base = head.base; chunk = head.chunk; row = head.row }

-- what was found, with the rows of slots that a scan asks for
abbrev pub with_asked : Scan → KnownLayouts → List TableSlot → Content → Content
with_asked scan known slots found = with_entries (passing (in_scan scan) (filter_map (row_in known) slots)) found

-- the slots of one page
abbrev pub slots_on : KnownLayouts → Area → ℕ → List TableSlot
slots_on known area page = map (slot_at (sizes_of known) area) (page_places (sizes_of known) area page)
