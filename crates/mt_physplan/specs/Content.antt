-- What physical tables hold, and what a scan of one of them gives.
use Rattle.std.specs.Prelude.{ℕ, nat_eq, nat_le, nat_lt, ◌&&◌, Bool, List, map, filter}
use Rattle.std.specs.FinMap as finite
use Rattle.mt_rowfile.specs.declared.slot.SlotRow.{SlotRow}
use Rattle.mt_physplan.specs.declared.key.Key.{Key}
use Rattle.mt_physplan.specs.declared.key.Cell.{Cell}
use Rattle.mt_physplan.specs.declared.scan.Scan.{Scan}
use Rattle.mt_physplan.specs.Keys.{key_cmp, slot_in}

-- the slots in use of all physical tables but those of the catalogue, by their keys
abbrev pub Content : Type 0
Content = finite.FinMap key_cmp Cell

-- all slots, in order of their keys
abbrev pub slots_in_order : Content → List SlotRow
slots_in_order content = map (λ e. slot_in e.0 e.1) (finite.entries content)

-- whether a scan asks for the slot of a key
abbrev pub in_scan : Scan → Key → Bool
in_scan scan key =
    nat_eq key.table scan.table && nat_eq key.tenant scan.tenant && nat_eq key.base scan.base && nat_eq key.chunk scan.chunk
    && nat_le scan.from key.row && nat_lt key.row scan.upto

-- what a scan gives: the slots that it asks for, in order of their keys, which is that of Row
abbrev pub scanned : Content → Scan → List SlotRow
scanned content scan = slots_in_order (finite.retain_keys content (in_scan scan))

-- the slots of the entries whose keys pass a test
abbrev pub picked : (Key → Bool) → List (Key × Cell) → List SlotRow
picked test entries = map (λ e. slot_in e.0 e.1) (filter (λ e. test e.0) entries)
