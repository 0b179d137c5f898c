-- Worked examples of the definitions.
use Rattle.std.proofs.Common.{◌≡◌, ℕ, List, [], ◌∷◌, Option, Some, None, map, refl, sym, ap, ◌∙◌, pos}
use Rattle.std.specs.List.Sorted.{IsStrictlySortedBy}
use Rattle.std.specs.Map.{keys_of}
use Rattle.std.specs.FinMap as finite
use Rattle.mt_value.specs.declared.value.Value.TheVariants.{Int}
use Rattle.mt_rowfile.specs.declared.slot.SlotRow.{SlotRow}
use Rattle.mt_physplan.specs.declared.change.Change.TheVariants.{Put, Mark, Remove}
use Rattle.mt_physplan.specs.declared.key.Key.{Key}
use Rattle.mt_physplan.specs.declared.key.Cell.{Cell}
use Rattle.mt_physplan.specs.declared.scan.Scan.{Scan}
use Rattle.mt_physplan.specs.Applied.{applied, with_mark}
use Rattle.mt_physplan.specs.Content.{Content, in_scan, scanned}
use Rattle.mt_physplan.specs.Keys.{key_cmp, slot_in}
use Rattle.mt_physplan.specs.Phys.{no_scans, scanned_once}
use Rattle.mt_physplan.proofs.Keys.{keys_exact, keys_total}
use Rattle.mt_physplan.proofs.Maps.{picked_entries}

abbrev key : ℕ → ℕ → Key
key tenant row = record { table = 16; tenant = tenant; base = 0; chunk = 0; row = row }

abbrev cell : ℕ → ℕ → Cell
cell mark value = record { mark = mark; values = Int (pos value) ∷ [] }

-- tenant 17 has Rows 0, 4 and 7, and tenant 35 has Row 4
abbrev entries : List (Key × Cell)
entries = (key 17 0, cell 1 10) ∷ (key 17 4, cell 2 14) ∷ (key 17 7, cell 1 17) ∷ (key 35 4, cell 1 34) ∷ []

abbrev content : Content
content = finite.from_entries entries

rising : IsStrictlySortedBy key_cmp (keys_of entries)
unfolding IsStrictlySortedBy
rising = ((refl, (refl, (refl, tt))), ((refl, (refl, tt)), ((refl, tt), (tt, tt))))

abbrev from_0_upto_7 : Scan
from_0_upto_7 = record { table = 16; tenant = 17; base = 0; chunk = 0; from = 0; upto = 7 }

-- a scan gives the slots of one tenant, trashed ones too, and not that of its upper Row
scan-one-tenant : scanned content from_0_upto_7 ≡ slot_in (key 17 0) (cell 1 10) ∷ slot_in (key 17 4) (cell 2 14) ∷ []
scan-one-tenant = ap (map (λ e. slot_in e.0 e.1)) (sym (picked_entries key_cmp keys_total keys_exact (in_scan from_0_upto_7) entries rising))

-- a mark leaves the values
mark-keeps-values : finite.get (applied (Mark 16 17 7 2 ∷ []) content) (key 17 7) ≡ Some (cell 2 17)
mark-keeps-values =
    ap (λ found. finite.get (with_mark 2 (key 17 7) found content) (key 17 7)) (finite.get-from_entries keys_total entries (key 17 7))
    ∙ finite.get-insert keys_total content (key 17 7) (cell 2 17) (key 17 7)

-- what is removed is gone, and what was put before it with another key is not
put-then-remove : finite.get (applied (Put 16 (slot_in (key 35 5) (cell 1 35)) ∷ Remove 16 35 0 0 4 ∷ []) content) (key 35 5) ≡ Some (cell 1 35)
put-then-remove =
    finite.get-remove keys_total (finite.insert content (key 35 5) (cell 1 35)) (key 35 4) (key 35 5)
    ∙ finite.get-insert keys_total content (key 35 5) (cell 1 35) (key 35 5)

removed : finite.get (applied (Remove 16 35 0 0 4 ∷ []) content) (key 35 4) ≡ None
removed = finite.get-remove keys_total content (key 35 4) (key 35 4)

-- a scan counts for its own table
counts-table : scanned_once 16 no_scans 16 ≡ 1
counts-table = refl

counts-no-other : scanned_once 16 no_scans 17 ≡ 0
counts-no-other = refl
