-- What a walk over all pages finds.
use Rattle.std.proofs.Common.{◌≡◌, ℕ, Bool, true, false, nat_eq, cond, List, [], ◌∷◌, Option, None, Some, map, refl, sym, ap, ◌∙◌, filter_map}
use Rattle.std.specs.List.{cons_option}
use Rattle.std.proofs.lemmas.Bool.{eqb-true}
use Rattle.std.specs.List.Sorted.{IsStrictlySortedBy}
use Rattle.std.specs.FinMap as finite
use Rattle.mt_journal.specs.Layout.{Area}
use Rattle.mt_physplan.specs.declared.key.Cell.{Cell}
use Rattle.mt_physplan.specs.declared.key.Key.{Key}
use Rattle.mt_physplan.specs.declared.scan.Scan.{Scan}
use Rattle.mt_physplan.specs.Content.{Content, in_scan, scanned, slots_in_order}
use Rattle.mt_physplan.specs.Keys.{key_cmp, slot_in}
use Rattle.mt_physplan.proofs.Keys.{keys_exact, keys_total}
use Rattle.mt_physplan.proofs.Maps.{own_entries}
use Rattle.mt_tables.specs.Pages.{page_count}
use Rattle.mt_tables.specs.Rows.{ArePages, KnownLayouts, row_in, rows_of, sizes_of}
use Rattle.mt_tables.specs.Tables.{TableSlot, passing, slots_below, with_entries}
use Rattle.mt_tables.proofs.Readings.{row_of_table}
use Rattle.mt_tables.proofs.Walks.{walk_finds}
use Rattle.mt_chunkstore.specs.Asking.{with_asked}

-- those rows that the scan asks for
pub rows_found : (scan : Scan) (known : KnownLayouts) (area : Area) → ArePages known area
    → with_asked scan known (slots_below (sizes_of known) (page_count area) area) finite.empty ≡ finite.retain_keys (rows_of known area) (in_scan scan)
rows_found scan known area sound = walk_finds keys_total keys_exact (row_in known) (in_scan scan) (slots_below (sizes_of known) (page_count area) area) sound.rows_once

-- a key is not asked for where its slot is of a table whose slots hold no rows
not_asked : (scan : Scan) (known : KnownLayouts) (slot : TableSlot) (e : Key × Cell) → ((bytes : List ℕ) → row_in known (scan.table, bytes) ≡ None) → row_in known slot ≡ Some e → in_scan scan e.0 ≡ false
not_asked scan known slot e none is = by (nat_eq e.0.table scan.table) refl
  where
    by : (b : Bool) → nat_eq e.0.table scan.table ≡ b → in_scan scan e.0 ≡ false
    by true tied =
        let same : slot.0 ≡ scan.table = sym (row_of_table known slot e is) ∙ eqb-true e.0.table scan.table tied in
        let nothing : row_in known slot ≡ None = ap (λ table. row_in known (table, slot.1)) same ∙ none slot.1 in
        absurd (cc)
    by false other = rw other refl

none_asked : (scan : Scan) (known : KnownLayouts) → ((bytes : List ℕ) → row_in known (scan.table, bytes) ≡ None) → (slots : List TableSlot) (found : Content) → with_asked scan known slots found ≡ found
none_asked scan known none [] found = refl
none_asked scan known none (slot ∷ slots) found = by (row_in known slot) refl (none_asked scan known none slots found)
  where
    by : (e : Option (Key × Cell)) → row_in known slot ≡ e → with_asked scan known slots found ≡ found → with_entries (passing (in_scan scan) (cons_option e (filter_map (row_in known) slots))) found ≡ found
    by None is rest = rest
    by (Some e) is rest =
        ap (λ b. with_entries (cond b (e ∷ passing (in_scan scan) (filter_map (row_in known) slots)) (passing (in_scan scan) (filter_map (row_in known) slots))) found) (not_asked scan known slot e none is) ∙ rest

nothing_in_order : slots_in_order finite.empty ≡ []
unfolding IsStrictlySortedBy
nothing_in_order = ap (map (λ e. slot_in e.0 e.1)) (sym (own_entries {V = Cell} key_cmp keys_total keys_exact [] tt))

-- of such a table there are none
pub nothing_scanned : (scan : Scan) (known : KnownLayouts) (area : Area) → ArePages known area → ((bytes : List ℕ) → row_in known (scan.table, bytes) ≡ None) → [] ≡ scanned (rows_of known area) scan
nothing_scanned scan known area sound none =
    sym (ap slots_in_order (sym (rows_found scan known area sound) ∙ none_asked scan known none (slots_below (sizes_of known) (page_count area) area) finite.empty) ∙ nothing_in_order)
