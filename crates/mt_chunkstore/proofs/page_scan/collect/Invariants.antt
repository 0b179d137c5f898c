use Rattle.std.proofs.Common.{◌≡◌, ◌-◌, ◌*◌, ◌≤◌, length, map, filter_map, All, Some}
use Rattle.mt_physplan.specs.Content.{in_scan}
use Rattle.mt_rowfile.specs.Pages.{slots_in, slots_of_page}
use Rattle.mt_rowfile.specs.Slots.{IsSlot}
use Rattle.mt_tables.specs.Rows.{KnownLayouts, layout_of, row_in}
use Rattle.mt_tables.specs.Tables.{passing, with_entries}
use Rattle.mt_chunkstore.proofs.page_scan.collect.Given as goal

abbrev pub invariant-loop-i : goal.invariant-loop-i
invariant-loop-i l = record {
  room : l.width * (l.count - l._i) ≤ length l.rest;
  found : (known : KnownLayouts) → layout_of known l.scan.table ≡ Some l.layout
      → with_entries (passing (in_scan l.scan) (filter_map (row_in known) (map (λ bytes. (l.scan.table, bytes)) (slots_in l.width (l.count - l._i) l.rest)))) l.found
      ≡ with_entries (passing (in_scan l.scan) (filter_map (row_in known) (map (λ bytes. (l.scan.table, bytes)) (slots_of_page l.layout l.page)))) l.fn.found;
  sound : All (IsSlot l.layout) (slots_of_page l.layout l.page) → All (IsSlot l.layout) (slots_in l.width (l.count - l._i) l.rest);
}
