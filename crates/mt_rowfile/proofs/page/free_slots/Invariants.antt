use Rattle.std.proofs.Common.{◌≡◌, ◌≤◌, ◌+◌, ◌-◌, ◌*◌, length, filter}
use Rattle.mt_rowfile.specs.Pages.{free_slots, is_free, slots_in}
use Rattle.mt_rowfile.proofs.page.free_slots.Given as goal

abbrev pub invariant-loop-i : goal.invariant-loop-i
invariant-loop-i l = record {
  room : l.width * (l.count - l._i) ≤ length l.rest;
  few : l.free ≤ l._i;
  counted : l.free + length (filter is_free (slots_in l.width (l.count - l._i) l.rest)) ≡ free_slots l.fn.layout l.fn.page;
}
