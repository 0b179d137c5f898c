-- The free slots that are left are offered behind those that were offered.
use Rattle.std.proofs.Common.{◌≡◌, ℕ, ◌-◌, ◌*◌, ◌≤◌, length}
use Rattle.mt_tables.specs.Plan.{free_in}
use Rattle.mt_places.specs.Held.{offered}
use Rattle.mt_places.specs.Walked.{free_by, slots_from}
use Rattle.mt_places.proofs.walk.offer_free.Given as goal

abbrev pub invariant-loop-number : goal.invariant-loop-number
invariant-loop-number l = record {
  room : l.width * (l.count - l.number) ≤ length l.rest;
  few : length l.places.free ≤ l.places.wanted;
  found : (table : ℕ) → offered (free_in table (slots_from l.width table l.fn.page l.number (l.count - l.number) l.rest)) l.places ≡ offered (free_by l.fn.layout table l.fn.page l.fn.bytes) l.fn.places;
}
