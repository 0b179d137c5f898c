-- The tables stay, and each that is added is one less to add.
use Rattle.std.proofs.Common.{◌≡◌, ℕ, ◌+◌, ◌-◌, ◌≤◌, length}
use Rattle.mt_places.specs.Held.{table_in}
use Rattle.mt_places.proofs.table_list.reach.Given as goal

abbrev pub invariant-loop-alloc : goal.invariant-loop-alloc
invariant-loop-alloc l = record {
  longer : length l.initial.tables.items ≤ length l.tables.items;
  same : (t : ℕ) → table_in l.tables.items t ≡ table_in l.initial.tables.items t;
}

abbrev pub decreases-loop-alloc : goal.decreases-loop-alloc
decreases-loop-alloc l = l.table + 1 - length l.tables.items
