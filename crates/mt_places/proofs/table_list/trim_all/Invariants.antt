-- The tables so far are trimmed, and the others are as they were.
use Rattle.std.proofs.Common.{◌≡◌, ℕ, ◌<◌, ◌≤◌}
use Rattle.mt_places.specs.Held.{table_in, trimmed}
use Rattle.mt_places.proofs.table_list.trim_all.Given as goal

abbrev pub invariant-loop-table : goal.invariant-loop-table
invariant-loop-table l = record {
  done : (t : ℕ) → t < l.table-index → table_in l.tables t ≡ trimmed (table_in l.initial.tables t);
  rest : (t : ℕ) → l.table-index ≤ t → table_in l.tables t ≡ table_in l.initial.tables t;
}
