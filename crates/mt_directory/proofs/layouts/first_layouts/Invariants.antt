-- The entries so far are those of their tables.
use Rattle.std.proofs.Common.{◌≡◌, ℕ, ◌<◌, length, get_or, None}
use Rattle.mt_tables.specs.Rows.{layout_of}
use Rattle.mt_directory.proofs.layouts.first_layouts.Given as goal

abbrev pub invariant-loop-table : goal.invariant-loop-table
invariant-loop-table l = record {
  size : length l.each.items ≡ l.table;
  each : (t : ℕ) → t < l.table → get_or l.each.items t None ≡ layout_of (λ table. None) t;
}
