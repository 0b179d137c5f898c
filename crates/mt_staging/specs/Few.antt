-- How large the counts of a group may be.
use Rattle.std.specs.Prelude.{ℕ, ◌≤◌, List, length, slice_index}
use Rattle.mt_journal.specs.Layout.{Range}

-- no count is above the number of ranges
pub record AreFew (ranges : List Range) (counts : List ℕ) : Type 0 where
  pub each : (t : ℕ) → slice_index counts t ≤ length ranges
