-- The base tables so far were found, one at each number, and are narrow.
use Rattle.std.proofs.Common.{◌≡◌, ℕ, ◌≤◌, length, All, Some}
use Rattle.std.specs.Prelude.{slice_get}
use Rattle.mt_tree.specs.declared.schema.Table.{Table}
use Rattle.mt_catalog.specs.Found.{IsFoundBase}
use Rattle.mt_catalog.specs.Keyed.{slot_in}
use Rattle.mt_catread.proofs.relations.read_bases.Given as goal

abbrev pub invariant-loop-number : goal.invariant-loop-number
invariant-loop-number l = record {
  size : length l.bases ≡ l.number;
  each : (n : ℕ) (table : Table) → slice_get l.bases n ≡ Some table → IsFoundBase (slot_in l.slots.entries) n table;
  narrow : All (λ (table : Table). length table.columns ≤ 16) l.bases;
}
