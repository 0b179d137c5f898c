-- The tables so far were found, one of each base table.
use Rattle.std.proofs.Common.{◌≡◌, ℕ, length, Some}
use Rattle.std.specs.Prelude.{slice_get}
use Rattle.mt_catalog.specs.declared.state.TenantTable.{TenantTable}
use Rattle.mt_catalog.specs.Found.{IsFoundTable}
use Rattle.mt_catalog.specs.Keyed.{slot_in}
use Rattle.mt_catread.proofs.tenants.read_tables.Given as goal

abbrev pub invariant-loop-base : goal.invariant-loop-base
invariant-loop-base l = record {
  size : length l.tables ≡ l.base;
  each : (n : ℕ) (table : TenantTable) → slice_get l.tables n ≡ Some table → IsFoundTable (slot_in l.slots.entries) l.bases l.extensions l.tenant n table;
}
