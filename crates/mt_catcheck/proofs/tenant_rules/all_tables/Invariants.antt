-- The tables so far keep the rules.
use Rattle.std.proofs.Common.{◌≡◌, ℕ, ◌<◌, Some}
use Rattle.std.specs.Prelude.{slice_get}
use Rattle.mt_catalog.specs.declared.state.TenantTable.{TenantTable}
use Rattle.mt_catalog.specs.Rules.{IsTenantTable}
use Rattle.mt_catcheck.proofs.tenant_rules.all_tables.Given as goal

abbrev pub invariant-loop-base : goal.invariant-loop-base
invariant-loop-base l = (base : ℕ) → base < l.base → (table : TenantTable) → slice_get l.tables base ≡ Some table → IsTenantTable l.catalog base table
