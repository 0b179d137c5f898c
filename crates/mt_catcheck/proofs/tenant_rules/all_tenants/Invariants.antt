-- What is left decides.
use Rattle.std.proofs.Common.{ℕ}
use Rattle.std.specs.Prelude.{All, ◌↔◌}
use Rattle.mt_catalog.specs.declared.state.TenantEntry.{TenantEntry}
use Rattle.mt_catalog.specs.Rules.{IsTenant}
use Rattle.mt_catcheck.proofs.tenant_rules.all_tenants.Given as goal

abbrev pub invariant-loop-number : goal.invariant-loop-number
invariant-loop-number l =
    All (λ (entry : ℕ × TenantEntry). IsTenant l.catalog entry.0 entry.1) l.number-iterator ↔ All (λ (entry : ℕ × TenantEntry). IsTenant l.catalog entry.0 entry.1) l.tenants.entries
