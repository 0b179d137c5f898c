-- The quotas so far are what is no longer left.
use Rattle.std.proofs.Common.{◌≡◌, ◌+◌}
use Rattle.std.specs.Prelude.{sum_by}
use Rattle.std.specs.HashMap.{values}
use Rattle.mt_catalog.specs.declared.state.TenantEntry.{TenantEntry}
use Rattle.mt_catcheck.proofs.tenant_rules.quotas_fit.Given as goal

abbrev pub invariant-loop-entry : goal.invariant-loop-entry
invariant-loop-entry l = l.left + sum_by (λ (entry : TenantEntry). entry.quota) (values l.tenants) ≡ 1048576 + sum_by (λ (entry : TenantEntry). entry.quota) l.entry-iterator
