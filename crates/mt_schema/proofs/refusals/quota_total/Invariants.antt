-- The quotas so far, and those that are left, are all.
use Rattle.std.proofs.Common.{◌≡◌, ◌+◌}
use Rattle.std.specs.Prelude.{sum_by}
use Rattle.std.specs.Map.{values_of}
use Rattle.mt_catalog.specs.declared.state.TenantEntry.{TenantEntry}
use Rattle.mt_catalog.specs.Rules.{quota_total}
use Rattle.mt_schema.proofs.refusals.quota_total.Given as goal

abbrev pub invariant-loop-number : goal.invariant-loop-number
invariant-loop-number l = l.total + sum_by (λ (entry : TenantEntry). entry.quota) (values_of l._number-iterator) ≡ quota_total l.catalog
