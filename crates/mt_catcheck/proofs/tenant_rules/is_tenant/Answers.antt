-- By number, quota and tables.
use Rattle.std.proofs.Common.{◌≡◌, ℕ, Bool, Some, refl, ap, length, arith}
use Rattle.std.specs.Prelude.{slice_get}
use Rattle.std.specs.Bool.{Decides}
use Rattle.std.proofs.lemmas.Result.{IfOk-weaker}
use Rattle.mt_catalog.specs.declared.state.TenantTable.{TenantTable}
use Rattle.mt_catalog.specs.Rules.{IsTenant, IsTenantTable}
use Rattle.mt_catalog.specs.State.{State}
use Rattle.mt_catcheck.proofs.tenant_rules.is_tenant.Goals as goal

pub returns : goal.returns
returns c =
    let state : State = c.args.catalog.now in
    let within = c.if-not-are_within.ensures.0 refl in
    let sizes : length c.args.entry.now.tables ≡ length state.bases = omega (arith, c.if-len.false, c.len.ensures, c.len-else-not-are_within.ensures, ap (λ (of : State). length of.bases) c.catalog.view_is) in
    IfOk-weaker c.all_tables.result (λ (are : Bool). Decides are ((base : ℕ) (table : TenantTable) → slice_get c.args.entry.now.tables base ≡ Some table → IsTenantTable state base table))
    (λ (are : Bool). Decides are (IsTenant state c.args.number c.args.entry.now))
    (λ are decides. (
      λ passed. record { number_from = within.0; number_upto = c.ranges.number.fits; quota_from = within.1; quota_upto = within.2; each_base = sizes; tables = decides.0 passed },
      λ kept. decides.1 kept.tables,
    )) c.all_tables.ensures
