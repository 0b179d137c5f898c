-- The catalogues before and after a schema step differ at the keys that it changes, and nowhere else.
use Rattle.std.proofs.Common.{◌≡◌, ℕ, true, false, List, Option, None, Some, refl}
use Rattle.std.specs.Prelude.{is_some}
use Rattle.std.specs.FinMap as finite
use Rattle.std.proofs.lemmas.Bool.{not-false}
use Rattle.mt_tree.specs.declared.command.AdminCmd.{AdminCmd}
use Rattle.mt_tree.specs.declared.command.AdminCmd.TheVariants.{CreateTable, CreateExtension, CreateTenant, Extend, SetQuota}
use Rattle.mt_catalog.specs.Rules.{IsCatalogue}
use Rattle.mt_catalog.specs.State.{State}
use Rattle.mt_schema.specs.Changed.{AreTenants, changed_keys}
use Rattle.mt_schema.specs.Refusals.{quota_tests, step_refusal, tenant_tests}
use Rattle.mt_schema.specs.Steps.{IsWellFormed, stepped}
use Rattle.mt_schema.proofs.CanExtend.{can_extend}
use Rattle.mt_schema.proofs.ChangedQuota.{quota_changes}
use Rattle.mt_schema.proofs.ExtendedSlots.{extend_changes}
use Rattle.mt_schema.proofs.MadeExtension.{extension_changes}
use Rattle.mt_schema.proofs.MadeTable.{table_changes}
use Rattle.mt_schema.proofs.MadeTenant.{tenant_changes}
use Rattle.mt_schema.proofs.Refused.{none_holds}
use Rattle.mt_schema.proofs.Turning.{AreChanged}

none_there : {A : Type 0} (o : Option A) → is_some o ≡ false → o ≡ None
none_there None e = refl
none_there (Some x) e = absurd (cc)

pub some_there : {A : Type 0} (o : Option A) → is_some o ≡ true → (x : A) × (o ≡ Some x)
some_there None e = absurd (cc)
some_there (Some x) e = (x, refl)

pub step_changes : (state : State) (kept : ℕ → ℕ) (tenants : List ℕ) (step : AdminCmd) → IsCatalogue state → IsWellFormed step → step_refusal state kept step ≡ None → AreTenants tenants state
    → AreChanged (changed_keys state tenants step) state (stepped state step)
step_changes state kept tenants (CreateTable name defs key) rules formed accepted are = table_changes state rules name defs key tenants are
step_changes state kept tenants (CreateExtension name base defs) rules formed accepted are = extension_changes state name base defs tenants
step_changes state kept tenants (CreateTenant tenant quota) rules formed accepted are =
    tenant_changes state tenant quota tenants (none_there (finite.get state.tenants tenant) (none_holds (tenant_tests state tenant quota) accepted).0)
step_changes state kept tenants (Extend tenant name) rules formed accepted are = extend_changes state rules tenant name (can_extend state tenant name accepted) tenants
step_changes state kept tenants (SetQuota tenant quota) rules formed accepted are =
    let there = some_there (finite.get state.tenants tenant) (not-false _ (none_holds (quota_tests state (kept tenant) tenant quota) accepted).0) in
    quota_changes state tenant quota there.0 there.1 tenants
step_changes state kept tenants command rules formed accepted are = absurd formed
