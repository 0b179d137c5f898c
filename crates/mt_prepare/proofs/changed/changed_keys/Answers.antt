-- By the kinds of steps.
use Rattle.std.proofs.Common.{◌≡◌, ℕ, List, [], ◌∷◌, length, map, None, refl, sym, ap, ◌∙◌, arith}
use Rattle.std.specs.FinMap as finite
use Rattle.std.specs.List.{range_with_len}
use Rattle.std.specs.Map.{keys_of}
use Rattle.mt_tree.specs.declared.command.AdminCmd.{AdminCmd}
use Rattle.mt_tree.specs.declared.command.AdminCmd.TheVariants.{CreateTable, CreateExtension, CreateTenant, Extend, SetQuota}
use Rattle.mt_tree.specs.declared.command.Def.{Def}
use Rattle.mt_catslot.specs.declared.slot.Class.TheVariants as classes
use Rattle.mt_catslot.specs.declared.slot.CatKey.{CatKey}
use Rattle.mt_catslot.specs.declared.slot.CatKey.TheVariants as keys
use Rattle.mt_catalog.specs.State.{State}
use Rattle.mt_schema.specs.Changed.{changed_keys, column_keys, extended_keys}
use Rattle.mt_schema.specs.Refusals.{extension_named, first_holding, quota_tests, step_refusal}
use Rattle.mt_prepare.proofs.Accepted.{kept_number}
use Rattle.mt_prepare.proofs.Tenants.{every_tenant, of_each}
use Rattle.mt_prepare.proofs.changed.changed_keys.Goals as goal

pub overflow_cast-tenant-in-SetQuota : goal.overflow_cast-tenant-in-SetQuota
overflow_cast-tenant-in-SetQuota c =
    let state : State = c.args.catalog.now in
    let kept : ℕ → ℕ = c.requires.accepted.0 in
    let accepted : first_holding (quota_tests state (kept c.in-SetQuota.tenant) c.in-SetQuota.tenant c.in-SetQuota.quota) ≡ None = sym (ap (λ (of : AdminCmd). step_refusal state kept of) c.in-SetQuota.is) ∙ c.requires.accepted.1 in
    let fits = kept_number state (kept c.in-SetQuota.tenant) c.in-SetQuota.tenant c.in-SetQuota.quota c.requires.rules accepted in
    omega (arith, fits)

pub returns-in-CreateExtension : goal.returns-in-CreateExtension
returns-in-CreateExtension c =
    let state : State = c.args.catalog.now in
    let made : ℕ → ℕ → List CatKey = λ number count. keys.Relation classes.Extension number ∷ column_keys classes.Extension number count in
    let number_is : c.len-number.result ≡ length state.extensions = c.len-number.ensures ∙ ap (λ (of : State). length of.extensions) c.catalog.view_is in
    let same = ap (λ (n : ℕ). made n c.len-in-CreateExtension.result) number_is ∙ ap (made (length state.extensions)) c.len-in-CreateExtension.ensures in
    of_each state c.args.step.now c.relation_keys.result (made c.len-number.result c.len-in-CreateExtension.result) c.relation_keys.ensures
    (same ∙ sym (ap (changed_keys state (keys_of (finite.entries state.tenants))) c.in-CreateExtension.is))

pub returns-in-CreateTenant : goal.returns-in-CreateTenant
returns-in-CreateTenant c =
    let state : State = c.args.catalog.now in
    let made : ℕ → List CatKey = λ count. keys.Tenant c.in-CreateTenant.tenant ∷ map (λ base. keys.Placement c.in-CreateTenant.tenant base) (range_with_len 0 count) in
    let count_is : c.len-in-CreateTenant.result ≡ length state.bases = c.len-in-CreateTenant.ensures ∙ ap (λ (of : State). length of.bases) c.catalog.view_is in
    of_each state c.args.step.now c.tenant_keys.result (made c.len-in-CreateTenant.result) c.tenant_keys.ensures
    (ap made count_is ∙ sym (ap (changed_keys state (keys_of (finite.entries state.tenants))) c.in-CreateTenant.is))

pub returns-in-Extend : goal.returns-in-Extend
returns-in-Extend c =
    let state : State = c.args.catalog.now in
    of_each state c.args.step.now c.extended_keys.result (extended_keys state c.in-Extend.tenant (extension_named state c.in-Extend.extension)) c.extended_keys.ensures
    (sym (ap (changed_keys state (keys_of (finite.entries state.tenants))) c.in-Extend.is))

pub returns-in-SetQuota : goal.returns-in-SetQuota
returns-in-SetQuota c =
    let state : State = c.args.catalog.now in
    of_each state c.args.step.now c.quota_keys.result (changed_keys state (keys_of (finite.entries state.tenants)) (SetQuota c.in-SetQuota.tenant c.in-SetQuota.quota)) c.quota_keys.ensures
    (sym (ap (changed_keys state (keys_of (finite.entries state.tenants))) c.in-SetQuota.is))

-- another command changes no key
none_changed : (state : State) (tenants : List ℕ) (step : AdminCmd)
    → ((name : List ℕ) (columns : List Def) (key : List (List ℕ)) → step ≡ CreateTable name columns key → ⊥)
    → ((name base : List ℕ) (columns : List Def) → step ≡ CreateExtension name base columns → ⊥)
    → ((tenant quota : ℕ) → step ≡ CreateTenant tenant quota → ⊥)
    → ((tenant : ℕ) (extension : List ℕ) → step ≡ Extend tenant extension → ⊥)
    → ((tenant quota : ℕ) → step ≡ SetQuota tenant quota → ⊥) → [] ≡ changed_keys state tenants step
none_changed state tenants (CreateTable name columns key) table extension made extend set = absurd (table name columns key refl)
none_changed state tenants (CreateExtension name base columns) table extension made extend set = absurd (extension name base columns refl)
none_changed state tenants (CreateTenant tenant quota) table extension made extend set = absurd (made tenant quota refl)
none_changed state tenants (Extend tenant name) table extension made extend set = absurd (extend tenant name refl)
none_changed state tenants (SetQuota tenant quota) table extension made extend set = absurd (set tenant quota refl)
none_changed state tenants step table extension made extend set = refl

pub returns-in_default : goal.returns-in_default
returns-in_default c =
    let state : State = c.args.catalog.now in
    let tenants : List ℕ = keys_of (finite.entries state.tenants) in
    let not = c.in_default in (
      tenants,
      every_tenant state,
      c.new.ensures ∙ none_changed state tenants c.args.step.now not.not-CreateTable not.not-CreateExtension not.not-CreateTenant not.not-Extend not.not-SetQuota,
    )
