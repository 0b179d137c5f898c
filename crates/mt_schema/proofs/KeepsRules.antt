-- Each schema step that is not refused keeps the rules.
use Rattle.std.proofs.Common.{◌≡◌, ℕ, false, None}
use Rattle.std.specs.FinMap as finite
use Rattle.std.proofs.lemmas.Bool.{not-false}
use Rattle.std.proofs.lemmas.List.Elements.{All-weaker}
use Rattle.mt_lexer.specs.Reserved.{IsNameText}
use Rattle.mt_tree.specs.declared.command.AdminCmd.{AdminCmd}
use Rattle.mt_tree.specs.declared.command.AdminCmd.TheVariants.{CreateTable, CreateExtension, CreateTenant, Extend, SetQuota}
use Rattle.mt_catalog.specs.Rules.{IsCatalogue}
use Rattle.mt_catalog.specs.State.{State}
use Rattle.mt_schema.specs.Refusals.{quota_tests, step_refusal}
use Rattle.mt_schema.specs.Steps.{IsWellFormed, stepped}
use Rattle.mt_schema.proofs.CanExtend.{can_extend}
use Rattle.mt_schema.proofs.Changes.{some_there}
use Rattle.mt_schema.proofs.Refused.{none_holds}
use Rattle.mt_schema.proofs.RulesExtend.{extend_keeps}
use Rattle.mt_schema.proofs.RulesExtension.{extension_keeps}
use Rattle.mt_schema.proofs.RulesPut.{quota_keeps, tenant_keeps}
use Rattle.mt_schema.proofs.RulesTable.{table_keeps}

pub step_keeps : (state : State) (kept : ℕ → ℕ) (step : AdminCmd) → IsCatalogue state → IsWellFormed step → step_refusal state kept step ≡ None → IsCatalogue (stepped state step)
step_keeps state kept (CreateTable name defs key) rules formed accepted = table_keeps state rules name defs key formed.0 formed.1 formed.2 accepted
step_keeps state kept (CreateExtension name base defs) rules formed accepted =
    extension_keeps state rules name base defs formed.0 formed.1
    (All-weaker (λ def. IsNameText def.name × (def.not_null ≡ false)) (λ def. IsNameText def.name) (λ def is. is.0) defs formed.2)
    (All-weaker (λ def. IsNameText def.name × (def.not_null ≡ false)) (λ def. def.not_null ≡ false) (λ def is. is.1) defs formed.2) accepted
step_keeps state kept (CreateTenant tenant quota) rules formed accepted = tenant_keeps state tenant quota rules accepted
step_keeps state kept (Extend tenant name) rules formed accepted = extend_keeps state rules tenant name (can_extend state tenant name accepted)
step_keeps state kept (SetQuota tenant quota) rules formed accepted =
    let there = some_there (finite.get state.tenants tenant) (not-false _ (none_holds (quota_tests state (kept tenant) tenant quota) accepted).0) in
    quota_keeps state (kept tenant) tenant quota there.0 rules there.1 accepted
step_keeps state kept command rules formed accepted = absurd formed
