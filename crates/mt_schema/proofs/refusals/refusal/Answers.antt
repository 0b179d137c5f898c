-- By the catalogue's own tables and extensions.
use Rattle.std.proofs.Common.{◌≡◌, ℕ, List, Option, sym, ap, ◌∙◌}
use Rattle.std.proofs.lemmas.Result.{IfOk-weaker}
use Rattle.mt_tree.specs.declared.code.Code.{Code}
use Rattle.mt_tree.specs.declared.command.AdminCmd.{AdminCmd}
use Rattle.mt_tree.specs.declared.command.Def.{Def}
use Rattle.mt_catalog.specs.State.{State}
use Rattle.mt_schema.specs.Refusals.{extension_tests, first_holding, step_refusal, table_tests}
use Rattle.mt_schema.proofs.refusals.refusal.Goals as goal

pub returns-in-CreateTable : goal.returns-in-CreateTable
returns-in-CreateTable c =
    let state : State = c.args.catalog.now in
    let name : List ℕ = c.in-CreateTable.name in
    let columns : List Def = c.as_slice.result.now in
    let key : List (List ℕ) = c.as_slice-in-CreateTable.result.now in
    let bases : state.bases ≡ c.as_slice-bases.result.now = sym (c.as_slice-bases.ensures ∙ ap (λ (of : State). of.bases) c.catalog.view_is) in
    IfOk-weaker c.table_refusal.result (λ (code : Option Code). code ≡ first_holding (table_tests state name columns key)) (λ (code : Option Code). code ≡ step_refusal state (λ _. c.args.kept) c.args.step.now)
    (λ code e. e ∙ ap (λ (of : List Def). first_holding (table_tests state name of key)) c.as_slice.ensures
    ∙ ap (λ (of : List (List ℕ)). first_holding (table_tests state name c.in-CreateTable.columns of)) c.as_slice-in-CreateTable.ensures ∙ ap (λ (of : AdminCmd). step_refusal state (λ _. c.args.kept) of) (sym c.in-CreateTable.is))
    (c.table_refusal.ensures state bases)

pub returns-in-CreateExtension : goal.returns-in-CreateExtension
returns-in-CreateExtension c =
    let state : State = c.args.catalog.now in
    let name : List ℕ = c.in-CreateExtension.name in
    let base : List ℕ = c.in-CreateExtension.base in
    let columns : List Def = c.as_slice-in-CreateExtension.result.now in
    let bases : state.bases ≡ c.as_slice-bases-in-CreateExtension.result.now = sym (c.as_slice-bases-in-CreateExtension.ensures ∙ ap (λ (of : State). of.bases) c.catalog.view_is) in
    let extensions : state.extensions ≡ c.as_slice-extensions.result.now = sym (c.as_slice-extensions.ensures ∙ ap (λ (of : State). of.extensions) c.catalog.view_is) in
    IfOk-weaker c.extension_refusal.result (λ (code : Option Code). code ≡ first_holding (extension_tests state name base columns)) (λ (code : Option Code). code ≡ step_refusal state (λ _. c.args.kept) c.args.step.now)
    (λ code e. e ∙ ap (λ (of : List Def). first_holding (extension_tests state name base of)) c.as_slice-in-CreateExtension.ensures ∙ ap (λ (of : AdminCmd). step_refusal state (λ _. c.args.kept) of) (sym c.in-CreateExtension.is))
    (c.extension_refusal.ensures state bases extensions)
