-- The rules that are kept are all.
use Rattle.std.proofs.Common.{◌≡◌, ℕ, Bool, List, refl, ap}
use Rattle.std.specs.Prelude.{All}
use Rattle.std.specs.Bool.{Decides}
use Rattle.std.specs.FinMap as finite
use Rattle.std.proofs.lemmas.Bool.{false≢true}
use Rattle.std.proofs.lemmas.Result.{IfOk-weaker}
use Rattle.mt_catalog.specs.declared.state.TenantEntry.{TenantEntry}
use Rattle.mt_catalog.specs.Rules.{IsCatalogue, IsTenant}
use Rattle.mt_catalog.specs.State.{State}
use Rattle.mt_catcheck.proofs.Judged.{all_rules, each_rule, most_rules}
use Rattle.mt_catcheck.proofs.tenant_rules.is_catalogue.Goals as goal

pub returns-then-not-keeps_most_rules : goal.returns-then-not-keeps_most_rules
returns-then-not-keeps_most_rules c = (λ e. absurd (false≢true e), λ kept. c.if-not-keeps_most_rules.ensures.1 (most_rules c.args.catalog.now kept))

pub returns : goal.returns
returns c =
    let state : State = c.args.catalog.now in
    let es : List (ℕ × TenantEntry) = c.catalog.inside.tenants.entries in
    let is : finite.from_entries es ≡ state.tenants = ap (λ (of : State). of.tenants) c.catalog.view_is in
    IfOk-weaker c.all_tenants.result (λ (are : Bool). Decides are (All (λ (entry : ℕ × TenantEntry). IsTenant state entry.0 entry.1) es)) (λ (are : Bool). Decides are (IsCatalogue state))
    (λ are decides. (
      λ passed. all_rules state es is c.all_tenants.ensures.unique (c.if-not-keeps_most_rules.ensures.0 refl) (decides.0 passed),
      λ kept. decides.1 (each_rule state es is c.all_tenants.ensures.unique kept),
    )) c.all_tenants.ensures.kept
