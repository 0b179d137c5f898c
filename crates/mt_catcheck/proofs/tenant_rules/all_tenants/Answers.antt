-- The first of what is left keeps the rules.
use Rattle.std.proofs.Common.{◌≡◌, ℕ, [], ◌∷◌, refl}
use Rattle.std.specs.Map.Iter.{deref_pair}
use Rattle.std.proofs.lemmas.List.Elements.{All-nil, All-same}
use Rattle.std.proofs.lemmas.Map.Iter.{rest_all, rest_more}
use Rattle.mt_catalog.specs.declared.state.TenantEntry.{TenantEntry}
use Rattle.mt_catalog.specs.Rules.{IsTenant}
use Rattle.mt_catalog.proofs.Tested.{rest_decides}
use Rattle.mt_catcheck.proofs.tenant_rules.all_tenants.Goals as goal

pub loop-number-preserved : goal.loop-number-preserved
loop-number-preserved c =
    let first : c.loop-number.number-iterator ≡ (c.in-Some.number.now, c.in-Some.entry.now) ∷ c.next.new.self =
    rest_more deref_pair c.loop-number.number-iterator c.next.new.self c.next.result (c.in-Some.number, c.in-Some.entry) c.in-Some.is c.next.ensures.steps in
    rest_decides (λ (entry : ℕ × TenantEntry). IsTenant c.args.catalog.now entry.0 entry.1) c.loop-number.number-iterator c.next.new.self (c.in-Some.number.now, c.in-Some.entry.now) first
    (c.in_ok-is_tenant.ensures.0 c.if-not-branch.false) c.loop-number.invariant

pub returns-clause-kept : goal.returns-clause-kept
returns-clause-kept c =
    let none : c.loop-number.number-iterator ≡ [] = rest_all deref_pair c.loop-number.number-iterator c.next.new.self c.next.result c.in-None.is c.next.ensures.steps in
    let rule : ℕ × TenantEntry → Type 0 = λ entry. IsTenant c.args.catalog.now entry.0 entry.1 in
    (λ _. c.loop-number.invariant.0 (All-same rule c.loop-number.number-iterator [] none (All-nil rule)), λ _. refl)
