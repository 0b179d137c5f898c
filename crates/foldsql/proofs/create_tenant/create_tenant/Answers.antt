-- A line that spells the command has each of its parts.
use Rattle.std.proofs.Common.{arith, rules, refl, ℕ, ◌<◌, ◌^◌, ◌++◌, [], codes, decimal}
use Rattle.std.proofs.lemmas.Grind.{common_steps}
use Rattle.mt_model.specs.FirstPath.{SpellsCreateTenant}
use Rattle.foldsql.proofs.Spelled.{spelled}
use Rattle.foldsql.proofs.create_tenant.create_tenant.Goals as goal
use Rattle.foldsql.proofs.create_tenant.create_tenant.Goals.{then-not-is_allowed-via-then-not-is_allowed, then-not-is_allowed-via-else-not-is_allowed+then-not-is_empty}

pub returns-in_err-tenant-clause-none : goal.returns-in_err-tenant-clause-none
returns-in_err-tenant-clause-none c =
    let none : (t q : ℕ) → SpellsCreateTenant c.args.line.now t q → ⊥ =
    λ t q s. c.in_err-tenant.ensures.taken t (codes " QUOTA " ++ (decimal q ++ [])) s.tenant_upto refl (spelled _ t q s) in
    search (rules, none)

pub returns-in_err-quota-clause-none : goal.returns-in_err-quota-clause-none
returns-in_err-quota-clause-none c =
    let none : (t q : ℕ) → SpellsCreateTenant c.args.line.now t q → ⊥ =
    λ t q s.
    let first = c.in_ok-tenant.ensures.taken t (codes " QUOTA " ++ (decimal q ++ [])) s.tenant_upto refl (spelled _ t q s) in
    let small : q < 2 ^ 32 = omega arith in
    c.in_err-quota.ensures.taken q [] small refl first.1 in
    search (rules, none)

pub returns-then-not-is_allowed-clause-none : goal.returns-then-not-is_allowed-clause-none
returns-then-not-is_allowed-clause-none c t q s =
    let first = c.in_ok-tenant.ensures.taken t (codes " QUOTA " ++ (decimal q ++ [])) s.tenant_upto refl (spelled _ t q s) in
    let small : q < 2 ^ 32 = omega arith in
    let second = c.in_ok-quota.ensures.taken q [] small refl first.1 in
    elim c.then-not-is_allowed.branch [ then-not-is_allowed-via-then-not-is_allowed w ↦ grind (arith, common_steps) | then-not-is_allowed-via-else-not-is_allowed+then-not-is_empty w ↦ grind (arith, common_steps) ]
