-- The numbers of tenants are below 2^32.
use Rattle.std.proofs.Common.{◌≡◌, ℕ, ◌^◌, ◌≤◌, Option, None, Some, refl, arith}
use Rattle.std.specs.FinMap as finite
use Rattle.mt_catalog.specs.declared.state.TenantEntry.{TenantEntry}
use Rattle.mt_catalog.specs.State.{State}
use Rattle.mt_catalog.specs.Rules.{IsCatalogue}

-- a greater number is none
pub number_past : (state : State) → IsCatalogue state → (tenant : ℕ) → 2 ^ 32 ≤ tenant → finite.get state.tenants tenant ≡ None
number_past state rules tenant past = by (finite.get state.tenants tenant) refl
  where
    by : (o : Option TenantEntry) → finite.get state.tenants tenant ≡ o → finite.get state.tenants tenant ≡ None
    by None e = e
    by (Some entry) e = let within = (rules.tenants tenant entry e).number_upto in absurd (omega (arith, within, past))
