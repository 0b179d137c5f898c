-- The empty map has no tenant.
use Rattle.std.proofs.Common.{◌≡◌, ℕ, [], None, Some, refl, sym, ap, ◌∙◌}
use Rattle.std.specs.Prelude.{option_map}
use Rattle.std.specs.Ordering.{nat_cmp}
use Rattle.std.specs.Cmp.{nat_cmp_total}
use Rattle.std.specs.FinMap as finite
use Rattle.mt_catalog.specs.declared.state.TenantEntry.{TenantEntry}
use Rattle.mt_catalog.specs.State.{empty_state}
use Rattle.mt_schema.specs.Steps.{in_each}
use Rattle.mt_schema.proofs.Maps.{get-in_each}
use Rattle.mt_model.specs.Parts.{ConsistsOf}
use Rattle.mt_model.specs.Service.{Tenant, empty_service, entry_of}
use Rattle.mt_model.proofs.parts.empty_services_have_no_parts.Goals as goal

no_tenant : (number : ℕ) (tenant : Tenant) → finite.get (finite.empty {X = Tenant} {R = nat_cmp}) number ≡ Some tenant → ⊥
no_tenant number tenant there = let e : None ≡ Some tenant = sym (finite.get-empty nat_cmp number) ∙ there in cc

no_entry : in_each entry_of (finite.empty {X = Tenant} {R = nat_cmp}) ≡ finite.empty
no_entry = finite.same_map nat_cmp_total finite.nat_cmp-IsAntisymmetric (in_each entry_of finite.empty) finite.empty
    (λ number. get-in_each entry_of finite.empty number ∙ ap (option_map entry_of) (finite.get-empty nat_cmp number) ∙ sym (finite.get-empty nat_cmp number))

no_parts : ConsistsOf empty_service empty_state (λ tenant base. [])
unfolding empty_service empty_state
no_parts = record {
  in_step = λ number tenant there. absurd (no_tenant number tenant there);
  catalogue = ap (λ (tenants : finite.FinMap nat_cmp TenantEntry). record { bases = []; extensions = []; tenants = tenants }) no_entry;
  databases = λ number tenant there. absurd (no_tenant number tenant there);
  elsewhere = λ number base none. refl;
}

pub returns : goal.returns
returns c = no_parts
