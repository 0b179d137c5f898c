-- The service that is kept as the quota of each tenant.
use Rattle.std.specs.Prelude.{◌≡◌, ◌⊎◌, ◌≤◌, ℕ, List, [], map as map_list}
use Rattle.std.specs.FinMap as finite
use Rattle.mt_tree.specs.declared.command.AdminCmd.TheVariants.{CreateTenant}
use Rattle.mt_tree.specs.declared.reply.Reply.{Reply}
use Rattle.mt_catalog.specs.Rules.{quota_total}
use Rattle.mt_model.specs.Said.{Says}
use Rattle.mt_model.specs.Command.{new_tenant}
use Rattle.mt_model.specs.FirstPath.{first_path_step}
use Rattle.mt_model.specs.Request.{Command}
use Rattle.mt_model.specs.Run.{IsStepped, IsForgone}
use Rattle.mt_model.specs.Service.{Service, Tenant, catalogue_of}
use Rattle.mt_model.specs.Step.{Stepped}

-- what a tenant with this quota has, where there is no table
abbrev pub tenant_of : ℕ × ℕ → ℕ × Tenant
tenant_of entry = (entry.0, new_tenant [] entry.1)

-- the service of these tenants with their quotas, without a table
abbrev pub service_with_quotas : List (ℕ × ℕ) → Service
service_with_quotas quotas = record { tables = []; extensions = []; tenants = finite.from_entries (map_list tenant_of quotas) }

-- the sum is that of all quotas, and no larger than it may be
pub record IsTotal (quotas : List (ℕ × ℕ)) (total : ℕ) : Type 0 where
  pub sum : total ≡ quota_total (catalogue_of (service_with_quotas quotas))
  pub upto : total ≤ 1048576

-- what the command that makes a tenant does, and what it is answered
abbrev pub create_step : ℕ → ℕ → List (ℕ × ℕ) → Stepped
create_step tenant quota quotas = first_path_step (service_with_quotas quotas) (Command (Says (CreateTenant tenant quota)))

-- the command is done, or answered for want of memory
abbrev pub Creates : ℕ → ℕ → List (ℕ × ℕ) → Reply → List (ℕ × ℕ) → Type 0
Creates tenant quota quotas reply next =
    IsStepped (create_step tenant quota quotas) reply (service_with_quotas next)
    ⊎ IsForgone (service_with_quotas quotas) (create_step tenant quota quotas) reply (service_with_quotas next)
