-- Laws of what one tenant sees and of what is answered, for the crates above.
use Rattle.std.specs.Prelude.{◌≡◌, ◌≢◌, ℕ, ◌==◌, Bool, true, false, cond, List, [], Option, Some, None, option_map, codes}
use Rattle.std.proofs.Common.{refl, sym, ap, ◌∙◌, eq-eqb, eqb-true}
use Rattle.std.specs.Ordering.{nat_cmp}
use Rattle.std.specs.Cmp.{nat_cmp_total}
use Rattle.std.specs.FinMap as finite
use Rattle.std.specs.FinMap.{FinMap}
use Rattle.mt_tree.specs.declared.schema.Table.{Table}
use Rattle.mt_tree.specs.declared.code.Code.{Code}
use Rattle.mt_tree.specs.declared.command.AdminCmd.{AdminCmd}
use Rattle.mt_tree.specs.declared.reply.Reply.TheVariants.{Text}
use Rattle.mt_tree.specs.Replies.{reply_bytes}
use Rattle.mt_catalog.specs.declared.state.Extension.{Extension}
use Rattle.mt_schema.proofs.Maps.{get-insert}
use Rattle.mt_model.specs.Command.{command_refusal, applied}
use Rattle.mt_model.specs.Database.{PrivateDatabase}
use Rattle.mt_model.specs.Request.{Request}
use Rattle.mt_model.specs.Run.{Rules}
use Rattle.mt_model.specs.Service.{Service, Tenant, View, put_database, view_of, with_tenant}
use Rattle.mt_model.specs.Step.{Stepped, refused, command_step}

-- the view with this database
abbrev pub view_with : List Table → List Extension → Option PrivateDatabase → View
view_with tables extensions database = record { tables = tables; extensions = extensions; database = database }

-- the database of a tenant, if there is one
abbrev pub database_in : Option Tenant → Option PrivateDatabase
database_in kept = option_map (λ tenant. tenant.database) kept

-- the service of these tables, extensions and tenants
abbrev pub service_with : List Table → List Extension → FinMap nat_cmp Tenant → Service
service_with tables extensions tenants = record { tables = tables; extensions = extensions; tenants = tenants }

-- the service in which a tenant is changed, where this is kept of it
abbrev pub changed_where : Service → ℕ → (Tenant → Tenant) → Option Tenant → Service
changed_where service tenant change None = service
changed_where service tenant change (Some kept) = service_with service.tables service.extensions (finite.insert service.tenants tenant (change kept))

pub with_tenant-kept : (service : Service) (tenant : ℕ) (change : Tenant → Tenant) (kept : Option Tenant) → finite.get service.tenants tenant ≡ kept → with_tenant service tenant change ≡ changed_where service tenant change kept
with_tenant-kept service tenant change kept e = by (finite.get service.tenants tenant) ∙ ap (changed_where service tenant change) e
  where
    by : (found : Option Tenant) → (elim found [ None ↦ service | Some kept ↦ record service { tenants = finite.insert service.tenants tenant (change kept) } ]) ≡ changed_where service tenant change found
    by None = refl
    by (Some kept) = refl

-- what a tenant sees where one was put
pub view_of-put : (service : Service) (other : ℕ) (kept : Tenant) (tenant : ℕ) →
    view_of (service_with service.tables service.extensions (finite.insert service.tenants other kept)) tenant
    ≡ view_with service.tables service.extensions (database_in (cond (tenant == other) (Some kept) (finite.get service.tenants tenant)))
view_of-put service other kept tenant = ap (λ (found : Option Tenant). view_with service.tables service.extensions (database_in found)) (get-insert service.tenants other kept tenant)

-- what a tenant sees once it was changed, where this was kept of it
pub view_of-changed_own : (service : Service) (tenant : ℕ) (change : Tenant → Tenant) (kept : Option Tenant) → finite.get service.tenants tenant ≡ kept →
    view_of (with_tenant service tenant change) tenant ≡ view_with service.tables service.extensions (database_in (option_map change kept))
view_of-changed_own service tenant change kept e = ap (λ (next : Service). view_of next tenant) (with_tenant-kept service tenant change kept e) ∙ by kept e
  where
    by : (kept : Option Tenant) → finite.get service.tenants tenant ≡ kept → view_of (changed_where service tenant change kept) tenant ≡ view_with service.tables service.extensions (database_in (option_map change kept))
    by None e = ap (λ (found : Option Tenant). view_with service.tables service.extensions (database_in found)) e
    by (Some kept) e =
        view_of-put service tenant (change kept) tenant
        ∙ ap (λ (here : Bool). view_with service.tables service.extensions (database_in (cond here (Some (change kept)) (finite.get service.tenants tenant)))) (eq-eqb tenant tenant refl)

-- what it sees is the same once another tenant was put
pub view_of-put_other : (service : Service) (other : ℕ) (kept : Tenant) (tenant : ℕ) → (tenant == other) ≡ false → view_of (service_with service.tables service.extensions (finite.insert service.tenants other kept)) tenant ≡ view_of service tenant
view_of-put_other service other kept tenant apart =
    view_of-put service other kept tenant
    ∙ ap (λ (here : Bool). view_with service.tables service.extensions (database_in (cond here (Some kept) (finite.get service.tenants tenant)))) apart

-- or changed
pub view_of-changed_other : (service : Service) (other : ℕ) (change : Tenant → Tenant) (tenant : ℕ) → (tenant == other) ≡ false → view_of (with_tenant service other change) tenant ≡ view_of service tenant
view_of-changed_other service other change tenant apart =
    ap (λ (next : Service). view_of next tenant) (with_tenant-kept service other change (finite.get service.tenants other) refl) ∙ by (finite.get service.tenants other)
  where
    by : (kept : Option Tenant) → view_of (changed_where service other change kept) tenant ≡ view_of service tenant
    by None = refl
    by (Some kept) = view_of-put_other service other (change kept) tenant apart

-- a tenant with this database
abbrev pub with_database : PrivateDatabase → Tenant → Tenant
with_database database kept = record { database = database; placements = kept.placements; used = kept.used }

-- to put back what is kept of a tenant changes nothing
pub put_tenant-there : (service : Service) (tenant : ℕ) (kept : Tenant) → finite.get service.tenants tenant ≡ Some kept → service_with service.tables service.extensions (finite.insert service.tenants tenant kept) ≡ service
put_tenant-there service tenant kept e =
    ap (λ (tenants : FinMap nat_cmp Tenant). service_with service.tables service.extensions tenants)
    (finite.same_map nat_cmp_total finite.nat_cmp-IsAntisymmetric (finite.insert service.tenants tenant kept) service.tenants there)
  where
    at : (other : ℕ) (here : Bool) → (other == tenant) ≡ here → cond here (Some kept) (finite.get service.tenants other) ≡ finite.get service.tenants other
    at other true same = sym e ∙ ap (finite.get service.tenants) (sym (eqb-true other tenant same))
    at other false apart = refl

    there : (other : ℕ) → finite.get (finite.insert service.tenants tenant kept) other ≡ finite.get service.tenants other
    there other = get-insert service.tenants tenant kept other ∙ at other (other == tenant) refl

-- so to put back its database
pub put_database-there : (service : Service) (tenant : ℕ) (kept : Tenant) → finite.get service.tenants tenant ≡ Some kept → put_database service tenant (Some kept.database) ≡ service
put_database-there service tenant kept e = with_tenant-kept service tenant (with_database kept.database) (Some kept) e ∙ put_tenant-there service tenant kept e

-- a command that is not refused is done, and one that is refused is not
abbrev pub decided_step : Service → AdminCmd → Option Code → Stepped
decided_step service command None = record { reply = Text (codes "ok\n"); next = applied service command }
decided_step service command (Some code) = refused service code

pub command_step-decided : (service : Service) (command : AdminCmd) (refusal : Option Code) → command_refusal service command ≡ refusal → command_step service command ≡ decided_step service command refusal
command_step-decided service command refusal e = by (command_refusal service command) ∙ ap (decided_step service command) e
  where
    by : (found : Option Code) → (elim found [ None ↦ record { reply = Text (codes "ok\n"); next = applied service command } | Some code ↦ refused service code ]) ≡ decided_step service command found
    by None = refl
    by (Some code) = refl

-- each reply of a step of these rules prints something
abbrev pub EachStepPrints : Rules → Type 0
EachStepPrints rules = (service : Service) (request : Request) → reply_bytes ((rules.step service request).reply) ≢ []
