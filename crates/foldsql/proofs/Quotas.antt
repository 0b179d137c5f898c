-- The service of a map of quotas: what it has at a tenant, the sum of its quotas, and both with one tenant more.
use Rattle.std.proofs.Common.{◌≡◌, ℕ, ◌+◌, ◌<◌, ◌≤◌, Bool, true, false, cond, List, [], ◌∷◌, refl, sym, ◌∙◌, ap, arith, Option, Some, None}
use Rattle.std.specs.Prelude.{map as map_list, sum_by, is_some, nat_lt, codes}
use Rattle.std.specs.Option.{option_map}
use Rattle.std.specs.Map.{lookup}
use Rattle.std.specs.Ordering.{nat_cmp, eq_by_cmp}
use Rattle.std.specs.BTreeMap.{is_at}
use Rattle.std.specs.Cmp.{nat_cmp_total, eq_by_cmp_equiv}
use Rattle.std.specs.FinMap as map
use Rattle.std.specs.FinMap.{find}
use Rattle.std.proofs.lemmas.Grind.{common_steps}
use Rattle.std.proofs.lemmas.List.{nil_from_length}
use Rattle.mt_tree.specs.declared.command.AdminCmd.TheVariants.{CreateTenant}
use Rattle.mt_tree.specs.declared.code.Code.TheVariants.{NameExists, QuotasTooLarge}
use Rattle.mt_tree.specs.declared.reply.Reply.TheVariants.{Text, Refused}
use Rattle.mt_catalog.specs.declared.state.TenantEntry.{TenantEntry}
use Rattle.mt_catalog.specs.Rules.{quota_total}
use Rattle.mt_schema.proofs.Totals.{measured, sum-in_each, sum-insert}
use Rattle.mt_model.specs.Command.{applied, new_tenant}
use Rattle.mt_model.specs.Run.{IsStepped}
use Rattle.mt_model.specs.Service.{Service, Tenant, catalogue_of, empty_service, entry_of}
use Rattle.mt_model.specs.Step.{Stepped, refused}
use Rattle.foldsql.specs.Tenants.{service_with_quotas, tenant_of, create_step}

-- the tenant with this quota, where there is no table
abbrev with_quota : ℕ → Tenant
with_quota q = new_tenant [] q

-- the service with one tenant more
abbrev with_tenant : List (ℕ × ℕ) → ℕ → ℕ → Service
with_tenant es t q = applied (service_with_quotas es) (CreateTenant t q)

-- the service of these tenants
abbrev of_tenants : map.FinMap nat_cmp Tenant → Service
of_tenants tenants = record { tables = []; extensions = []; tenants = tenants }

-- a look-up among the tenants is one among the quotas
find_tenant : (es : List (ℕ × ℕ)) (t : ℕ) → find nat_cmp t (map_list tenant_of es) ≡ option_map with_quota (lookup (is_at (nat_cmp t)) es)
find_tenant [] t = refl
find_tenant (e ∷ es) t = elim (is_at (nat_cmp t) e.0) as (λ b. cond b (Some (with_quota e.1)) (find nat_cmp t (map_list tenant_of es)) ≡ option_map with_quota (cond b (Some e.1) (lookup (is_at (nat_cmp t)) es))) [ true ↦ refl | false ↦ find_tenant es t ]

-- what the service has at a tenant
get_service : (es : List (ℕ × ℕ)) (t : ℕ) → map.get (service_with_quotas es).tenants t ≡ option_map with_quota (lookup (is_at (nat_cmp t)) es)
get_service es t = map.get-from_entries nat_cmp_total (map_list tenant_of es) t ∙ find_tenant es t

is_some_map : {A B : Type 0} (f : A → B) (o : Option A) → is_some (option_map f o) ≡ is_some o
is_some_map f None = refl
is_some_map f (Some x) = refl

-- whether the service has a tenant
pub contains_service : (es : List (ℕ × ℕ)) (t : ℕ) → map.contains_key (service_with_quotas es).tenants t ≡ is_some (lookup (is_at (nat_cmp t)) es)
contains_service es t = ap is_some (get_service es t) ∙ is_some_map with_quota _

map_cond : (b : Bool) (q : ℕ) (o : Option ℕ) → option_map with_quota (cond b (Some q) o) ≡ cond b (Some (with_quota q)) (option_map with_quota o)
map_cond true q o = refl
map_cond false q o = refl

-- one quota more is one tenant more
pub service_with : (es fs : List (ℕ × ℕ)) (t q : ℕ) → ((u : ℕ) → lookup (is_at (nat_cmp u)) fs ≡ cond (is_at (nat_cmp t) u) (Some q) (lookup (is_at (nat_cmp u)) es)) → service_with_quotas fs ≡ with_tenant es t q
service_with es fs t q updates =
    ap of_tenants (map.same_map nat_cmp_total map.nat_cmp-IsAntisymmetric _ _ (λ u.
    get_service fs u ∙ ap (option_map with_quota) (updates u) ∙ map_cond (is_at (nat_cmp t) u) q _
    ∙ ap (λ b. cond b (Some (with_quota q)) (option_map with_quota (lookup (is_at (nat_cmp u)) es))) ((eq_by_cmp_equiv nat_cmp_total).symm t u)
    ∙ sym (map.get-insert nat_cmp_total (service_with_quotas es).tenants t (with_quota q) u ∙ ap (cond (eq_by_cmp nat_cmp u t) (Some (with_quota q))) (get_service es u))))

-- the quota of a tenant
abbrev quota_in : Tenant → ℕ
quota_in tenant = tenant.database.quota

-- the quotas of these tenants together
abbrev quotas_in : map.FinMap nat_cmp Tenant → ℕ
quotas_in tenants = sum_by quota_in (map.values tenants)

quota_total-quotas_in : (service : Service) → quota_total (catalogue_of service) ≡ quotas_in service.tenants
unfolding quota_total
quota_total-quotas_in service = sum-in_each entry_of quota_in (λ (entry : TenantEntry). entry.quota) (λ tenant. refl) service.tenants

measured-none : (o : Option Tenant) → is_some o ≡ false → measured quota_in o ≡ 0
measured-none None none = refl
measured-none (Some tenant) none = absurd (cc)

-- one tenant more adds the quota
pub quota_total-with_tenant : (es : List (ℕ × ℕ)) (t q : ℕ) → map.contains_key (service_with_quotas es).tenants t ≡ false → quota_total (catalogue_of (with_tenant es t q)) ≡ quota_total (catalogue_of (service_with_quotas es)) + q
quota_total-with_tenant es t q none =
    let tenants : map.FinMap nat_cmp Tenant = (service_with_quotas es).tenants in
    let after : quota_total (catalogue_of (with_tenant es t q)) ≡ quotas_in (map.insert tenants t (with_quota q)) = quota_total-quotas_in (with_tenant es t q) in
    let before : quota_total (catalogue_of (service_with_quotas es)) ≡ quotas_in tenants = quota_total-quotas_in (service_with_quotas es) in
    let put : quotas_in (map.insert tenants t (with_quota q)) + measured quota_in (map.get tenants t) ≡ quotas_in tenants + q = sum-insert quota_in tenants t (with_quota q) in
    let absent : measured quota_in (map.get tenants t) ≡ 0 = measured-none (map.get tenants t) none in
    omega (arith, after, before, put, absent)

-- no quotas make the empty service, which has no sum
pub service_with_no_quotas : service_with_quotas [] ≡ empty_service
unfolding empty_service
service_with_no_quotas = refl

pub quota_total_of_nothing : quota_total (catalogue_of (service_with_quotas [])) ≡ 0
quota_total_of_nothing =
    let none : map.entries (map.empty {K = ℕ} {X = Tenant} {R = nat_cmp}) ≡ [] = nil_from_length _ (sym (map.len-entries _) ∙ map.len-empty nat_cmp Tenant) in
    quota_total-quotas_in (service_with_quotas []) ∙ ap (λ (entries : List (ℕ × Tenant)). sum_by quota_in (map_list (λ e. e.1) entries)) none

-- what a step that is known gives
stepped : (found made : Stepped) → found ≡ made → IsStepped found made.reply made.next
stepped found made e = record { reply_is = sym (ap (λ m. m.reply) e); next_is = sym (ap (λ m. m.next) e) }

-- the tenant is made
abbrev created : List (ℕ × ℕ) → ℕ → ℕ → Stepped
created es t q = record { reply = Text (codes "ok\n"); next = with_tenant es t q }

-- the step where the tenant is not there
abbrev where_absent : List (ℕ × ℕ) → ℕ → ℕ → Stepped
where_absent es t q = cond (nat_lt 1048576 (quota_total (catalogue_of (service_with_quotas es)) + q)) (refused (service_with_quotas es) QuotasTooLarge) (created es t q)

-- a tenant that is there is refused
pub exists_stepped : (es : List (ℕ × ℕ)) (t q : ℕ) → map.contains_key (service_with_quotas es).tenants t ≡ true → IsStepped (create_step t q es) (Refused NameExists) (service_with_quotas es)
exists_stepped es t q there = stepped (create_step t q es) (refused (service_with_quotas es) NameExists) (ap (λ b. cond b (refused (service_with_quotas es) NameExists) (where_absent es t q)) there)

-- the command where the tenant is not there
absent_step : (es : List (ℕ × ℕ)) (t q : ℕ) (large : Bool) → map.contains_key (service_with_quotas es).tenants t ≡ false → nat_lt 1048576 (quota_total (catalogue_of (service_with_quotas es)) + q) ≡ large → create_step t q es ≡ cond large (refused (service_with_quotas es) QuotasTooLarge) (created es t q)
absent_step es t q large absent test =
    ap (λ b. cond b (refused (service_with_quotas es) NameExists) (where_absent es t q)) absent
    ∙ ap (λ b. cond b (refused (service_with_quotas es) QuotasTooLarge) (created es t q)) test

-- quotas that are too large together are refused
pub too_large_stepped : (es : List (ℕ × ℕ)) (t q : ℕ) → map.contains_key (service_with_quotas es).tenants t ≡ false → 1048576 < quota_total (catalogue_of (service_with_quotas es)) + q → IsStepped (create_step t q es) (Refused QuotasTooLarge) (service_with_quotas es)
too_large_stepped es t q absent large = stepped (create_step t q es) (refused (service_with_quotas es) QuotasTooLarge) (absent_step es t q true absent (grind (arith, common_steps)))

-- another tenant is made
pub created_stepped : (es : List (ℕ × ℕ)) (t q : ℕ) → map.contains_key (service_with_quotas es).tenants t ≡ false → quota_total (catalogue_of (service_with_quotas es)) + q ≤ 1048576 → IsStepped (create_step t q es) (Text (codes "ok\n")) (with_tenant es t q)
created_stepped es t q absent small = stepped (create_step t q es) (created es t q) (absent_step es t q false absent (grind (arith, common_steps)))
