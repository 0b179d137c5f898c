-- What is kept once a statement of a tenant was answered.
use Rattle.std.proofs.Common.{◌≡◌, inl, inr, ℕ, ◌≤◌, Option, None, Some, length, refl, sym, ap, ◌∙◌, subst}
use Rattle.std.specs.Prelude.{option_map}
use Rattle.std.specs.FinMap as finite
use Rattle.mt_tree.specs.declared.reply.Reply.{Reply}
use Rattle.mt_tree.specs.declared.reply.Reply.TheVariants.{Memory, Refused}
use Rattle.mt_tree.specs.declared.code.Code.TheVariants.{UnknownTenant}
use Rattle.mt_tree.specs.declared.simple.SimpleStmt.{SimpleStmt}
use Rattle.mt_catalog.specs.declared.state.TenantEntry.{TenantEntry}
use Rattle.mt_catalog.specs.State.{State, extended_columns, table_in}
use Rattle.mt_model.specs.Answer.{answer, answer_said, next_database, next_said}
use Rattle.mt_model.specs.Database.{PrivateDatabase}
use Rattle.mt_model.specs.Laws.{put_database-there}
use Rattle.mt_model.specs.Parts.{ConsistsOf, KeptRows, database_of}
use Rattle.mt_model.specs.Request.{Statement}
use Rattle.mt_model.specs.Run.{YieldsToMemory}
use Rattle.mt_model.specs.Said.{Said}
use Rattle.mt_model.specs.Service.{Service, Tenant, View, put_database, view_of}
use Rattle.mt_private.specs.Kept.{AreKept, IsKeptTable, TableRows, rows_in}
use Rattle.mt_private.specs.Outcome.{IsAnswered}
use Rattle.mt_private.specs.Seen.{IsSeen, KeepsRows, database_in, kept_in, lists_of, view_in}
use Rattle.mt_private.proofs.Counted.{sum_same}
use Rattle.mt_private.proofs.Forgone.{said_yields}

-- the parts of a service tell its databases
abbrev pub TellsDatabases : Type 0
TellsDatabases = (service : Service) (state : State) (rows : KeptRows) (number : ℕ) → ConsistsOf service state rows
    → option_map (λ (tenant : Tenant). tenant.database) (finite.get service.tenants number) ≡ option_map (database_of (rows number)) (finite.get state.tenants number)

-- rows that are the same table by table are the same parts
pub consists_same : (service : Service) (state : State) (rows others : KeptRows) → ((number base : ℕ) → others number base ≡ rows number base) → ConsistsOf service state rows → ConsistsOf service state others
consists_same service state rows others same is = record {
  in_step = is.in_step;
  catalogue = is.catalogue;
  databases = λ number tenant there. record {
    rows_are = λ base content found. (is.databases number tenant there).rows_are base content found ∙ sym (same number base);
    none_open = (is.databases number tenant there).none_open;
  };
  elsewhere = λ number base none. same number base ∙ is.elsewhere number base none;
}

pub kept_same : (state : State) (entries left : TableRows) (service : Service) → KeepsRows entries left → AreKept state entries service → AreKept state left service
kept_same state entries left service same kept = record {
  rules = kept.rules;
  consists = consists_same service state (rows_in entries) (rows_in left) same kept.consists;
  tables = λ tenant base table there. subst (IsKeptTable (extended_columns state base table.extended)) (sym (same tenant base)) (kept.tables tenant base table there);
  quotas = λ tenant entry there.
      subst (λ n. n ≤ entry.quota) (sum_same (λ base. length (rows_in entries tenant base)) (λ base. length (rows_in left tenant base)) 0 (length state.bases) (λ base above. ap length (sym (same tenant base)))) (kept.quotas tenant entry there);
}

-- what a tenant sees that is there
pub seen : (state : State) (entries : TableRows) (service : Service) (tenant : ℕ) (entry : TenantEntry) → AreKept state entries service → finite.get state.tenants tenant ≡ Some entry → IsSeen state entry (lists_of entries tenant)
seen state entries service tenant entry kept there = record {
  each_base = (kept.rules.tenants tenant entry there).each_base;
  tables = λ base table found. kept.tables tenant base table (ap (table_in base) there ∙ found);
  quota = subst (λ n. kept_in (lists_of entries tenant) n ≤ entry.quota) (sym (kept.rules.tenants tenant entry there).each_base) (kept.quotas tenant entry there);
}

-- a tenant of which this is the database
held : (database : PrivateDatabase) (found : Option Tenant) → option_map (λ (tenant : Tenant). tenant.database) found ≡ Some database → (tenant : Tenant) × (found ≡ Some tenant) × (tenant.database ≡ database)
held database None is = absurd (cc)
held database (Some tenant) is = (tenant, refl, cc)

abbrev view_at : State → Option PrivateDatabase → View
view_at state database = record { tables = state.bases; extensions = state.extensions; database = database }

module _ (tells : TellsDatabases) (state : State) (entries : TableRows) (tenant : ℕ) where
  -- a service that is kept shows the tenant this
  seen_at : (service : Service) → AreKept state entries service → view_of service tenant ≡ view_at state (option_map (database_of (rows_in entries tenant)) (finite.get state.tenants tenant))
  seen_at service kept =
      ap (λ (of : State). record { tables = of.bases; extensions = of.extensions; database = (view_of service tenant).database }) kept.consists.catalogue
      ∙ ap (view_at state) (tells service state (rows_in entries) tenant kept.consists)

  -- nobody is there
  pub unknown : finite.get state.tenants tenant ≡ None → (said : Said SimpleStmt) → IsAnswered state state entries entries (Statement tenant said) (Refused UnknownTenant)
  unknown none said service kept =
      let view = seen_at service kept ∙ ap (λ (found : Option TenantEntry). view_at state (option_map (database_of (rows_in entries tenant)) found)) none in (
        service,
        inl (record {
          reply_is = sym (ap (λ (v : View). answer v said) view);
          next_is = sym (ap (λ (v : View). put_database service tenant (next_database v said)) view);
        }),
        kept,
      )

  module _ (entry : TenantEntry) (there : finite.get state.tenants tenant ≡ Some entry) where
    abbrev database : PrivateDatabase
    database = database_in entry (lists_of entries tenant)

    abbrev view : View
    view = view_in state entry (lists_of entries tenant)

    pub view_is : (service : Service) → AreKept state entries service → view_of service tenant ≡ view
    view_is service kept = seen_at service kept ∙ ap (λ (found : Option TenantEntry). view_at state (option_map (database_of (rows_in entries tenant)) found)) there

    pub tenant_is : (service : Service) → AreKept state entries service → (kept : Tenant) × (finite.get service.tenants tenant ≡ Some kept) × (kept.database ≡ database)
    tenant_is service kept =
        held database (finite.get service.tenants tenant) (tells service state (rows_in entries) tenant kept.consists ∙ ap (option_map (database_of (rows_in entries tenant))) there)

    -- a reply that changes nothing
    pub unchanged : (said : Said SimpleStmt) (reply : Reply) → reply ≡ answer_said view database said → next_said view database said ≡ database → IsAnswered state state entries entries (Statement tenant said) reply
    unchanged said reply is same service kept =
        let own = tenant_is service kept in
        let view = view_is service kept in (
          service,
          inl (record {
            reply_is = is ∙ sym (ap (λ (v : View). answer v said) view);
            next_is =
                sym (ap (λ (v : View). put_database service tenant (next_database v said)) view
                ∙ ap (λ (of : PrivateDatabase). put_database service tenant (Some of)) (same ∙ sym own.2)
                ∙ put_database-there service tenant own.0 own.1);
          }),
          kept,
        )

    -- want of memory
    pub forgone : (left : TableRows) (said : Said SimpleStmt) → KeepsRows entries left → IsAnswered state state entries left (Statement tenant said) Memory
    forgone left said same service kept = (
      service,
      inr (record {
        reply_is = refl;
        next_is = refl;
        yields = subst (λ (v : View). YieldsToMemory (answer v said)) (sym (view_is service kept)) (said_yields view database said);
      }),
      kept_same state entries left service same kept,
    )
