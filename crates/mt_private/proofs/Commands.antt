-- How many rows are kept of the tenant that a schema step names.
use Rattle.std.proofs.Common.{◌≡◌, ℕ, ◌<◌, ◌^◌, length, sum_by, Bor, Option, None, Some, refl, sym, ap, ◌∙◌, arith}
use Rattle.std.specs.Prelude.{option_map}
use Rattle.std.specs.FinMap as finite
use Rattle.std.specs.List.{range_with_len}
use Rattle.std.specs.Option.{option_copied}
use Rattle.mt_catalog.specs.declared.state.TenantEntry.{TenantEntry}
use Rattle.mt_catalog.specs.State.{State}
use Rattle.mt_model.specs.Parts.{ConsistsOf, KeptRows, database_of}
use Rattle.mt_model.specs.Service.{Service, Tenant, kept_of}
use Rattle.mt_private.specs.Kept.{AreKept, TableRows, rows_in}
use Rattle.mt_private.specs.Seen.{kept_in, lists_of}
use Rattle.mt_private.proofs.Keeping.{TellsDatabases}

-- the parts of a service tell how many rows are kept of a tenant
abbrev pub TellsKept : Type 0
TellsKept = (service : Service) (state : State) (rows : KeptRows) (number : ℕ) → ConsistsOf service state rows → kept_of service number ≡ sum_by (λ base. length (rows number base)) (range_with_len 0 (length state.bases))

-- without a database nobody is there
unheld : (found : Option Tenant) → option_map (λ (tenant : Tenant). tenant.database) found ≡ None → found ≡ None
unheld None is = refl
unheld (Some tenant) is = absurd (cc)

module _ (state : State) (entries : TableRows) (tenant : ℕ) where
  -- none of one that is not there
  pub kept_nowhere : TellsDatabases → finite.get state.tenants tenant ≡ None → (service : Service) → AreKept state entries service → 0 ≡ kept_of service tenant
  kept_nowhere tells none service kept =
      let told = tells service state (rows_in entries) tenant kept.consists ∙ ap (option_map (database_of (rows_in entries tenant))) none in
      sym (ap (λ (found : Option Tenant). kept_at found) (unheld (finite.get service.tenants tenant) told))
    where
      kept_at : Option Tenant → ℕ
      kept_at found = elim found [ None ↦ 0 | Some kept ↦ sum_by (λ table. length table.rows) kept.database.current ]

  -- those of its lists, of one that is
  pub kept_there : TellsKept → (service : Service) → AreKept state entries service → kept_in (lists_of entries tenant) (length state.bases) ≡ kept_of service tenant
  kept_there tells service kept = sym (tells service state (rows_in entries) tenant kept.consists)

  module _ (entry : TenantEntry) (there : finite.get state.tenants tenant ≡ Some entry) (service : Service) (kept : AreKept state entries service) where
    pub number_fits : tenant < 2 ^ 32
    number_fits = let upto = (kept.rules.tenants tenant entry there).number_upto in omega (arith, upto)

    pub count_fits : kept_in (lists_of entries tenant) (length state.bases) < 2 ^ 64
    count_fits =
        let within = kept.quotas tenant entry there in
        let upto = (kept.rules.tenants tenant entry there).quota_upto in
        omega (arith, within, upto)

-- an entry that was looked up
pub found_entry : (found : Option (Bor TenantEntry)) (own : Bor TenantEntry) (kept : Option TenantEntry) → found ≡ Some own → option_copied found ≡ kept → kept ≡ Some own.now
found_entry found own kept is same = sym same ∙ ap option_copied is

pub found_none : (found : Option (Bor TenantEntry)) (kept : Option TenantEntry) → found ≡ None → option_copied found ≡ kept → kept ≡ None
found_none found kept is same = sym same ∙ ap option_copied is
