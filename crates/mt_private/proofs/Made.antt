-- The catalogue once a further row was made.
use Rattle.std.proofs.Common.{◌≡◌, ⊎_elim, ℕ, ◌+◌, ◌≤◌, ◌^◌, cond, Option, None, Some, refl, sym, ap, ◌∙◌, subst, arith}
use Rattle.std.specs.Prelude.{is_some, slice_get, slice_set}
use Rattle.std.specs.FinMap as finite
use Rattle.std.proofs.lemmas.Bool.{cases_eq}
use Rattle.std.proofs.lemmas.List.{length-set}
use Rattle.mt_fold.specs.declared.fold.Placement.{Placement}
use Rattle.mt_fold.specs.declared.fold.Placement.TheVariants.{Settled, Moving}
use Rattle.mt_catalog.specs.declared.state.TenantEntry.{TenantEntry}
use Rattle.mt_catalog.specs.declared.state.TenantTable.{TenantTable}
use Rattle.mt_catalog.specs.State.{State, table_in, tenant_table}
use Rattle.mt_catalog.specs.Rules.{IsCatalogue, IsTenant, IsTenantTable, MovesMade}
use Rattle.mt_schema.specs.Refusals.{quota_of}
use Rattle.mt_schema.specs.Steps.{with_table}
use Rattle.mt_schema.proofs.Numbered.{changed_elsewhere, changed_there}
use Rattle.mt_schema.proofs.Put.{new_tenant, put_tenant, table_at, tenant_at, with_tenant_there}
use Rattle.mt_schema.proofs.Quotas.{quotas_put}
use Rattle.mt_schema.proofs.RulesPut as put
use Rattle.mt_model.specs.Parts.{made_one, one_more_made}

pub made_there : (state : State) (tenant base : ℕ) (entry : TenantEntry) → finite.get state.tenants tenant ≡ Some entry → made_one state tenant base ≡ put_tenant state tenant (with_table base one_more_made entry)
made_there state tenant base entry there = with_tenant_there state tenant (with_table base one_more_made) entry there

pub made_nowhere : (state : State) (tenant base : ℕ) → finite.get state.tenants tenant ≡ None → made_one state tenant base ≡ state
made_nowhere state tenant base none = by (finite.get state.tenants tenant) ∙ ap changed none
  where
    changed : Option TenantEntry → State
    changed o = elim o [ None ↦ state | Some e ↦ put_tenant state tenant (with_table base one_more_made e) ]

    by : (o : Option TenantEntry) → (elim o [ None ↦ state | Some e ↦ record { bases = state.bases; extensions = state.extensions; tenants = finite.insert state.tenants tenant (with_table base one_more_made e) } ]) ≡ changed o
    by None = refl
    by (Some e) = refl

moves_more : (made : ℕ) (placement : Placement) → MovesMade made placement → MovesMade (made + 1) placement
moves_more made (Settled generation fold) moves = tt
moves_more made (Moving generation before after frontier upto) moves = omega (arith, moves)

module _ (state : State) (rules : IsCatalogue state) (tenant base : ℕ) (entry : TenantEntry) (there : finite.get state.tenants tenant ≡ Some entry) (own : TenantTable) (got : slice_get entry.tables base ≡ Some own) where
  abbrev pub counted : TenantEntry
  counted = record { quota = entry.quota; tables = slice_set entry.tables base (one_more_made own) }

  abbrev pub after : State
  after = put_tenant state tenant counted

  pub made_is : made_one state tenant base ≡ after
  made_is =
      made_there state tenant base entry there
      ∙ ap (λ (found : Option TenantTable). put_tenant state tenant (elim found as (λ _. TenantEntry) [ None ↦ entry | Some table ↦ record { quota = entry.quota; tables = slice_set entry.tables base (one_more_made table) } ])) got

  is : IsTenant state tenant entry
  is = rules.tenants tenant entry there

  module _ (room : own.made + 1 ≤ 2 ^ 63) where
    table_is : IsTenantTable after base (one_more_made own)
    table_is =
        let kept = put.kept_table state rules tenant counted base own (is.tables base own got) in
        record { made = room; extended = kept.extended; few = kept.few; apart = kept.apart; placement = kept.placement; moves = moves_more own.made own.placement kept.moves }

    tables_are : (number : ℕ) (one : TenantTable) → slice_get counted.tables number ≡ Some one → IsTenantTable after number one
    tables_are number one found = ⊎_elim at_base
        (λ apart. put.kept_table state rules tenant counted number one (is.tables number one (sym (changed_elsewhere entry.tables base (one_more_made own) number apart) ∙ found)))
        (cases_eq number base)
      where
        at_base : number ≡ base → IsTenantTable after number one
        at_base same =
            let both : Some (one_more_made own) ≡ Some one = sym (changed_there entry.tables base (one_more_made own) own got) ∙ sym (ap (slice_get counted.tables) same) ∙ found in
            let made : one_more_made own ≡ one = cc in
            subst (λ n. IsTenantTable after n one) (sym same) (subst (IsTenantTable after base) made table_is)

    pub made_keeps : IsCatalogue after
    made_keeps =
        let size = put.len_put state tenant counted ∙ ap (λ o. cond (is_some o) (finite.len state.tenants) (finite.len state.tenants + 1)) there in
        let few = rules.few_tenants in
        let total = quotas_put state tenant counted in
        let before = ap quota_of there in
        let sum = rules.quotas in
        put.put_keeps state rules tenant counted (record {
          number_from = is.number_from;
          number_upto = is.number_upto;
          quota_from = is.quota_from;
          quota_upto = is.quota_upto;
          each_base = length-set entry.tables base (one_more_made own) ∙ is.each_base;
          tables = tables_are;
        }) (omega (arith, few, size)) (omega (arith, total, before, sum))

  -- each tenant was there, with the same quota
  pub entry_before : (number : ℕ) (one : TenantEntry) → finite.get after.tenants number ≡ Some one → (before : TenantEntry) × (finite.get state.tenants number ≡ Some before) × (one.quota ≡ before.quota)
  entry_before number one found = ⊎_elim at_own (λ apart. (one, sym (tenant_at state tenant counted number apart) ∙ found, refl)) (cases_eq number tenant)
    where
      at_own : number ≡ tenant → (before : TenantEntry) × (finite.get state.tenants number ≡ Some before) × (one.quota ≡ before.quota)
      at_own same =
          let both : Some counted ≡ Some one = sym (new_tenant state tenant counted) ∙ sym (ap (finite.get after.tenants) same) ∙ found in
          let made : counted ≡ one = cc in
          (entry, ap (finite.get state.tenants) same ∙ there, sym (ap (λ (of : TenantEntry). of.quota) made))

  -- each table was there, with the same extensions
  pub table_before : (number other : ℕ) (one : TenantTable) → tenant_table after number other ≡ Some one → (before : TenantTable) × (tenant_table state number other ≡ Some before) × (one.extended ≡ before.extended)
  table_before number other one found = ⊎_elim at_own (λ apart. (one, sym (table_at state tenant counted number other apart) ∙ found, refl)) (cases_eq number tenant)
    where
      at_own : number ≡ tenant → (before : TenantTable) × (tenant_table state number other ≡ Some before) × (one.extended ≡ before.extended)
      at_own same = ⊎_elim at_base (λ apart. (one, held ∙ sym (changed_elsewhere entry.tables base (one_more_made own) other apart) ∙ kept, refl)) (cases_eq other base)
        where
          held : tenant_table state number other ≡ slice_get entry.tables other
          held = ap (table_in other) (ap (finite.get state.tenants) same ∙ there)

          kept : slice_get counted.tables other ≡ Some one
          kept = sym (ap (table_in other) (ap (finite.get after.tenants) same ∙ new_tenant state tenant counted)) ∙ found

          at_base : other ≡ base → (before : TenantTable) × (tenant_table state number other ≡ Some before) × (one.extended ≡ before.extended)
          at_base is_base =
              let both : Some (one_more_made own) ≡ Some one = sym (changed_there entry.tables base (one_more_made own) own got) ∙ sym (ap (slice_get counted.tables) is_base) ∙ kept in
              let made : one_more_made own ≡ one = cc in
              (own, held ∙ ap (slice_get entry.tables) is_base ∙ got, sym (ap (λ (of : TenantTable). of.extended) made))
