-- SET QUOTA changes the slot of its tenant alone, where the quota is another.
use Rattle.std.proofs.Common.{◌≡◌, ◌≢◌, inl, ⊎_elim, ℕ, Bool, true, false, cond, List, [], ◌∷◌, Some, refl, sym, ap, ◌∙◌, subst, eqb-true}
use Rattle.std.specs.Prelude.{◌==◌, option_map}
use Rattle.std.specs.FinMap as finite
use Rattle.std.proofs.lemmas.Bool.{cases_eq, eqb-false}
use Rattle.mt_tree.specs.declared.command.AdminCmd.TheVariants.{SetQuota}
use Rattle.mt_catslot.specs.declared.slot.CatSlot.TheVariants as slots
use Rattle.mt_catslot.specs.declared.slot.CatKey.{CatKey}
use Rattle.mt_catslot.specs.declared.slot.CatKey.TheVariants as keys
use Rattle.mt_catalog.specs.declared.state.TenantEntry.{TenantEntry}
use Rattle.mt_catalog.specs.State.{State, table_in, tenant_table}
use Rattle.mt_catalog.specs.Slots.{extended_slot, field_slot, placement_slot, slot_of}
use Rattle.mt_schema.specs.Changed.{changed_keys}
use Rattle.mt_schema.specs.Refusals.{quota_of}
use Rattle.mt_schema.specs.Steps.{stepped}
use Rattle.mt_schema.proofs.Put.{new_tenant, put_tenant, table_at, tenant_at, with_tenant_there}
use Rattle.mt_schema.proofs.Turning.{AreChanged}

module _ (state : State) (tenant quota : ℕ) (entry : TenantEntry) (there : finite.get state.tenants tenant ≡ Some entry) where
  abbrev changed_entry : TenantEntry
  changed_entry = record { quota = quota; tables = entry.tables }

  abbrev after : State
  after = put_tenant state tenant changed_entry

  same_table : (other base : ℕ) → tenant_table after other base ≡ tenant_table state other base
  same_table other base = ⊎_elim at_own (table_at state tenant changed_entry other base) (cases_eq other tenant)
    where
      at_own : other ≡ tenant → tenant_table after other base ≡ tenant_table state other base
      at_own same = ap (λ n. tenant_table after n base) same ∙ ap (table_in base) (new_tenant state tenant changed_entry) ∙ sym (ap (table_in base) there) ∙ ap (λ n. tenant_table state n base) (sym same)

  elsewhere : (key : CatKey) → key ≢ keys.Tenant tenant → slot_of after key ≡ slot_of state key
  elsewhere (keys.Relation class number) apart = refl
  elsewhere (keys.Column class number position) apart = refl
  elsewhere (keys.Tenant other) apart = ap (option_map (λ entry. slots.Tenant other entry.quota)) (tenant_at state tenant changed_entry other (λ same. apart (ap keys.Tenant same)))
  elsewhere (keys.Placement other base) apart = ap (placement_slot other base) (same_table other base)
  elsewhere (keys.Extended other base position) apart = ap (extended_slot other base position) (same_table other base)
  elsewhere (keys.Field other base generation column) apart = ap (field_slot other base generation column) (same_table other base)

  at_tenant : slot_of after (keys.Tenant tenant) ≡ Some (slots.Tenant tenant quota)
  at_tenant = ap (option_map (λ entry. slots.Tenant tenant entry.quota)) (new_tenant state tenant changed_entry)

  before_at : slot_of state (keys.Tenant tenant) ≡ Some (slots.Tenant tenant entry.quota)
  before_at = ap (option_map (λ entry. slots.Tenant tenant entry.quota)) there

  -- where the quota is the same, nothing changes
  kept : entry.quota ≡ quota → (key : CatKey) → slot_of after key ≡ slot_of state key
  kept same (keys.Relation class number) = refl
  kept same (keys.Column class number position) = refl
  kept same (keys.Tenant other) = ⊎_elim at_own (λ apart. elsewhere (keys.Tenant other) (λ one. apart (own one))) (cases_eq other tenant)
    where
      own : keys.Tenant other ≡ keys.Tenant tenant → other ≡ tenant
      own one = cc

      at_own : other ≡ tenant → slot_of after (keys.Tenant other) ≡ slot_of state (keys.Tenant other)
      at_own one =
          ap (λ n. slot_of after (keys.Tenant n)) one ∙ at_tenant ∙ ap (λ of. Some (slots.Tenant tenant of)) (sym same)
          ∙ sym before_at ∙ ap (λ n. slot_of state (keys.Tenant n)) (sym one)
  kept same (keys.Placement other base) = ap (placement_slot other base) (same_table other base)
  kept same (keys.Extended other base position) = ap (extended_slot other base position) (same_table other base)
  kept same (keys.Field other base generation column) = ap (field_slot other base generation column) (same_table other base)

  changes : (b : Bool) → (entry.quota == quota) ≡ b → AreChanged (cond b [] (keys.Tenant tenant ∷ [])) state after
  changes true same = record { once = tt; elsewhere = λ key none. kept (eqb-true entry.quota quota same) key; differ = tt }
  changes false apart = record {
    once = (tt, tt);
    elsewhere = λ key none. elsewhere key (λ same. none (inl same));
    differ = (λ same. let one = sym at_tenant ∙ same ∙ before_at in eqb-false entry.quota quota apart (cc), tt);
  }

  pub quota_changes : (tenants : List ℕ) → AreChanged (changed_keys state tenants (SetQuota tenant quota)) state (stepped state (SetQuota tenant quota))
  quota_changes tenants =
      subst (AreChanged (changed_keys state tenants (SetQuota tenant quota)) state) (sym (with_tenant_there state tenant (λ e. record { quota = quota; tables = e.tables }) entry there))
      (subst (λ o. AreChanged (cond (quota_of o == quota) [] (keys.Tenant tenant ∷ [])) state after) (sym there) (changes (entry.quota == quota) refl))
