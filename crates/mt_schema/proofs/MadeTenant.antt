-- CREATE TENANT changes the slots of its tenant alone.
use Rattle.std.proofs.Common.{◌≡◌, ◌≢◌, inl, inr, ⊎_elim, ℕ, ◌≤◌, List, length, map, Option, None, Some, refl, sym, ap, ◌∙◌, subst, arith}
use Rattle.std.specs.Prelude.{option_map, slice_get}
use Rattle.std.specs.List.{AllByRecursion as Each, range_with_len}
use Rattle.std.specs.FinMap as finite
use Rattle.std.proofs.lemmas.Bool.{cases_eq, cases_lt}
use Rattle.std.proofs.lemmas.Option.{slice_get-map, slice_get_past}
use Rattle.mt_tree.specs.declared.command.AdminCmd.TheVariants.{CreateTenant}
use Rattle.mt_tree.specs.declared.schema.Table.{Table}
use Rattle.mt_fold.proofs.Lists.{Among, Among-map, Each-map}
use Rattle.mt_catslot.specs.declared.slot.CatSlot.TheVariants as slots
use Rattle.mt_catslot.specs.declared.slot.CatKey.{CatKey}
use Rattle.mt_catslot.specs.declared.slot.CatKey.TheVariants as keys
use Rattle.mt_catalog.specs.declared.state.TenantEntry.{TenantEntry}
use Rattle.mt_catalog.specs.State.{State, table_in, tenant_table}
use Rattle.mt_catalog.specs.Slots.{extended_slot, field_slot, placement_slot, slot_of}
use Rattle.mt_catalog.proofs.Runs.{present}
use Rattle.mt_schema.specs.Changed.{changed_keys}
use Rattle.mt_schema.specs.Steps.{new_table, stepped}
use Rattle.mt_schema.proofs.NewTable.{no_extension, no_field}
use Rattle.mt_schema.proofs.Numbered.{among_range, each_among, mapped_once, range_among, range_once}
use Rattle.mt_schema.proofs.Put.{new_tenant, table_at, tenant_at}
use Rattle.mt_schema.proofs.Turning.{AreChanged, AreOnce, made_here}

module _ (state : State) (tenant quota : ℕ) (tenants : List ℕ) (free : finite.get state.tenants tenant ≡ None) where
  abbrev entry : TenantEntry
  entry = record { quota = quota; tables = map new_table state.bases }

  abbrev after : State
  after = stepped state (CreateTenant tenant quota)

  abbrev placements_of : List CatKey
  placements_of = map (λ base. keys.Placement tenant base) (range_with_len 0 (length state.bases))

  abbrev changed : List CatKey
  changed = changed_keys state tenants (CreateTenant tenant quota)

  no_table : (base : ℕ) → tenant_table state tenant base ≡ None
  no_table base = ap (table_in base) free

  new_table_at : (base : ℕ) → tenant_table after tenant base ≡ option_map new_table (slice_get state.bases base)
  new_table_at base = ap (table_in base) (new_tenant state tenant entry) ∙ slice_get-map new_table state.bases base

  -- the slots of what is new
  no_extension_at : (base position : ℕ) (o : Option Table) → extended_slot tenant base position (option_map new_table o) ≡ None
  no_extension_at base position None = refl
  no_extension_at base position (Some table) = no_extension tenant base position table

  no_field_at : (base generation column : ℕ) (o : Option Table) → field_slot tenant base generation column (option_map new_table o) ≡ None
  no_field_at base generation column None = refl
  no_field_at base generation column (Some table) = no_field tenant base generation column table

  once : AreOnce changed
  once = (
    Each-map (λ k. keys.Tenant tenant ≢ k) (λ base. keys.Placement tenant base) (range_with_len 0 (length state.bases)) (each_among _ (range_with_len 0 (length state.bases)) (λ base among same. cc)),
    mapped_once (λ base. keys.Placement tenant base) (λ a b same. cc) (range_with_len 0 (length state.bases)) (range_once 0 (length state.bases)),
  )

  elsewhere : (key : CatKey) → (Among key changed → ⊥) → slot_of after key ≡ slot_of state key
  elsewhere (keys.Relation class number) none = refl
  elsewhere (keys.Column class number position) none = refl
  elsewhere (keys.Tenant other) none = ap (option_map (λ entry. slots.Tenant other entry.quota)) (tenant_at state tenant entry other (λ same. none (inl (ap keys.Tenant same))))
  elsewhere (keys.Placement other base) none = ap (placement_slot other base) (⊎_elim at_new (table_at state tenant entry other base) (cases_eq other tenant))
    where
      past : other ≡ tenant → length state.bases ≤ base
      past same = ⊎_elim
          (λ within. absurd (none (inr (subst (λ n. Among (keys.Placement n base) placements_of) (sym same)
          (Among-map (λ b. keys.Placement tenant b) base (range_with_len 0 (length state.bases)) (range_among 0 (length state.bases) base (omega arith) (omega (arith, within))))))))
          (λ beyond. beyond) (cases_lt base (length state.bases))

      at_new : other ≡ tenant → tenant_table after other base ≡ tenant_table state other base
      at_new same =
          ap (λ n. tenant_table after n base) same ∙ new_table_at base ∙ ap (option_map new_table) (slice_get_past state.bases base (past same))
          ∙ sym (no_table base) ∙ ap (λ n. tenant_table state n base) (sym same)
  elsewhere (keys.Extended other base position) none = ⊎_elim at_new (λ apart. ap (extended_slot other base position) (table_at state tenant entry other base apart)) (cases_eq other tenant)
    where
      at_new : other ≡ tenant → extended_slot other base position (tenant_table after other base) ≡ extended_slot other base position (tenant_table state other base)
      at_new same =
          ap (λ n. extended_slot n base position (tenant_table after n base)) same
          ∙ ap (extended_slot tenant base position) (new_table_at base)
          ∙ no_extension_at base position (slice_get state.bases base)
          ∙ sym (ap (extended_slot tenant base position) (no_table base))
          ∙ ap (λ n. extended_slot n base position (tenant_table state n base)) (sym same)
  elsewhere (keys.Field other base generation column) none = ⊎_elim at_new (λ apart. ap (field_slot other base generation column) (table_at state tenant entry other base apart)) (cases_eq other tenant)
    where
      at_new : other ≡ tenant → field_slot other base generation column (tenant_table after other base) ≡ field_slot other base generation column (tenant_table state other base)
      at_new same =
          ap (λ n. field_slot n base generation column (tenant_table after n base)) same
          ∙ ap (field_slot tenant base generation column) (new_table_at base)
          ∙ no_field_at base generation column (slice_get state.bases base)
          ∙ sym (ap (field_slot tenant base generation column) (no_table base))
          ∙ ap (λ n. field_slot n base generation column (tenant_table state n base)) (sym same)

  differ : Each (λ key. slot_of after key ≢ slot_of state key) changed
  differ = (
    made_here (ap (option_map (λ entry. slots.Tenant tenant entry.quota)) (new_tenant state tenant entry)) (ap (option_map (λ entry. slots.Tenant tenant entry.quota)) free),
    Each-map (λ k. slot_of after k ≢ slot_of state k) (λ base. keys.Placement tenant base) (range_with_len 0 (length state.bases)) (each_among _ (range_with_len 0 (length state.bases)) placement_made),
  )
    where
      placement_made : (base : ℕ) → Among base (range_with_len 0 (length state.bases)) → slot_of after (keys.Placement tenant base) ≢ slot_of state (keys.Placement tenant base)
      placement_made base among =
          let within = (among_range 0 (length state.bases) base among).1 in
          let there = present state.bases base (omega (arith, within)) in
          made_here (ap (placement_slot tenant base) (new_table_at base ∙ ap (option_map new_table) there.1)) (ap (placement_slot tenant base) (no_table base))

  pub tenant_changes : AreChanged changed state after
  tenant_changes = record { once = once; elsewhere = elsewhere; differ = differ }
