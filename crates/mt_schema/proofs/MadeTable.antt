-- CREATE TABLE changes the slots of its base table alone.
use Rattle.std.proofs.Common.{◌≡◌, ◌≢◌, inl, inr, ⊎_elim, ℕ, ◌≤◌, true, List, [], ◌∷◌, ◌++◌, length, map, Option, None, Some, refl, sym, ap, ◌∙◌, subst, arith}
use Rattle.std.specs.Prelude.{is_some, option_map, slice_get}
use Rattle.std.specs.List.{AllByRecursion as Each, range_with_len}
use Rattle.std.specs.FinMap as finite
use Rattle.std.proofs.lemmas.Bool.{cases_eq, cases_lt}
use Rattle.std.proofs.lemmas.List.{length-map}
use Rattle.std.proofs.lemmas.Option.{slice_get_past}
use Rattle.mt_tree.specs.declared.command.AdminCmd.TheVariants.{CreateTable}
use Rattle.mt_tree.specs.declared.command.Def.{Def}
use Rattle.mt_tree.specs.declared.schema.Table.{Table}
use Rattle.mt_tree.specs.declared.schema.Column.{Column}
use Rattle.mt_fold.proofs.Lists.{Among, Among-append_left, Among-append_right, Among-map, Each-append, Each-map, InOrder-append}
use Rattle.mt_catslot.specs.declared.slot.Class.TheVariants as classes
use Rattle.mt_catslot.specs.declared.slot.CatSlot.{CatSlot}
use Rattle.mt_catslot.specs.declared.slot.CatSlot.TheVariants as slots
use Rattle.mt_catslot.specs.declared.slot.CatKey.{CatKey}
use Rattle.mt_catslot.specs.declared.slot.CatKey.TheVariants as keys
use Rattle.mt_catalog.specs.declared.state.TenantEntry.{TenantEntry}
use Rattle.mt_catalog.specs.State.{State, base_columns, table_in, tenant_table}
use Rattle.mt_catalog.specs.Slots.{extended_slot, field_slot, placement_slot, slot_of}
use Rattle.mt_catalog.specs.Rules.{IsCatalogue}
use Rattle.mt_catalog.proofs.Runs.{present}
use Rattle.mt_schema.specs.Changed.{AreTenants, changed_keys, column_keys}
use Rattle.mt_schema.specs.Steps.{column_of, defined_table, new_table, stepped, with_new_table}
use Rattle.mt_schema.proofs.Maps.{get-in_each}
use Rattle.mt_schema.proofs.NewTable.{no_extension, no_field}
use Rattle.mt_schema.proofs.Numbered.{among_any, among_range, any_among, distinct_once, each_among, mapped_once, pushed_elsewhere, pushed_there, range_among, range_once}
use Rattle.mt_schema.proofs.Turning.{AreChanged, AreOnce, made_here}

module _ (state : State) (rules : IsCatalogue state) (name : List ℕ) (defs : List Def) (key : List (List ℕ)) where
  abbrev table : Table
  table = defined_table name defs key

  abbrev after : State
  after = stepped state (CreateTable name defs key)

  abbrev last : ℕ
  last = length state.bases

  base_at : (number : ℕ) → number ≢ last → slice_get after.bases number ≡ slice_get state.bases number
  base_at number apart = pushed_elsewhere state.bases table number apart

  no_base : slice_get state.bases last ≡ None
  no_base = slice_get_past state.bases last (omega arith)

  new_base : slice_get after.bases last ≡ Some table
  new_base = pushed_there state.bases table

  table_at : (tenant base : ℕ) → base ≢ last → tenant_table after tenant base ≡ tenant_table state tenant base
  table_at tenant base apart = ap (table_in base) (get-in_each (with_new_table table) state.tenants tenant) ∙ by (finite.get state.tenants tenant) refl
    where
      by : (o : Option TenantEntry) → finite.get state.tenants tenant ≡ o → table_in base (option_map (with_new_table table) o) ≡ table_in base o
      by None e = refl
      by (Some entry) e = pushed_elsewhere entry.tables (new_table table) base (λ same. apart (same ∙ (rules.tenants tenant entry e).each_base))

  no_table : (tenant : ℕ) → tenant_table state tenant last ≡ None
  no_table tenant = by (finite.get state.tenants tenant) refl
    where
      by : (o : Option TenantEntry) → finite.get state.tenants tenant ≡ o → table_in last o ≡ None
      by None e = refl
      by (Some entry) e = let each = (rules.tenants tenant entry e).each_base in slice_get_past entry.tables last (omega (arith, each))

  new_table_at : (tenant : ℕ) → tenant_table after tenant last ≡ option_map (λ (entry : TenantEntry). new_table table) (finite.get state.tenants tenant)
  new_table_at tenant = ap (table_in last) (get-in_each (with_new_table table) state.tenants tenant) ∙ by (finite.get state.tenants tenant) refl
    where
      by : (o : Option TenantEntry) → finite.get state.tenants tenant ≡ o → table_in last (option_map (with_new_table table) o) ≡ option_map (λ (entry : TenantEntry). new_table table) o
      by None e = refl
      by (Some entry) e = ap (slice_get (entry.tables ++ new_table table ∷ [])) (sym (rules.tenants tenant entry e).each_base) ∙ pushed_there entry.tables (new_table table)

  -- the slots of what is new
  no_extension_at : (tenant position : ℕ) (o : Option TenantEntry) → extended_slot tenant last position (option_map (λ (entry : TenantEntry). new_table table) o) ≡ None
  no_extension_at tenant position None = refl
  no_extension_at tenant position (Some entry) = no_extension tenant last position table

  no_field_at : (tenant generation column : ℕ) (o : Option TenantEntry) → field_slot tenant last generation column (option_map (λ (entry : TenantEntry). new_table table) o) ≡ None
  no_field_at tenant generation column None = refl
  no_field_at tenant generation column (Some entry) = no_field tenant last generation column table

  same_quota : (tenant : ℕ) (o : Option TenantEntry) → option_map (λ entry. slots.Tenant tenant entry.quota) (option_map (with_new_table table) o) ≡ option_map (λ entry. slots.Tenant tenant entry.quota) o
  same_quota tenant None = refl
  same_quota tenant (Some entry) = refl

  module _ (tenants : List ℕ) (are : AreTenants tenants state) where
    abbrev columns_of : List CatKey
    columns_of = column_keys classes.BaseTable last (length defs)

    abbrev placements_of : List CatKey
    placements_of = map (λ tenant. keys.Placement tenant last) tenants

    abbrev changed : List CatKey
    changed = changed_keys state tenants (CreateTable name defs key)

    -- a number of a tenant has one
    has_tenant : (tenant : ℕ) → Among tenant tenants → (entry : TenantEntry) × (finite.get state.tenants tenant ≡ Some entry)
    has_tenant tenant among = by (finite.get state.tenants tenant) refl (sym (are.all tenant) ∙ any_among tenant tenants among)
      where
        by : (o : Option TenantEntry) → finite.get state.tenants tenant ≡ o → is_some o ≡ true → (entry : TenantEntry) × (finite.get state.tenants tenant ≡ Some entry)
        by None e some = absurd (cc)
        by (Some entry) e some = (entry, e)

    once : AreOnce changed
    once = (
      Each-append (λ k. keys.Relation classes.BaseTable last ≢ k) columns_of placements_of
          (Each-map (λ k. keys.Relation classes.BaseTable last ≢ k) (λ position. keys.Column classes.BaseTable last position) (range_with_len 0 (length defs)) (each_among _ (range_with_len 0 (length defs)) (λ position among same. cc)))
          (Each-map (λ k. keys.Relation classes.BaseTable last ≢ k) (λ tenant. keys.Placement tenant last) tenants (each_among _ tenants (λ tenant among same. cc))),
      InOrder-append (λ a b. a ≢ b) columns_of placements_of
          (mapped_once (λ position. keys.Column classes.BaseTable last position) (λ a b same. cc) (range_with_len 0 (length defs)) (range_once 0 (length defs)))
          (mapped_once (λ tenant. keys.Placement tenant last) (λ a b same. cc) tenants (distinct_once tenants are.once))
          (Each-map (λ k. Each (λ other. k ≢ other) placements_of) (λ position. keys.Column classes.BaseTable last position) (range_with_len 0 (length defs))
          (each_among _ (range_with_len 0 (length defs)) (λ position among. Each-map (λ k. keys.Column classes.BaseTable last position ≢ k) (λ tenant. keys.Placement tenant last) tenants (each_among _ tenants (λ tenant among same. cc))))),
    )

    elsewhere : (key : CatKey) → (Among key changed → ⊥) → slot_of after key ≡ slot_of state key
    elsewhere (keys.Relation classes.BaseTable number) none =
        ap (option_map (λ of. slots.Relation classes.BaseTable number number of.name)) (base_at number (λ same. none (inl (ap (keys.Relation classes.BaseTable) same))))
    elsewhere (keys.Relation classes.Extension number) none = refl
    elsewhere (keys.Column classes.Extension number position) none = refl
    elsewhere (keys.Column classes.BaseTable number position) none = ap said (⊎_elim at_last at_other (cases_eq number last))
      where
        said : Option Column → Option CatSlot
        said = option_map (λ column. slots.Column classes.BaseTable number position column.kind column.not_null column.key column.name)

        at_other : number ≢ last → slice_get (base_columns (slice_get after.bases number)) position ≡ slice_get (base_columns (slice_get state.bases number)) position
        at_other apart = ap (λ of. slice_get (base_columns of) position) (base_at number apart)

        past : number ≡ last → length defs ≤ position
        past same = ⊎_elim
            (λ within. absurd (none (inr (Among-append_left _ columns_of placements_of (subst (λ n. Among (keys.Column classes.BaseTable n position) columns_of) (sym same)
            (Among-map (λ p. keys.Column classes.BaseTable last p) position (range_with_len 0 (length defs)) (range_among 0 (length defs) position (omega arith) (omega (arith, within)))))))))
            (λ beyond. beyond) (cases_lt position (length defs))

        at_last : number ≡ last → slice_get (base_columns (slice_get after.bases number)) position ≡ slice_get (base_columns (slice_get state.bases number)) position
        at_last same =
            let size = length-map defs (column_of key) in
            let beyond = past same in
            ap (λ n. slice_get (base_columns (slice_get after.bases n)) position) same
            ∙ ap (λ of. slice_get (base_columns of) position) new_base
            ∙ slice_get_past table.columns position (omega (arith, size, beyond))
            ∙ sym (ap (λ of. slice_get (base_columns of) position) no_base)
            ∙ ap (λ n. slice_get (base_columns (slice_get state.bases n)) position) (sym same)
    elsewhere (keys.Tenant tenant) none =
        ap (option_map (λ entry. slots.Tenant tenant entry.quota)) (get-in_each (with_new_table table) state.tenants tenant) ∙ same_quota tenant (finite.get state.tenants tenant)
    elsewhere (keys.Placement tenant base) none = ap (placement_slot tenant base) (⊎_elim at_last (table_at tenant base) (cases_eq base last))
      where
        by : (o : Option TenantEntry) → finite.get state.tenants tenant ≡ o → base ≡ last → option_map (λ (entry : TenantEntry). new_table table) o ≡ None
        by None e same = refl
        by (Some entry) e same = absurd (none (inr (Among-append_right _ columns_of placements_of (subst (λ b. Among (keys.Placement tenant b) placements_of) (sym same)
            (Among-map (λ t. keys.Placement t last) tenant tenants (among_any tenant tenants (are.all tenant ∙ ap is_some e)))))))

        at_last : base ≡ last → tenant_table after tenant base ≡ tenant_table state tenant base
        at_last same = ap (tenant_table after tenant) same ∙ new_table_at tenant ∙ by (finite.get state.tenants tenant) refl same ∙ sym (no_table tenant) ∙ ap (tenant_table state tenant) (sym same)
    elsewhere (keys.Extended tenant base position) none = ⊎_elim at_last (λ apart. ap (extended_slot tenant base position) (table_at tenant base apart)) (cases_eq base last)
      where
        at_last : base ≡ last → extended_slot tenant base position (tenant_table after tenant base) ≡ extended_slot tenant base position (tenant_table state tenant base)
        at_last same =
            ap (λ b. extended_slot tenant b position (tenant_table after tenant b)) same
            ∙ ap (extended_slot tenant last position) (new_table_at tenant)
            ∙ no_extension_at tenant position (finite.get state.tenants tenant)
            ∙ sym (ap (extended_slot tenant last position) (no_table tenant))
            ∙ ap (λ b. extended_slot tenant b position (tenant_table state tenant b)) (sym same)
    elsewhere (keys.Field tenant base generation column) none = ⊎_elim at_last (λ apart. ap (field_slot tenant base generation column) (table_at tenant base apart)) (cases_eq base last)
      where
        at_last : base ≡ last → field_slot tenant base generation column (tenant_table after tenant base) ≡ field_slot tenant base generation column (tenant_table state tenant base)
        at_last same =
            ap (λ b. field_slot tenant b generation column (tenant_table after tenant b)) same
            ∙ ap (field_slot tenant last generation column) (new_table_at tenant)
            ∙ no_field_at tenant generation column (finite.get state.tenants tenant)
            ∙ sym (ap (field_slot tenant last generation column) (no_table tenant))
            ∙ ap (λ b. field_slot tenant b generation column (tenant_table state tenant b)) (sym same)

    differ : Each (λ key. slot_of after key ≢ slot_of state key) changed
    differ = (
      made_here (ap (option_map (λ of. slots.Relation classes.BaseTable last last of.name)) new_base) (ap (option_map (λ of. slots.Relation classes.BaseTable last last of.name)) no_base),
      Each-append (λ k. slot_of after k ≢ slot_of state k) columns_of placements_of
          (Each-map (λ k. slot_of after k ≢ slot_of state k) (λ position. keys.Column classes.BaseTable last position) (range_with_len 0 (length defs)) (each_among _ (range_with_len 0 (length defs)) column_made))
          (Each-map (λ k. slot_of after k ≢ slot_of state k) (λ tenant. keys.Placement tenant last) tenants (each_among _ tenants placement_made)),
    )
      where
        column_made : (position : ℕ) → Among position (range_with_len 0 (length defs)) → slot_of after (keys.Column classes.BaseTable last position) ≢ slot_of state (keys.Column classes.BaseTable last position)
        column_made position among =
            let said : Option Column → Option CatSlot = option_map (λ column. slots.Column classes.BaseTable last position column.kind column.not_null column.key column.name) in
            let size = length-map defs (column_of key) in
            let within = (among_range 0 (length defs) position among).1 in
            let there = present table.columns position (omega (arith, size, within)) in
            made_here (ap (λ of. said (slice_get (base_columns of) position)) new_base ∙ ap said there.1) (ap (λ of. said (slice_get (base_columns of) position)) no_base)

        placement_made : (tenant : ℕ) → Among tenant tenants → slot_of after (keys.Placement tenant last) ≢ slot_of state (keys.Placement tenant last)
        placement_made tenant among =
            let there = has_tenant tenant among in
            made_here (ap (placement_slot tenant last) (new_table_at tenant ∙ ap (option_map (λ (entry : TenantEntry). new_table table)) there.1)) (ap (placement_slot tenant last) (no_table tenant))

    pub table_changes : AreChanged changed state after
    table_changes = record { once = once; elsewhere = elsewhere; differ = differ }
