-- CREATE EXTENSION changes the slots of its extension alone.
use Rattle.std.proofs.Common.{◌≡◌, ◌≢◌, inl, inr, ⊎_elim, ℕ, ◌≤◌, List, [], length, Option, None, Some, refl, sym, ap, ◌∙◌, subst, arith}
use Rattle.std.specs.Prelude.{option_map, slice_get}
use Rattle.std.specs.List.{AllByRecursion as Each, range_with_len}
use Rattle.std.proofs.lemmas.Bool.{cases_eq, cases_lt}
use Rattle.std.proofs.lemmas.List.{length-map}
use Rattle.std.proofs.lemmas.Option.{slice_get_past}
use Rattle.mt_tree.specs.declared.command.AdminCmd.TheVariants.{CreateExtension}
use Rattle.mt_tree.specs.declared.command.Def.{Def}
use Rattle.mt_tree.specs.declared.schema.Column.{Column}
use Rattle.mt_fold.proofs.Lists.{Among, Among-map, Each-map}
use Rattle.mt_catslot.specs.declared.slot.Class.TheVariants as classes
use Rattle.mt_catslot.specs.declared.slot.CatSlot.{CatSlot}
use Rattle.mt_catslot.specs.declared.slot.CatSlot.TheVariants as slots
use Rattle.mt_catslot.specs.declared.slot.CatKey.{CatKey}
use Rattle.mt_catslot.specs.declared.slot.CatKey.TheVariants as keys
use Rattle.mt_catalog.specs.declared.state.Extension.{Extension}
use Rattle.mt_catalog.specs.State.{State, extension_columns}
use Rattle.mt_catalog.specs.Slots.{slot_of}
use Rattle.mt_catalog.proofs.Runs.{present}
use Rattle.mt_schema.specs.Changed.{changed_keys, column_keys}
use Rattle.mt_schema.specs.Steps.{column_of, defined_extension, stepped}
use Rattle.mt_schema.proofs.Numbered.{among_range, each_among, mapped_once, pushed_elsewhere, pushed_there, range_among, range_once}
use Rattle.mt_schema.proofs.Turning.{AreChanged, AreOnce, made_here}

module _ (state : State) (name base : List ℕ) (defs : List Def) (tenants : List ℕ) where
  abbrev extension : Extension
  extension = defined_extension state.bases name base defs

  abbrev after : State
  after = stepped state (CreateExtension name base defs)

  abbrev last : ℕ
  last = length state.extensions

  abbrev columns_of : List CatKey
  columns_of = column_keys classes.Extension last (length defs)

  abbrev changed : List CatKey
  changed = changed_keys state tenants (CreateExtension name base defs)

  extension_at : (number : ℕ) → number ≢ last → slice_get after.extensions number ≡ slice_get state.extensions number
  extension_at number apart = pushed_elsewhere state.extensions extension number apart

  no_extension : slice_get state.extensions last ≡ None
  no_extension = slice_get_past state.extensions last (omega arith)

  new_extension : slice_get after.extensions last ≡ Some extension
  new_extension = pushed_there state.extensions extension

  once : AreOnce changed
  once = (
    Each-map (λ k. keys.Relation classes.Extension last ≢ k) (λ position. keys.Column classes.Extension last position) (range_with_len 0 (length defs)) (each_among _ (range_with_len 0 (length defs)) (λ position among same. cc)),
    mapped_once (λ position. keys.Column classes.Extension last position) (λ a b same. cc) (range_with_len 0 (length defs)) (range_once 0 (length defs)),
  )

  elsewhere : (key : CatKey) → (Among key changed → ⊥) → slot_of after key ≡ slot_of state key
  elsewhere (keys.Relation classes.BaseTable number) none = refl
  elsewhere (keys.Relation classes.Extension number) none =
      ap (option_map (λ of. slots.Relation classes.Extension number of.base of.name)) (extension_at number (λ same. none (inl (ap (keys.Relation classes.Extension) same))))
  elsewhere (keys.Column classes.BaseTable number position) none = refl
  elsewhere (keys.Column classes.Extension number position) none = ap said (⊎_elim at_last at_other (cases_eq number last))
    where
      said : Option Column → Option CatSlot
      said = option_map (λ column. slots.Column classes.Extension number position column.kind column.not_null column.key column.name)

      at_other : number ≢ last → slice_get (extension_columns (slice_get after.extensions number)) position ≡ slice_get (extension_columns (slice_get state.extensions number)) position
      at_other apart = ap (λ of. slice_get (extension_columns of) position) (extension_at number apart)

      past : number ≡ last → length defs ≤ position
      past same = ⊎_elim
          (λ within. absurd (none (inr (subst (λ n. Among (keys.Column classes.Extension n position) columns_of) (sym same)
          (Among-map (λ p. keys.Column classes.Extension last p) position (range_with_len 0 (length defs)) (range_among 0 (length defs) position (omega arith) (omega (arith, within))))))))
          (λ beyond. beyond) (cases_lt position (length defs))

      at_last : number ≡ last → slice_get (extension_columns (slice_get after.extensions number)) position ≡ slice_get (extension_columns (slice_get state.extensions number)) position
      at_last same =
          let size = length-map defs (column_of []) in
          let beyond = past same in
          ap (λ n. slice_get (extension_columns (slice_get after.extensions n)) position) same
          ∙ ap (λ of. slice_get (extension_columns of) position) new_extension
          ∙ slice_get_past extension.columns position (omega (arith, size, beyond))
          ∙ sym (ap (λ of. slice_get (extension_columns of) position) no_extension)
          ∙ ap (λ n. slice_get (extension_columns (slice_get state.extensions n)) position) (sym same)
  elsewhere (keys.Tenant tenant) none = refl
  elsewhere (keys.Placement tenant base) none = refl
  elsewhere (keys.Extended tenant base position) none = refl
  elsewhere (keys.Field tenant base generation column) none = refl

  differ : Each (λ key. slot_of after key ≢ slot_of state key) changed
  differ = (
    made_here (ap (option_map (λ of. slots.Relation classes.Extension last of.base of.name)) new_extension) (ap (option_map (λ of. slots.Relation classes.Extension last of.base of.name)) no_extension),
    Each-map (λ k. slot_of after k ≢ slot_of state k) (λ position. keys.Column classes.Extension last position) (range_with_len 0 (length defs)) (each_among _ (range_with_len 0 (length defs)) column_made),
  )
    where
      column_made : (position : ℕ) → Among position (range_with_len 0 (length defs)) → slot_of after (keys.Column classes.Extension last position) ≢ slot_of state (keys.Column classes.Extension last position)
      column_made position among =
          let said : Option Column → Option CatSlot = option_map (λ column. slots.Column classes.Extension last position column.kind column.not_null column.key column.name) in
          let size = length-map defs (column_of []) in
          let within = (among_range 0 (length defs) position among).1 in
          let there = present extension.columns position (omega (arith, size, within)) in
          made_here (ap (λ of. said (slice_get (extension_columns of) position)) new_extension ∙ ap said there.1) (ap (λ of. said (slice_get (extension_columns of) position)) no_extension)

  pub extension_changes : AreChanged changed state after
  extension_changes = record { once = once; elsewhere = elsewhere; differ = differ }
