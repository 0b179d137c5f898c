-- EXTEND changes the slot of the extension, and those of the columns that it adds, alone.
use Rattle.std.proofs.Common.{◌≡◌, ◌≢◌, ◌⊎◌, inl, inr, ⊎_elim, ℕ, ◌+◌, ◌<◌, ◌≤◌, Bool, true, false, cond, List, ◌∷◌, length, map, Option, None, Some, refl, sym, ap, ◌∙◌, subst, arith, eq-eqb, eqb-true}
use Rattle.std.specs.Prelude.{nat_eq, option_map, slice_get}
use Rattle.std.specs.List.{AllByRecursion as Each, range_with_len}
use Rattle.std.proofs.lemmas.Bool.{cases_lt}
use Rattle.std.proofs.lemmas.Option.{slice_get_past}
use Rattle.mt_tree.specs.declared.command.AdminCmd.TheVariants.{Extend}
use Rattle.mt_fold.proofs.Lists.{Among, Among-map, Each-map}
use Rattle.mt_catslot.specs.declared.slot.CatSlot.TheVariants as slots
use Rattle.mt_catslot.specs.declared.slot.CatKey.{CatKey}
use Rattle.mt_catslot.specs.declared.slot.CatKey.TheVariants as keys
use Rattle.mt_catalog.specs.State.{State}
use Rattle.mt_catalog.specs.Slots.{column_in_fold, extended_slot, field_slot, placement_slot, slot_of}
use Rattle.mt_catalog.specs.Rules.{IsCatalogue}
use Rattle.mt_schema.specs.Changed.{changed_keys, extended_keys, generation_of, table_keys}
use Rattle.mt_schema.specs.Refusals.{extension_named}
use Rattle.mt_schema.specs.Steps.{extension_number, stepped}
use Rattle.mt_schema.proofs.CanExtend.{CanExtend, stepped_is}
use Rattle.mt_schema.proofs.ExtendedTable as extended
use Rattle.mt_schema.proofs.Numbered.{among_range, each_among, mapped_once, pushed_elsewhere, pushed_there, range_among, range_once}
use Rattle.mt_schema.proofs.Turning.{AreChanged, AreOnce, made_here}

module _ (state : State) (rules : IsCatalogue state) (tenant : ℕ) (name : List ℕ) (can : CanExtend state tenant name) where
  abbrev base : ℕ
  base = can.extension.base

  abbrev position : ℕ
  position = length can.table.extended

  abbrev first : ℕ
  first = length (extended.columns state rules tenant name can)

  abbrev added : ℕ
  added = length can.extension.columns

  abbrev after : State
  after = extended.after state rules tenant name can

  abbrev fields_of : List CatKey
  fields_of = map (λ column. keys.Field tenant base can.generation column) (range_with_len first added)

  abbrev changed : List CatKey
  changed = keys.Extended tenant base position ∷ fields_of

  once : AreOnce changed
  once = (
    Each-map (λ k. keys.Extended tenant base position ≢ k) (λ column. keys.Field tenant base can.generation column) (range_with_len first added) (each_among _ (range_with_len first added) (λ column among same. cc)),
    mapped_once (λ column. keys.Field tenant base can.generation column) (λ a b same. cc) (range_with_len first added) (range_once first added),
  )

  -- a column of the fold that is extended, which is not one of those that are added
  module _ (column : ℕ) (none : column < first ⊎ (first + added ≤ column)) where
    own_column : column_in_fold tenant base can.generation column (Some (extended.fold state rules tenant name can)) ≡ column_in_fold tenant base can.generation column (Some can.fold)
    own_column = ⊎_elim
        (λ within. extended.column_kept state rules tenant name can can.generation column within)
        (λ beyond. extended.no_column_after state rules tenant name can can.generation column beyond ∙ sym (extended.no_column state rules tenant name can can.generation column (omega (arith, beyond))))
        none

  elsewhere : (key : CatKey) → (Among key changed → ⊥) → slot_of after key ≡ slot_of state key
  elsewhere (keys.Relation class number) none = refl
  elsewhere (keys.Column class number position) none = refl
  elsewhere (keys.Tenant other) none = extended.same_quota state rules tenant name can other
  elsewhere (keys.Placement other at) none = extended.elsewhere_same state rules tenant name can placement_slot other at (λ one two.
      ap (λ motion. Some (slots.Placement tenant base can.table.made motion)) (extended.motion_kept can.extension.columns can.table.placement))
  elsewhere (keys.Extended other at place) none = extended.elsewhere_same state rules tenant name can (λ t b table. extended_slot t b place table) other at (λ one two.
      ap (option_map (λ extension. slots.Extended tenant base place extension)) (pushed_elsewhere can.table.extended can.number place (λ three. none (inl (same_key one two three)))))
    where
      same_key : other ≡ tenant → at ≡ base → place ≡ position → keys.Extended other at place ≡ keys.Extended tenant base position
      same_key one two three = cc
  elsewhere (keys.Field other at generation column) none = extended.elsewhere_same state rules tenant name can (λ t b table. field_slot t b generation column table) other at (λ one two.
      ap (column_in_fold tenant base generation column) (extended.folds_after state rules tenant name can generation)
      ∙ by one two (nat_eq generation can.generation) refl
      ∙ sym (ap (column_in_fold tenant base generation column) (extended.folds_before state rules tenant name can generation)))
    where
      among : other ≡ tenant → at ≡ base → generation ≡ can.generation → first ≤ column → column < first + added → Among (keys.Field other at generation column) changed
      among one two three low high =
          let same : keys.Field tenant base can.generation column ≡ keys.Field other at generation column = cc in
          inr (subst (λ k. Among k fields_of) same (Among-map (λ c. keys.Field tenant base can.generation c) column (range_with_len first added) (range_among first added column low high)))

      own : other ≡ tenant → at ≡ base → generation ≡ can.generation
          → column_in_fold tenant base generation column (Some (extended.fold state rules tenant name can)) ≡ column_in_fold tenant base generation column (Some can.fold)
      own one two three =
          let sides : column < first ⊎ (first + added ≤ column) = ⊎_elim (λ within. inl within)
          (λ low. ⊎_elim (λ high. absurd (none (among one two three low high))) (λ beyond. inr beyond) (cases_lt column (first + added))) (cases_lt column first) in
          ap (λ g. column_in_fold tenant base g column (Some (extended.fold state rules tenant name can))) three ∙ own_column column sides ∙ sym (ap (λ g. column_in_fold tenant base g column (Some can.fold)) three)

      by : other ≡ tenant → at ≡ base → (b : Bool) → nat_eq generation can.generation ≡ b
          → column_in_fold tenant base generation column (cond b (Some (extended.fold state rules tenant name can)) None) ≡ column_in_fold tenant base generation column (cond b (Some can.fold) None)
      by one two true same = own one two (eqb-true generation can.generation same)
      by one two false apart = refl

  differ : Each (λ key. slot_of after key ≢ slot_of state key) changed
  differ = (
    made_here
        (ap (extended_slot tenant base position) (extended.table_there state rules tenant name can) ∙ ap (option_map (λ extension. slots.Extended tenant base position extension)) (pushed_there can.table.extended can.number))
        (ap (extended_slot tenant base position) (extended.table_before state rules tenant name can)
        ∙ ap (option_map (λ extension. slots.Extended tenant base position extension)) (slice_get_past can.table.extended position (omega arith))),
    Each-map (λ k. slot_of after k ≢ slot_of state k) (λ column. keys.Field tenant base can.generation column) (range_with_len first added) (each_among _ (range_with_len first added) field_made),
  )
    where
      own_fold : nat_eq can.generation can.generation ≡ true
      own_fold = eq-eqb can.generation can.generation refl

      field_made : (column : ℕ) → Among column (range_with_len first added) → slot_of after (keys.Field tenant base can.generation column) ≢ slot_of state (keys.Field tenant base can.generation column)
      field_made column among =
          let within = among_range first added column among in
          let there = extended.column_there state rules tenant name can can.generation column within.0 within.1 in
          made_here
          (ap (field_slot tenant base can.generation column) (extended.table_there state rules tenant name can)
          ∙ ap (column_in_fold tenant base can.generation column) (extended.folds_after state rules tenant name can can.generation)
          ∙ ap (λ b. column_in_fold tenant base can.generation column (cond b (Some (extended.fold state rules tenant name can)) None)) own_fold
          ∙ there.1)
          (ap (field_slot tenant base can.generation column) (extended.table_before state rules tenant name can)
          ∙ ap (column_in_fold tenant base can.generation column) (extended.folds_before state rules tenant name can can.generation)
          ∙ ap (λ b. column_in_fold tenant base can.generation column (cond b (Some can.fold) None)) own_fold
          ∙ extended.no_column state rules tenant name can can.generation column within.0)

  -- the keys are those that are said to change
  named : extension_named state name ≡ Some can.extension
  named = by (extension_number state.extensions name) can.number_is ∙ can.extension_is
    where
      by : (o : Option ℕ) → o ≡ Some can.number → (elim o [ None ↦ None | Some number ↦ slice_get state.extensions number ]) ≡ slice_get state.extensions can.number
      by None e = absurd (cc)
      by (Some number) e = let same : number ≡ can.number = cc in ap (slice_get state.extensions) same

  keys_are : (tenants : List ℕ) → changed_keys state tenants (Extend tenant name) ≡ changed
  keys_are tenants =
      ap (extended_keys state tenant) named
      ∙ ap (table_keys state tenant base added) (extended.table_before state rules tenant name can)
      ∙ ap (λ placement. keys.Extended tenant base position ∷ map (λ column. keys.Field tenant base (generation_of placement) column) (range_with_len first added)) can.settled

  pub extend_changes : (tenants : List ℕ) → AreChanged (changed_keys state tenants (Extend tenant name)) state (stepped state (Extend tenant name))
  extend_changes tenants =
      subst (AreChanged (changed_keys state tenants (Extend tenant name)) state) (sym (stepped_is state rules tenant name can))
      (subst (λ some. AreChanged some state after) (sym (keys_are tenants)) (record { once = once; elsewhere = elsewhere; differ = differ }))
