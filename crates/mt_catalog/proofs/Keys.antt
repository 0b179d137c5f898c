-- What a catalogue has by a key has this key, so that catalogues with the same slots have the same by each key.
use Rattle.std.proofs.Common.{◌≡◌, ℕ, Option, None, Some, refl, sym, ap, ◌∙◌, subst}
use Rattle.std.specs.Prelude.{List, option_map, slice_get}
use Rattle.mt_fold.specs.declared.fold.Fold.{Fold}
use Rattle.mt_fold.specs.declared.fold.Place.{Place}
use Rattle.mt_fold.specs.declared.fold.Place.TheVariants.{Conv, Field}
use Rattle.mt_catslot.specs.declared.slot.Class.TheVariants as classes
use Rattle.mt_catslot.specs.declared.slot.CatSlot.{CatSlot}
use Rattle.mt_catslot.specs.declared.slot.CatSlot.TheVariants as slots
use Rattle.mt_catslot.specs.declared.slot.CatKey.{CatKey}
use Rattle.mt_catslot.specs.declared.slot.CatKey.TheVariants as keys
use Rattle.mt_catslot.specs.Slots.{key_of}
use Rattle.mt_catalog.specs.declared.state.TenantTable.{TenantTable}
use Rattle.std.specs.FinMap as finite
use Rattle.mt_catalog.specs.State.{State, tenant_table}
use Rattle.mt_catalog.specs.Slots.{class_columns, column_in_fold, extended_slot, field_slot, fold_of, placed_slot, slot_of}
use Rattle.mt_catalog.specs.Reading.{ReadAs}

-- what is made of a member has the key that each such has
mapped_key : {A : Type 0} (f : A → CatSlot) (key : CatKey) → ((x : A) → key_of (f x) ≡ key) → (o : Option A) (slot : CatSlot) → option_map f o ≡ Some slot → key_of slot ≡ key
mapped_key f key own None slot e = absurd (cc)
mapped_key f key own (Some x) slot e = let same : f x ≡ slot = cc in subst (λ s. key_of s ≡ key) same (own x)

placed_key : (tenant base generation column : ℕ) (fold : Fold) (o : Option Place) (slot : CatSlot) → placed_slot tenant base generation column fold o ≡ Some slot → key_of slot ≡ keys.Field tenant base generation column
placed_key tenant base generation column fold None slot e = absurd (cc)
placed_key tenant base generation column fold (Some Conv) slot e = absurd (cc)
placed_key tenant base generation column fold (Some (Field chunk field)) slot e =
    mapped_key (λ shape. slots.Field tenant base generation column shape chunk field) (keys.Field tenant base generation column) (λ shape. refl) (slice_get fold.shapes chunk) slot e

folded_key : (tenant base generation column : ℕ) (o : Option Fold) (slot : CatSlot) → column_in_fold tenant base generation column o ≡ Some slot → key_of slot ≡ keys.Field tenant base generation column
folded_key tenant base generation column None slot e = absurd (cc)
folded_key tenant base generation column (Some fold) slot e = placed_key tenant base generation column fold (slice_get fold.places column) slot e

field_key : (tenant base generation column : ℕ) (o : Option TenantTable) (slot : CatSlot) → field_slot tenant base generation column o ≡ Some slot → key_of slot ≡ keys.Field tenant base generation column
field_key tenant base generation column None slot e = absurd (cc)
field_key tenant base generation column (Some table) slot e = folded_key tenant base generation column (fold_of table.placement generation) slot e

extended_key : (tenant base position : ℕ) (o : Option TenantTable) (slot : CatSlot) → extended_slot tenant base position o ≡ Some slot → key_of slot ≡ keys.Extended tenant base position
extended_key tenant base position None slot e = absurd (cc)
extended_key tenant base position (Some table) slot e =
    mapped_key (λ extension. slots.Extended tenant base position extension) (keys.Extended tenant base position) (λ extension. refl) (slice_get table.extended position) slot e

-- what a catalogue has by a key has it
pub own_key : (state : State) (key : CatKey) (slot : CatSlot) → slot_of state key ≡ Some slot → key_of slot ≡ key
own_key state (keys.Relation classes.BaseTable number) slot e = mapped_key _ (keys.Relation classes.BaseTable number) (λ table. refl) (slice_get state.bases number) slot e
own_key state (keys.Relation classes.Extension number) slot e = mapped_key _ (keys.Relation classes.Extension number) (λ extension. refl) (slice_get state.extensions number) slot e
own_key state (keys.Column class number position) slot e = mapped_key _ (keys.Column class number position) (λ column. refl) (slice_get (class_columns state class number) position) slot e
own_key state (keys.Tenant tenant) slot e = mapped_key _ (keys.Tenant tenant) (λ entry. refl) (finite.get state.tenants tenant) slot e
own_key state (keys.Placement tenant base) slot e = mapped_key _ (keys.Placement tenant base) (λ table. refl) (tenant_table state tenant base) slot e
own_key state (keys.Extended tenant base position) slot e = extended_key tenant base position (tenant_table state tenant base) slot e
own_key state (keys.Field tenant base generation column) slot e = field_key tenant base generation column (tenant_table state tenant base) slot e

-- catalogues of which the same slots are have the same by each key
pub same_by_key : (slots : List CatSlot) (a b : State) → ReadAs slots a → ReadAs slots b → (key : CatKey) → slot_of a key ≡ slot_of b key
same_by_key slots a b read other key = by (slot_of a key) refl (slot_of b key) refl
  where
    there : (one two : State) → ReadAs slots one → ReadAs slots two → (slot : CatSlot) → slot_of one key ≡ Some slot → slot_of two key ≡ Some slot
    there one two first second slot e =
        let own = own_key one key slot e in
        let is = (first.same slot).1 (ap (slot_of one) own ∙ e) in
        ap (slot_of two) (sym own) ∙ (second.same slot).0 is

    by : (o : Option CatSlot) → slot_of a key ≡ o → (u : Option CatSlot) → slot_of b key ≡ u → slot_of a key ≡ slot_of b key
    by (Some slot) e u f = e ∙ sym (there a b read other slot e)
    by None e None f = e ∙ sym f
    by None e (Some slot) f = there b a other read slot f ∙ sym f
