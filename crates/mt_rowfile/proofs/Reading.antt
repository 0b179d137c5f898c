-- What is written for a slot is read again.
use Rattle.std.proofs.Common.{◌≡◌, ℕ, List, [], ◌∷◌, ◌++◌, take, drop, refl, sym, ap, ◌∙◌, inr, arith}
use Rattle.std.proofs.lemmas.List.{take_at, drop_at}
use Rattle.byteorder.specs.Numbers.{little_number-reads_back}
use Rattle.mt_value.specs.declared.value.Value.{Value}
use Rattle.mt_value.specs.declared.value.Value.TheVariants as value
use Rattle.mt_codec.specs.declared.field.FieldKind.{FieldKind}
use Rattle.mt_codec.specs.declared.field.FieldKind.TheVariants.{Int, Text}
use Rattle.mt_codec.specs.Fields.{Fits, IsField, IsKind, field_bytes, width_of}
use Rattle.mt_rowfile.specs.declared.layout.Head.{Head}
use Rattle.mt_rowfile.specs.declared.layout.Head.TheVariants.{Catalogue, Conventional, Chunk}
use Rattle.mt_rowfile.specs.declared.slot.SlotRow.{SlotRow}
use Rattle.mt_rowfile.specs.Fields.{AreFitting, AreKinds, AreSpelled, fields_bytes, value_of, values_of}
use Rattle.mt_rowfile.specs.Layouts.{IsOfRows}
use Rattle.mt_rowfile.specs.Slots.{FitsLayout, HasNumbers, IsSlot, slot_bytes, slot_of}
use Rattle.mt_rowfile.proofs.Writing.{field_long, fields_long}

-- a value that a field spells is the one that it reads as
pub reads_as : (kind : FieldKind) (bytes : List ℕ) (v : Value) → IsField kind bytes v → value_of kind bytes ≡ v
reads_as kind [] v field = absurd field.flagged
reads_as kind (flag ∷ rest) value.Null field = rw field.flagged refl
reads_as Int (flag ∷ rest) (value.Int z) field = rw field.flagged.0 (ap value.Int (sym field.flagged.1))
reads_as Int (flag ∷ rest) (value.Text text) field = absurd field.flagged.1
reads_as (Text size) (flag ∷ rest) (value.Int z) field = absurd field.flagged.1
reads_as (Text size) (flag ∷ rest) (value.Text text) field =
    rw field.flagged.0 (ap value.Text (ap (λ (n : ℕ). take n (drop 2 rest)) field.flagged.1.count ∙ field.flagged.1.bytes))

-- the same facts of two slots make them one
same_slot : (a b : SlotRow) → a.mark ≡ b.mark → a.tenant ≡ b.tenant → a.base ≡ b.base → a.chunk ≡ b.chunk → a.row ≡ b.row → a.values ≡ b.values → a ≡ b
same_slot a b mark tenant base chunk row values =
    let parts : (let of_a : SlotRow = record { mark = a.mark; tenant = a.tenant; base = a.base; chunk = a.chunk; row = a.row; values = a.values } in of_a) ≡ b =
    rw (mark, tenant, base, chunk, row, values) refl in
    parts

module _ (again : (kind : FieldKind) (v : Value) → IsKind kind → Fits kind v → IsField kind (field_bytes kind v) v) where
  -- what is written for values reads as them
  fields_again : (kinds : List FieldKind) (values : List Value) → AreKinds kinds → AreFitting kinds values → values_of kinds (fields_bytes kinds values) ≡ values
  fields_again [] [] are fit = refl
  fields_again [] (v ∷ values) are fit = absurd fit
  fields_again (kind ∷ kinds) [] are fit = absurd fit
  fields_again (kind ∷ kinds) (v ∷ values) are fit =
      let field = field_bytes kind v in
      let rest = fields_bytes kinds values in
      let long = field_long kind v fit.0 in
      let first : value_of kind (take (width_of kind) (field ++ rest)) ≡ v =
      ap (value_of kind) (take_at field rest (width_of kind) long) ∙ reads_as kind field v (again kind v are.0 fit.0) in
      let others : values_of kinds (drop (width_of kind) (field ++ rest)) ≡ values =
      ap (values_of kinds) (drop_at field rest (width_of kind) long) ∙ fields_again kinds values are.1 fit.1 in
      rw (first, others) refl

  -- and spells values
  fields_spelled : (kinds : List FieldKind) (values : List Value) → AreKinds kinds → AreFitting kinds values → AreSpelled kinds (fields_bytes kinds values)
  fields_spelled [] [] are fit = tt
  fields_spelled [] (v ∷ values) are fit = absurd fit
  fields_spelled (kind ∷ kinds) [] are fit = absurd fit
  fields_spelled (kind ∷ kinds) (v ∷ values) are fit =
      let field = field_bytes kind v in
      let rest = fields_bytes kinds values in
      let long = field_long kind v fit.0 in (
        (v, rw (take_at field rest (width_of kind) long) (again kind v are.0 fit.0)),
        rw (drop_at field rest (width_of kind) long) (fields_spelled kinds values are.1 fit.1),
      )

  -- the slot is read again
  pub slot_again : (head : Head) (kinds : List FieldKind) (slot : SlotRow) → IsOfRows head → AreKinds kinds
      → FitsLayout (record { head = head; kinds = kinds }) slot → HasNumbers slot
      → slot_of (record { head = head; kinds = kinds }) (slot_bytes (record { head = head; kinds = kinds }) slot) ≡ slot
  slot_again (Catalogue table) kinds slot rows are fits numbers = absurd rows
  slot_again Conventional kinds slot rows are fits numbers = same_slot _ slot refl
      (little_number-reads_back 4 slot.tenant [] (omega arith)) (sym fits.names.0) (sym fits.names.1)
      (little_number-reads_back 8 slot.row [] (omega arith)) (fields_again kinds slot.values are fits.values)
  slot_again Chunk kinds slot rows are fits numbers = same_slot _ slot refl
      (little_number-reads_back 4 slot.tenant [] (omega arith)) (little_number-reads_back 4 slot.base [] (omega arith))
      (little_number-reads_back 4 slot.chunk [] (omega arith)) (little_number-reads_back 8 slot.row [] (omega arith))
      (fields_again kinds slot.values are fits.values)

  -- and is a slot
  pub slot_is_slot : (head : Head) (kinds : List FieldKind) (slot : SlotRow) → IsOfRows head → AreKinds kinds
      → FitsLayout (record { head = head; kinds = kinds }) slot
      → IsSlot (record { head = head; kinds = kinds }) (slot_bytes (record { head = head; kinds = kinds }) slot)
  slot_is_slot (Catalogue table) kinds slot rows are fits = absurd rows
  slot_is_slot Conventional kinds slot rows are fits = record {
    size = let long = fields_long kinds slot.values fits.values in omega arith;
    free_or_used = inr (record { mark = fits.mark; readable = fields_spelled kinds slot.values are fits.values });
  }
  slot_is_slot Chunk kinds slot rows are fits = record {
    size = let long = fields_long kinds slot.values fits.values in omega arith;
    free_or_used = inr (record { mark = fits.mark; readable = fields_spelled kinds slot.values are fits.values });
  }
