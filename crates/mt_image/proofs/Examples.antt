-- Worked examples: tables that there are, a blank page, and the layouts that a catalogue calls for.
use Rattle.std.proofs.Common.{◌≡◌, inl, inr, true, false, Some, None, [], ◌∷◌, refl, arith}
use Rattle.std.specs.FinMap as finite
use Rattle.mt_codec.specs.declared.field.FieldKind.TheVariants.{Int, Text}
use Rattle.mt_rowfile.specs.declared.layout.Head.TheVariants.{Conventional}
use Rattle.mt_rowfile.specs.Layouts.{slot_width, slots_per_page}
use Rattle.mt_tree.specs.declared.schema.Kind.TheVariants.{Integer, Varchar}
use Rattle.mt_tree.specs.declared.schema.Table.{Table}
use Rattle.mt_catalog.specs.State.{State}
use Rattle.mt_image.specs.Fits.{FitsPage, IsPhysical}
use Rattle.mt_image.specs.Layouts.{conventional_layout, known_of}

seven_is_none : IsPhysical 7 → ⊥
seven_is_none (inl (from, upto)) = omega (arith, upto)
seven_is_none (inr (inl (from, upto))) = omega (arith, from)
seven_is_none (inr (inr (from, upto))) = omega (arith, from)

sixteen_is_one : IsPhysical 16
sixteen_is_one = inr (inr (omega arith, omega arith))

-- a page of zeros belongs to no table
zeros_are_unfit : FitsPage (λ position. 0) 1 → ⊥
zeros_are_unfit fits = by fits.table
  where
    by : IsPhysical 0 → ⊥
    by (inl (from, upto)) = omega (arith, from)
    by (inr (inl (from, upto))) = omega (arith, from)
    by (inr (inr (from, upto))) = omega (arith, from)

-- an account has a number and a name of up to 10 bytes
accounts : Table
accounts = record {
  name = [];
  columns = record { name = []; kind = Integer; not_null = true; key = true } ∷ record { name = []; kind = Varchar 10; not_null = false; key = false } ∷ [];
}

one_table : State
one_table = record { bases = accounts ∷ []; extensions = []; tenants = finite.empty }

account_layout : known_of one_table 16 ≡ Some (record { head = Conventional; kinds = Int ∷ Text 10 ∷ [] })
unfolding one_table accounts
account_layout = refl

no_second_table : known_of one_table 17 ≡ None
unfolding one_table
no_second_table = refl

-- its slots have 13 bytes in front of the fields, 9 for the number and 13 for the name
account_slots : (slot_width (conventional_layout accounts) ≡ 35) × (slots_per_page (conventional_layout accounts) ≡ 116)
unfolding accounts
account_slots = (refl, refl)
