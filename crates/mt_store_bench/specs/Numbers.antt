-- The table of numbers: table 16, whose slots hold one integer each.
use Rattle.std.specs.Prelude.{◌≡◌, ℕ, [], ◌∷◌, IsTrue, Some}
use Rattle.mt_machine.specs.Meaning.{Meaning}
use Rattle.mt_codec.specs.declared.field.FieldKind.TheVariants.{Int}
use Rattle.mt_rowfile.specs.declared.layout.Head.TheVariants.{Conventional}
use Rattle.mt_rowfile.specs.declared.layout.Layout.{Layout}
use Rattle.mt_rowfile.specs.declared.slot.SlotRow.{SlotRow}
use Rattle.mt_rowfile.specs.Slots.{FitsLayout}
use Rattle.mt_physplan.specs.declared.change.Change.{Change}
use Rattle.mt_physplan.specs.declared.change.Change.TheVariants.{Put, Mark, Remove, PutCat, RemoveCat}
use Rattle.mt_directory.specs.Known.{known_in}
use Rattle.mt_chunkstore.specs.declared.store.Store.{Store}
use Rattle.mt_chunkstore.specs.Standing.{Stands}

-- its layout
abbrev pub numbers_layout : Layout
numbers_layout = record { head = Conventional; kinds = Int ∷ [] }

-- a put of a slot that fits it
abbrev pub IsNumberPut : Change → Type 0
IsNumberPut (Put table slot) = (table ≡ 16) × FitsLayout numbers_layout slot
IsNumberPut (Mark table tenant row mark) = ⊥
IsNumberPut (Remove table tenant base chunk row) = ⊥
IsNumberPut (PutCat table body) = ⊥
IsNumberPut (RemoveCat table body) = ⊥

-- a machine that does not tell what it holds
abbrev pub IsSilent : Meaning → Type 0
IsSilent machine = IsTrue machine.tells → ⊥

-- The store stands for a machine that does not tell what it holds, and knows the table.
pub record IsReady (store : Store) (machine : Meaning) : Type 0 where
  pub silent : IsSilent machine
  pub stands : Stands store machine
  pub known : known_in store.layouts 16 ≡ Some numbers_layout
