-- The slots that a step puts and removes, so that the slots of one catalogue become those of another.
use Rattle.std.specs.Prelude.{◌≡◌, ◌↔◌, ◌⊎◌, ℕ, List, map, All}
use Rattle.mt_catslot.specs.declared.slot.CatSlot.{CatSlot}
use Rattle.mt_catslot.specs.Slots.{IsSayable, table_of}
use Rattle.mt_catslot.specs.Bytes.{body_of}
use Rattle.mt_catalog.specs.State.{State}
use Rattle.mt_catalog.specs.Slots.{HasSlot}
use Rattle.mt_catalog.specs.Reading.{In, NoRepeat}

-- Once each of them is put or removed, the slots of the catalogue before are those of the one after.
-- None is put that stood there, and only such are removed; so none is in both lists.
pub record TurnsInto (put removed : List CatSlot) (before after : State) : Type 0 where
  pub put_once : NoRepeat put
  pub removed_once : NoRepeat removed
  pub new : (slot : CatSlot) → In slot put → HasSlot before slot → ⊥
  pub there : (slot : CatSlot) → In slot removed → HasSlot before slot
  pub same : (slot : CatSlot) → HasSlot after slot ↔ (In slot put ⊎ (HasSlot before slot × (In slot removed → ⊥)))

-- The bodies, each with its table in front, are those that are written of the slots.
pub record AreWritten (bodies : List (ℕ × List ℕ)) (slots : List CatSlot) : Type 0 where
  pub sayable : All IsSayable slots
  pub written : bodies ≡ map (λ slot. (table_of slot, body_of slot)) slots

-- Bodies that are put and removed, of slots that turn one catalogue into another.
pub record AreTurning (put removed : List (ℕ × List ℕ)) (before after : State) : Type 0 where
  pub put_slots : List CatSlot
  pub removed_slots : List CatSlot
  pub put_are : AreWritten put put_slots
  pub removed_are : AreWritten removed removed_slots
  pub turns : TurnsInto put_slots removed_slots before after
