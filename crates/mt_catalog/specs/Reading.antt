-- When slots of the disk read as a catalogue.
use Rattle.std.specs.Prelude.{◌≡◌, ◌↔◌, ◌⊎◌, ℕ, List, [], ◌∷◌, map, Some}
use Rattle.mt_catslot.specs.declared.slot.CatSlot.{CatSlot}
use Rattle.mt_catslot.specs.Bytes.{says}
use Rattle.mt_catalog.specs.State.{State}
use Rattle.mt_catalog.specs.Slots.{HasSlot}
use Rattle.mt_catalog.specs.Rules.{IsCatalogue}

-- the slot is one of these
abbrev pub In : CatSlot → List CatSlot → Type 0
In slot [] = ⊥
In slot (first ∷ rest) = (slot ≡ first) ⊎ In slot rest

-- no slot stands twice
abbrev pub NoRepeat : List CatSlot → Type 0
NoRepeat [] = Unit {0}
NoRepeat (first ∷ rest) = (In first rest → ⊥) × NoRepeat rest

-- The slots, in any order, are those of the catalogue.
pub record ReadAs (slots : List CatSlot) (state : State) : Type 0 where
  pub once : NoRepeat slots
  pub same : (slot : CatSlot) → In slot slots ↔ HasSlot state slot

-- The bodies, each with its table in front, say the slots of the catalogue.
pub record SayCatalogue (bodies : List (ℕ × List ℕ)) (state : State) : Type 0 where
  pub slots : List CatSlot
  pub said : map (λ body. says body.0 body.1) bodies ≡ map (λ slot. Some slot) slots
  pub read : ReadAs slots state

-- no catalogue that keeps the rules is said
abbrev pub IsDamagedCatalogue : List (ℕ × List ℕ) → Type 0
IsDamagedCatalogue bodies = (state : State) → IsCatalogue state → SayCatalogue bodies state → ⊥
