-- The slots that bodies say, as entries by their keys.
use Rattle.std.specs.Prelude.{◌≡◌, ℕ, List, [], ◌∷◌, map, None, Some}
use Rattle.mt_catslot.specs.declared.slot.CatSlot.{CatSlot}
use Rattle.mt_catslot.specs.declared.slot.CatKey.{CatKey}
use Rattle.mt_catslot.specs.Bytes.{says}
use Rattle.mt_catslot.specs.Slots.{key_of}
use Rattle.mt_catalog.specs.Keyed.{slot_in}

-- each slot stands by its own key, and no two stand by one
abbrev pub AreKeyed : List (CatKey × CatSlot) → Type 0
AreKeyed [] = Unit {0}
AreKeyed (entry ∷ entries) = (entry.0 ≡ key_of entry.1) × (slot_in entries entry.0 ≡ None) × AreKeyed entries

-- The entries of what the bodies say, in their order.
pub record AreEntriesOf (bodies : List (ℕ × List ℕ)) (entries : List (CatKey × CatSlot)) : Type 0 where
  pub said : map (λ body. says body.0 body.1) bodies ≡ map (λ entry. Some entry.1) entries
  pub keyed : AreKeyed entries
