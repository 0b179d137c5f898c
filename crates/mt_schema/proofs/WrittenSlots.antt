-- Bodies that are written of slots, one slot more at a time.
use Rattle.std.proofs.Common.{◌≡◌, ℕ, ◌+◌, ◌<◌, List, [], ◌∷◌, ◌++◌, length, get_or, take, Option, Some, refl, sym, ap, ◌∙◌}
use Rattle.std.specs.Prelude.{filter_map}
use Rattle.std.proofs.lemmas.List.{map_push, take_more}
use Rattle.std.proofs.lemmas.List.Elements.{All-nil, All-push, filter_map-append}
use Rattle.mt_catslot.specs.declared.slot.CatSlot.{CatSlot}
use Rattle.mt_catslot.specs.declared.slot.CatKey.{CatKey}
use Rattle.mt_catslot.specs.Bytes.{body_of}
use Rattle.mt_catslot.specs.Slots.{IsSayable, table_of}
use Rattle.mt_catalog.specs.Rules.{IsCatalogue}
use Rattle.mt_catalog.specs.Slots.{slot_of}
use Rattle.mt_catalog.specs.State.{State}
use Rattle.mt_catalog.proofs.Keys.{own_key}
use Rattle.mt_schema.specs.Turns.{AreWritten}
use Rattle.mt_schema.proofs.SayableTables.{slot_is_sayable}

pub none_written : AreWritten [] []
none_written = record { sayable = All-nil IsSayable; written = refl }

pub more_written : (bodies : List (ℕ × List ℕ)) (slots : List CatSlot) (slot : CatSlot) → AreWritten bodies slots → IsSayable slot → AreWritten (bodies ++ (table_of slot, body_of slot) ∷ []) (slots ++ slot ∷ [])
more_written bodies slots slot are sayable = record {
  sayable = All-push IsSayable slots slot are.sayable sayable;
  written = ap (λ (of : List (ℕ × List ℕ)). of ++ (table_of slot, body_of slot) ∷ []) are.written ∙ sym (map_push (λ slot. (table_of slot, body_of slot)) slots slot);
}

-- a slot that a catalogue has with a key
pub sayable_at : (state : State) (key : CatKey) (slot : CatSlot) → IsCatalogue state → slot_of state key ≡ Some slot → IsSayable slot
sayable_at state key slot rules e = slot_is_sayable state rules slot (ap (slot_of state) (own_key state key slot e) ∙ e)

-- what is found at one key more
pub found_more : (at : CatKey → Option CatSlot) (some : List CatKey) (i : ℕ) (default : CatKey) → i < length some
    → filter_map at (take i some) ++ filter_map at (get_or some i default ∷ []) ≡ filter_map at (take (i + 1) some)
found_more at some i default within = sym (filter_map-append at (take i some) (get_or some i default ∷ [])) ∙ ap (filter_map at) (sym (take_more some i default within))
