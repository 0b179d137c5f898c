-- The catalogue that was made of what is found, once its slots and its rules are known.
use Rattle.std.proofs.Common.{inl, inr, List, [], ◌∷◌, refl, sym, ap, ◌∙◌, subst}
use Rattle.std.specs.Prelude.{All}
use Rattle.std.proofs.lemmas.List.Elements.{All-cons, All-head, All-nil, All-tail}
use Rattle.mt_catslot.specs.declared.slot.CatSlot.{CatSlot}
use Rattle.mt_catslot.specs.declared.slot.CatKey.{CatKey}
use Rattle.mt_catslot.specs.Slots.{key_of}
use Rattle.mt_catalog.specs.State.{State}
use Rattle.mt_catalog.specs.Slots.{HasSlot, slot_of}
use Rattle.mt_catalog.specs.Rules.{IsCatalogue}
use Rattle.mt_catalog.specs.Keyed.{slot_in}
use Rattle.mt_catread.specs.Entries.{AreKeyed}
use Rattle.mt_catalog.specs.Found.{IsFound, IsOf, IsOfNone}
use Rattle.mt_catalog.specs.Reading.{In}
use Rattle.mt_catalog.proofs.Catalogues.{catalogue_is_found}
use Rattle.mt_catread.proofs.Entries.{found_member, member_found, slots_of}
use Rattle.mt_catread.proofs.Made.{found_alone}
use Rattle.mt_catalog.proofs.OneCatalogue.{one_found}

each_in : (P : CatSlot → Type 0) (slots : List CatSlot) → All P slots → (slot : CatSlot) → In slot slots → P slot
each_in P [] all slot is = absurd is
each_in P (first ∷ slots) all slot (inl is) = subst P (sym is) (All-head P first slots all)
each_in P (first ∷ slots) all slot (inr is) = each_in P slots (All-tail P first slots all) slot is

all_in : (P : CatSlot → Type 0) (slots : List CatSlot) → ((slot : CatSlot) → In slot slots → P slot) → All P slots
all_in P [] each = All-nil P
all_in P (first ∷ slots) each = All-cons P first slots (each first (inl refl)) (all_in P slots (λ slot is. each slot (inr is)))

module _ (entries : List (CatKey × CatSlot)) (keyed : AreKeyed entries) (state : State) (is : IsFound (slot_in entries) state) where
  -- it is the one of these slots where it has them all and keeps the rules
  pub is_of : All (HasSlot state) (slots_of entries) → IsCatalogue state → IsOf (slot_in entries) state
  is_of all kept = record {
    rules = kept;
    same = found_alone (slot_in entries) state is (λ key slot e.
        let there = found_member entries key slot keyed e in
        ap (slot_of state) (sym there.1) ∙ each_in (HasSlot state) (slots_of entries) all slot there.0);
  }

  -- and any other would be this one
  same_catalogue : (other : State) → IsOf (slot_in entries) other → IsOf (slot_in entries) state
  same_catalogue other of = subst (IsOf (slot_in entries)) (one_found (slot_in entries) other state (catalogue_is_found (slot_in entries) other of) is) of

  pub none_without_slots : (All (HasSlot state) (slots_of entries) → ⊥) → IsOfNone (slot_in entries)
  none_without_slots lacks other of =
      let here = same_catalogue other of in
      lacks (all_in (HasSlot state) (slots_of entries) (λ slot there. sym (here.same (key_of slot)) ∙ member_found entries slot keyed there))

  pub none_without_rules : (IsCatalogue state → ⊥) → IsOfNone (slot_in entries)
  none_without_rules breaks other of = breaks (same_catalogue other of).rules
