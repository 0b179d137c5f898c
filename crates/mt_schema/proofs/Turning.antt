-- Slots at the keys at which two catalogues differ turn one into the other.
use Rattle.std.proofs.Common.{◌≡◌, ◌≢◌, ◌⊎◌, inl, inr, Bool, true, false, List, [], ◌∷◌, Option, None, Some, ⊎_elim, refl, sym, ap, ◌∙◌, subst, eqb-true}
use Rattle.std.specs.Prelude.{◌==◌, filter_map}
use Rattle.std.specs.List.{AllByRecursion as Each, cons_option}
use Rattle.std.proofs.lemmas.Bool.{and_parts, true≢false}
use Rattle.mt_fold.proofs.Lists.{Among, Each-at, InOrder}
use Rattle.mt_catslot.specs.declared.slot.Class.{Class}
use Rattle.mt_catslot.specs.declared.slot.Class.TheVariants as classes
use Rattle.mt_catslot.specs.declared.slot.CatSlot.{CatSlot}
use Rattle.mt_catslot.specs.declared.slot.CatKey.{CatKey}
use Rattle.mt_catslot.specs.declared.slot.CatKey.TheVariants as keys
use Rattle.mt_catslot.specs.Slots.{key_of}
use Rattle.mt_catalog.specs.Keyed.{same_class, same_key}
use Rattle.mt_catalog.specs.Reading.{In, NoRepeat}
use Rattle.mt_catalog.specs.Slots.{HasSlot, slot_of}
use Rattle.mt_catalog.specs.State.{State}
use Rattle.mt_catalog.proofs.ByKey as by_key
use Rattle.mt_catalog.proofs.Keys.{own_key}
use Rattle.mt_schema.specs.Turns.{TurnsInto}

-- no member stands twice
abbrev pub AreOnce : {A : Type 0} → List A → Type 0
AreOnce members = InOrder (λ a b. a ≢ b) members

-- The catalogues differ at each of these keys, and nowhere else.
pub record AreChanged (keys : List CatKey) (before after : State) : Type 0 where
  pub once : AreOnce keys
  pub elsewhere : (key : CatKey) → (Among key keys → ⊥) → slot_of after key ≡ slot_of before key
  pub differ : Each (λ key. slot_of after key ≢ slot_of before key) keys

-- what is there and was not differs
pub made_here : {a b : Option CatSlot} {slot : CatSlot} → a ≡ Some slot → b ≡ None → a ≢ b
made_here e f same = let no = sym e ∙ same ∙ f in cc

class_is : (a b : Class) → same_class a b ≡ true → a ≡ b
class_is classes.BaseTable classes.BaseTable e = refl
class_is classes.Extension classes.Extension e = refl
class_is a b e = absurd (cc)

key_is : (a b : CatKey) → same_key a b ≡ true → a ≡ b
key_is (keys.Relation class number) (keys.Relation c n) e =
    let both = and_parts (same_class class c) _ e in
    let one = class_is class c both.0 in
    let two = eqb-true number n both.1 in cc
key_is (keys.Column class number position) (keys.Column c n p) e =
    let both = and_parts (same_class class c) _ e in
    let rest = and_parts (number == n) _ both.1 in
    let one = class_is class c both.0 in
    let two = eqb-true number n rest.0 in
    let three = eqb-true position p rest.1 in cc
key_is (keys.Tenant tenant) (keys.Tenant t) e = let one = eqb-true tenant t e in cc
key_is (keys.Placement tenant base) (keys.Placement t b) e =
    let both = and_parts (tenant == t) _ e in
    let one = eqb-true tenant t both.0 in
    let two = eqb-true base b both.1 in cc
key_is (keys.Extended tenant base position) (keys.Extended t b p) e =
    let both = and_parts (tenant == t) _ e in
    let rest = and_parts (base == b) _ both.1 in
    let one = eqb-true tenant t both.0 in
    let two = eqb-true base b rest.0 in
    let three = eqb-true position p rest.1 in cc
key_is (keys.Field tenant base generation column) (keys.Field t b g c) e =
    let both = and_parts (tenant == t) _ e in
    let rest = and_parts (base == b) _ both.1 in
    let last = and_parts (generation == g) _ rest.1 in
    let one = eqb-true tenant t both.0 in
    let two = eqb-true base b rest.0 in
    let three = eqb-true generation g last.0 in
    let four = eqb-true column c last.1 in cc
key_is a b e = absurd (true≢false (sym e))

-- a key is among some keys, or it is not
among_or_not : (key : CatKey) (some : List CatKey) → Among key some ⊎ (Among key some → ⊥)
among_or_not key [] = inr (λ among. among)
among_or_not key (other ∷ some) = by (same_key key other) refl (among_or_not key some)
  where
    by : (b : Bool) → same_key key other ≡ b → Among key some ⊎ (Among key some → ⊥) → Among key (other ∷ some) ⊎ (Among key (other ∷ some) → ⊥)
    by true same rest = inl (inl (key_is key other same))
    by false apart (inl among) = inl (inr among)
    by false apart (inr none) = inr (λ among. ⊎_elim (λ same. true≢false (sym (by_key.own_key key) ∙ ap (same_key key) same ∙ apart)) none among)

-- what is found at some keys
found_among : (at : CatKey → Option CatSlot) (some : List CatKey) (slot : CatSlot) → In slot (filter_map at some) → (key : CatKey) × Among key some × (at key ≡ Some slot)
found_among at [] slot is = absurd is
found_among at (key ∷ some) slot is = by (at key) refl is (found_among at some slot)
  where
    on : (o : (k : CatKey) × Among k some × (at k ≡ Some slot)) → (k : CatKey) × Among k (key ∷ some) × (at k ≡ Some slot)
    on o = (o.0, inr o.1, o.2)

    by : (o : Option CatSlot) → at key ≡ o → In slot (cons_option o (filter_map at some)) → (In slot (filter_map at some) → (k : CatKey) × Among k some × (at k ≡ Some slot))
        → (k : CatKey) × Among k (key ∷ some) × (at k ≡ Some slot)
    by None e i rest = on (rest i)
    by (Some first) e (inl same) rest = (key, inl refl, e ∙ ap Some (sym same))
    by (Some first) e (inr behind) rest = on (rest behind)

found_of : (at : CatKey → Option CatSlot) (some : List CatKey) (key : CatKey) (slot : CatSlot) → Among key some → at key ≡ Some slot → In slot (filter_map at some)
found_of at [] key slot among e = absurd among
found_of at (first ∷ some) key slot (inl same) e = let here : at first ≡ Some slot = ap at (sym same) ∙ e in subst (λ o. In slot (cons_option o (filter_map at some))) (sym here) (inl refl)
found_of at (first ∷ some) key slot (inr among) e = by (at first) (found_of at some key slot among e)
  where
    by : (o : Option CatSlot) → In slot (filter_map at some) → In slot (cons_option o (filter_map at some))
    by None is = is
    by (Some other) is = inr is

-- no slot is found twice
found_once : (state : State) (some : List CatKey) → AreOnce some → NoRepeat (filter_map (slot_of state) some)
found_once state [] once = tt
found_once state (key ∷ some) once = by (slot_of state key) refl (found_once state some once.1)
  where
    by : (o : Option CatSlot) → slot_of state key ≡ o → NoRepeat (filter_map (slot_of state) some) → NoRepeat (cons_option o (filter_map (slot_of state) some))
    by None e rest = rest
    by (Some slot) e rest = (
      λ again.
          let found = found_among (slot_of state) some slot again in
          Each-at (λ other. key ≢ other) found.0 some once.0 found.1 (sym (own_key state key slot e) ∙ own_key state found.0 slot found.2),
      rest,
    )

pub changed_turn : (some : List CatKey) (before after : State) → AreChanged some before after → TurnsInto (filter_map (slot_of after) some) (filter_map (slot_of before) some) before after
changed_turn some before after changed = record {
  put_once = found_once after some changed.once;
  removed_once = found_once before some changed.once;
  new = new;
  there = there;
  same = λ slot. (to slot, from slot);
}
  where
    -- a slot that is found has its key, at which the catalogues differ
    at_key : (state : State) (slot : CatSlot) → In slot (filter_map (slot_of state) some) → Among (key_of slot) some × HasSlot state slot
    at_key state slot is =
        let found = found_among (slot_of state) some slot is in
        let own = sym (own_key state found.0 slot found.2) in
        (subst (λ key. Among key some) own found.1, subst (λ key. slot_of state key ≡ Some slot) own found.2)

    new : (slot : CatSlot) → In slot (filter_map (slot_of after) some) → HasSlot before slot → ⊥
    new slot is has =
        let at = at_key after slot is in
        Each-at (λ key. slot_of after key ≢ slot_of before key) (key_of slot) some changed.differ at.0 (at.1 ∙ sym has)

    there : (slot : CatSlot) → In slot (filter_map (slot_of before) some) → HasSlot before slot
    there slot is = (at_key before slot is).1

    to : (slot : CatSlot) → HasSlot after slot → In slot (filter_map (slot_of after) some) ⊎ (HasSlot before slot × (In slot (filter_map (slot_of before) some) → ⊥))
    to slot has = ⊎_elim
        (λ among. inl (found_of (slot_of after) some (key_of slot) slot among has))
        (λ none. inr (sym (changed.elsewhere (key_of slot) none) ∙ has, λ is. none (at_key before slot is).0))
        (among_or_not (key_of slot) some)

    from : (slot : CatSlot) → In slot (filter_map (slot_of after) some) ⊎ (HasSlot before slot × (In slot (filter_map (slot_of before) some) → ⊥)) → HasSlot after slot
    from slot (inl is) = (at_key after slot is).1
    from slot (inr (has, kept)) = ⊎_elim
        (λ among. absurd (kept (found_of (slot_of before) some (key_of slot) slot among has)))
        (λ none. changed.elsewhere (key_of slot) none ∙ has)
        (among_or_not (key_of slot) some)
