-- Bodies and the entries of what they say: of which catalogue they are, and where they are of none.
use Rattle.std.proofs.Common.{◌≡◌, inl, inr, ℕ, zero, suc, ◌<◌, Bool, true, false, cond, List, [], ◌∷◌, ◌++◌, length, map, Option, None, Some, refl, sym, ap, ◌∙◌, subst, arith}
use Rattle.std.specs.Prelude.{IsSome, slice_get, option_map}
use Rattle.std.proofs.lemmas.List.{length-map}
use Rattle.std.proofs.lemmas.Option.{slice_get-map, slice_get_within}
use Rattle.mt_catslot.specs.declared.slot.CatSlot.{CatSlot}
use Rattle.mt_catslot.specs.declared.slot.CatKey.{CatKey}
use Rattle.mt_catslot.specs.Bytes.{says}
use Rattle.mt_catslot.specs.Slots.{key_of}
use Rattle.mt_catalog.specs.State.{State}
use Rattle.mt_catalog.specs.Slots.{HasSlot, slot_of}
use Rattle.mt_catalog.specs.Keyed.{same_key, slot_in}
use Rattle.mt_catread.specs.Entries.{AreEntriesOf, AreKeyed}
use Rattle.mt_catalog.specs.Found.{IsOfNone}
use Rattle.mt_catalog.specs.Reading.{In, IsDamagedCatalogue, NoRepeat, SayCatalogue}
use Rattle.mt_catalog.proofs.ByKey.{key_is, other_key, own_key}
use Rattle.mt_catalog.proofs.Keys.{own_key as had_key}
use Rattle.mt_catalog.proofs.Cut.{from_mapped}
use Rattle.mt_catalog.proofs.Runs.{same_members}

-- the slots of entries
abbrev pub slots_of : List (CatKey × CatSlot) → List CatSlot
slots_of entries = map (λ entry. entry.1) entries

-- ---- entries by their keys

absent_split : (entry : CatKey × CatSlot) (entries : List (CatKey × CatSlot)) (key : CatKey) → slot_in (entry ∷ entries) key ≡ None → (same_key key entry.0 ≡ false) × (slot_in entries key ≡ None)
absent_split entry entries key none = by (same_key key entry.0) refl none
  where
    by : (b : Bool) → same_key key entry.0 ≡ b → cond b (Some entry.1) (slot_in entries key) ≡ None → (same_key key entry.0 ≡ false) × (slot_in entries key ≡ None)
    by true e f = absurd (cc)
    by false e f = (e, f)

absent_pushed : (entries : List (CatKey × CatSlot)) (entry : CatKey × CatSlot) (key : CatKey) → slot_in entries key ≡ None → same_key key entry.0 ≡ false → slot_in (entries ++ entry ∷ []) key ≡ None
absent_pushed [] entry key none apart = ap (λ b. cond b (Some entry.1) None) apart
absent_pushed (first ∷ entries) entry key none apart =
    let split = absent_split first entries key none in
    ap (λ b. cond b (Some first.1) (slot_in (entries ++ entry ∷ []) key)) split.0 ∙ absent_pushed entries entry key split.1 apart

-- an entry more, by a key by which none stands
pub keyed_pushed : (entries : List (CatKey × CatSlot)) (slot : CatSlot) → AreKeyed entries → slot_in entries (key_of slot) ≡ None → AreKeyed (entries ++ (key_of slot, slot) ∷ [])
keyed_pushed [] slot keyed none = (refl, refl, tt)
keyed_pushed (first ∷ entries) slot keyed none =
    let split = absent_split first entries (key_of slot) none in
    (keyed.0, absent_pushed entries (key_of slot, slot) first.0 keyed.1 (other_key (key_of slot) first.0 split.0), keyed_pushed entries slot keyed.2 split.1)

-- a slot of the entries is found by its key
pub member_found : (entries : List (CatKey × CatSlot)) (slot : CatSlot) → AreKeyed entries → In slot (slots_of entries) → slot_in entries (key_of slot) ≡ Some slot
member_found [] slot keyed is = absurd is
member_found (first ∷ entries) slot keyed (inl is) =
    let same : key_of slot ≡ first.0 = ap key_of is ∙ sym keyed.0 in
    let here : same_key (key_of slot) first.0 ≡ true = subst (λ (key : CatKey). same_key (key_of slot) key ≡ true) same (own_key (key_of slot)) in
    ap (λ b. cond b (Some first.1) (slot_in entries (key_of slot))) here ∙ ap Some (sym is)
member_found (first ∷ entries) slot keyed (inr is) = by (same_key (key_of slot) first.0) refl (member_found entries slot keyed.2 is)
  where
    by : (b : Bool) → same_key (key_of slot) first.0 ≡ b → slot_in entries (key_of slot) ≡ Some slot → cond b (Some first.1) (slot_in entries (key_of slot)) ≡ Some slot
    by false e there = there
    by true e there =
        let no : None ≡ Some slot = sym keyed.1 ∙ subst (λ (key : CatKey). slot_in entries key ≡ Some slot) (key_is (key_of slot) first.0 e) there in absurd (cc)

-- what is found by a key is one of the slots, and it has this key
pub found_member : (entries : List (CatKey × CatSlot)) (key : CatKey) (slot : CatSlot) → AreKeyed entries → slot_in entries key ≡ Some slot → In slot (slots_of entries) × (key_of slot ≡ key)
found_member [] key slot keyed e = absurd (cc)
found_member (first ∷ entries) key slot keyed e = by (same_key key first.0) refl e (found_member entries key slot keyed.2)
  where
    by : (b : Bool) → same_key key first.0 ≡ b → cond b (Some first.1) (slot_in entries key) ≡ Some slot
        → (slot_in entries key ≡ Some slot → In slot (slots_of entries) × (key_of slot ≡ key)) → In slot (slots_of (first ∷ entries)) × (key_of slot ≡ key)
    by true same f rest = let is : first.1 ≡ slot = cc in (inl (sym is), ap key_of (sym is) ∙ sym keyed.0 ∙ sym (key_is key first.0 same))
    by false same f rest = let there = rest f in (inr there.0, there.1)

keyed_once : (entries : List (CatKey × CatSlot)) → AreKeyed entries → NoRepeat (slots_of entries)
keyed_once [] keyed = tt
keyed_once (first ∷ entries) keyed = (
  λ is. let no : None ≡ Some first.1 = sym keyed.1 ∙ ap (slot_in entries) keyed.0 ∙ member_found entries first.1 keyed.2 is in cc,
  keyed_once entries keyed.2,
)

-- ---- the catalogue of bodies

some_slots : (entries : List (CatKey × CatSlot)) → map (λ entry. Some entry.1) entries ≡ map (λ slot. Some slot) (slots_of entries)
some_slots [] = refl
some_slots (entry ∷ entries) = ap (λ rest. Some entry.1 ∷ rest) (some_slots entries)

same_slots : (a b : List CatSlot) → map (λ slot. Some slot) a ≡ map (λ slot. Some slot) b → a ≡ b
same_slots [] [] e = refl
same_slots [] (y ∷ b) e = absurd (cc)
same_slots (x ∷ a) [] e = absurd (cc)
same_slots (x ∷ a) (y ∷ b) e =
    let first : x ≡ y = cc in
    let others : map (λ slot. Some slot) a ≡ map (λ slot. Some slot) b = cc in
    let rest = same_slots a b others in cc

-- bodies say the catalogue that has what is found by each key
pub found_said : (bodies : List (ℕ × List ℕ)) (entries : List (CatKey × CatSlot)) (state : State) → AreEntriesOf bodies entries → ((key : CatKey) → slot_in entries key ≡ slot_of state key) → SayCatalogue bodies state
found_said bodies entries state are same = record {
  slots = slots_of entries;
  said = are.said ∙ some_slots entries;
  read = record {
    once = keyed_once entries are.keyed;
    same = λ slot. (λ is. sym (same (key_of slot)) ∙ member_found entries slot are.keyed is, λ has. (found_member entries (key_of slot) slot are.keyed (same (key_of slot) ∙ has)).0);
  };
}

-- a catalogue that is said has what is found by each key
pub said_found : (bodies : List (ℕ × List ℕ)) (entries : List (CatKey × CatSlot)) (state : State) → AreEntriesOf bodies entries → SayCatalogue bodies state → (key : CatKey) → slot_in entries key ≡ slot_of state key
said_found bodies entries state are say key = by (slot_in entries key) refl (slot_of state key) refl
  where
    same : slots_of entries ≡ say.slots
    same = same_slots (slots_of entries) say.slots (sym (some_slots entries) ∙ sym are.said ∙ say.said)

    by : (o : Option CatSlot) → slot_in entries key ≡ o → (u : Option CatSlot) → slot_of state key ≡ u → slot_in entries key ≡ slot_of state key
    by (Some slot) e u f =
        let at = found_member entries key slot are.keyed e in
        let has : HasSlot state slot = (say.read.same slot).0 (subst (In slot) same at.0) in
        e ∙ sym (ap (slot_of state) (sym at.1) ∙ has)
    by None e None f = e ∙ sym f
    by None e (Some slot) f =
        let own = had_key state key slot f in
        let is = (say.read.same slot).1 (ap (slot_of state) own ∙ f) in
        let there = member_found entries slot are.keyed (subst (In slot) (sym same) is) in
        let no : None ≡ Some slot = sym e ∙ ap (slot_in entries) (sym own) ∙ there in absurd (cc)

-- where what is found is of no catalogue, none is said
pub none_said : (bodies : List (ℕ × List ℕ)) (entries : List (CatKey × CatSlot)) → AreEntriesOf bodies entries → IsOfNone (slot_in entries) → IsDamagedCatalogue bodies
none_said bodies entries are none state rules say = none state (record { rules = rules; same = said_found bodies entries state are say })

-- ---- bodies by their places

-- the body at a place says the slot
abbrev pub SaysAt : List (ℕ × List ℕ) → ℕ → CatSlot → Type 0
SaysAt bodies n slot = (body : ℕ × List ℕ) × (slice_get bodies n ≡ Some body) × (says body.0 body.1 ≡ Some slot)

-- what a place of the slots holds is what the body there says
place_said : (bodies : List (ℕ × List ℕ)) (slots : List CatSlot) → map (λ body. says body.0 body.1) bodies ≡ map (λ slot. Some slot) slots → (n : ℕ) (body : ℕ × List ℕ)
    → slice_get bodies n ≡ Some body → option_map (λ slot. Some slot) (slice_get slots n) ≡ Some (says body.0 body.1)
place_said bodies slots said n body at =
    sym (slice_get-map (λ slot. Some slot) slots n) ∙ ap (λ (of : List (Option CatSlot)). slice_get of n) (sym said) ∙ slice_get-map (λ body. says body.0 body.1) bodies n
    ∙ ap (option_map (λ body. says body.0 body.1)) at

slot_placed : (bodies : List (ℕ × List ℕ)) (slots : List CatSlot) → map (λ body. says body.0 body.1) bodies ≡ map (λ slot. Some slot) slots → (n : ℕ) (slot : CatSlot) → SaysAt bodies n slot
    → slice_get slots n ≡ Some slot
slot_placed bodies slots said n slot is = by (slice_get slots n) (place_said bodies slots said n is.0 is.1 ∙ ap Some is.2)
  where
    by : (o : Option CatSlot) → option_map (λ slot. Some slot) o ≡ Some (Some slot) → o ≡ Some slot
    by None e = absurd (cc)
    by (Some other) e = cc

placed_in : (slots : List CatSlot) (n : ℕ) (slot : CatSlot) → slice_get slots n ≡ Some slot → In slot slots
placed_in [] n slot e = absurd (cc)
placed_in (first ∷ rest) zero slot e = let same : slot ≡ first = cc in inl same
placed_in (first ∷ rest) (suc n) slot e = inr (placed_in rest n slot e)

no_second : (slots : List CatSlot) → NoRepeat slots → (m n : ℕ) (slot : CatSlot) → m < n → slice_get slots m ≡ Some slot → slice_get slots n ≡ Some slot → ⊥
no_second [] once m n slot before e f = cc
no_second (first ∷ rest) once m zero slot before e f = omega (arith, before)
no_second (first ∷ rest) once zero (suc n) slot before e f =
    let same : slot ≡ first = cc in once.0 (subst (λ (of : CatSlot). In of rest) same (placed_in rest n slot f))
no_second (first ∷ rest) once (suc m) (suc n) slot before e f = no_second rest once.1 m n slot (omega (arith, before)) e f

-- a body that says nothing
pub silent_body : (bodies : List (ℕ × List ℕ)) (n : ℕ) (body : ℕ × List ℕ) → slice_get bodies n ≡ Some body → says body.0 body.1 ≡ None → IsDamagedCatalogue bodies
silent_body bodies n body at none state rules say = by (slice_get say.slots n) (place_said bodies say.slots say.said n body at ∙ ap Some none)
  where
    by : (o : Option CatSlot) → option_map (λ slot. Some slot) o ≡ Some None → ⊥
    by None e = cc
    by (Some slot) e = cc

-- two bodies that say slots with one key
pub one_key : (bodies : List (ℕ × List ℕ)) (m n : ℕ) (slot other : CatSlot) → m < n → SaysAt bodies m slot → SaysAt bodies n other → key_of slot ≡ key_of other → IsDamagedCatalogue bodies
one_key bodies m n slot other before first second same state rules say =
    let one = slot_placed bodies say.slots say.said m slot first in
    let two = slot_placed bodies say.slots say.said n other second in
    let has : HasSlot state slot = (say.read.same slot).0 (placed_in say.slots m slot one) in
    let had : HasSlot state other = (say.read.same other).0 (placed_in say.slots n other two) in
    let equal : Some other ≡ Some slot = sym had ∙ ap (slot_of state) (sym same) ∙ has in
    no_second say.slots say.read.once m n slot before one (two ∙ equal)

entry_place : (entries : List (CatKey × CatSlot)) (key : CatKey) (slot : CatSlot) → slot_in entries key ≡ Some slot → (m : ℕ) × (entry : CatKey × CatSlot) × (slice_get entries m ≡ Some entry) × (entry.1 ≡ slot)
entry_place [] key slot e = absurd (cc)
entry_place (first ∷ entries) key slot e = by (same_key key first.0) e (entry_place entries key slot)
  where
    by : (b : Bool) → cond b (Some first.1) (slot_in entries key) ≡ Some slot
        → (slot_in entries key ≡ Some slot → (m : ℕ) × (entry : CatKey × CatSlot) × (slice_get entries m ≡ Some entry) × (entry.1 ≡ slot))
        → (m : ℕ) × (entry : CatKey × CatSlot) × (slice_get (first ∷ entries) m ≡ Some entry) × (entry.1 ≡ slot)
    by true f rest = let is : first.1 ≡ slot = cc in (zero, first, refl, is)
    by false f rest = let there = rest f in (suc there.0, there.1, there.2, there.3)

-- each entry is of a body at its place
abbrev pub AreFront : List (ℕ × List ℕ) → List (CatKey × CatSlot) → Type 0
AreFront bodies entries = (n : ℕ) (entry : CatKey × CatSlot) → slice_get entries n ≡ Some entry → SaysAt bodies n entry.1

-- a slot with a key by which one stands already
pub key_repeated : (bodies : List (ℕ × List ℕ)) (entries : List (CatKey × CatSlot)) (slot : CatSlot) → AreFront bodies entries → AreKeyed entries → SaysAt bodies (length entries) slot
    → IsSome (slot_in entries (key_of slot)) → IsDamagedCatalogue bodies
key_repeated bodies entries slot front keyed says_it some = by (slot_in entries (key_of slot)) refl some
  where
    by : (o : Option CatSlot) → slot_in entries (key_of slot) ≡ o → IsSome o → IsDamagedCatalogue bodies
    by None e s = absurd (cc)
    by (Some other) e s =
        let at = entry_place entries (key_of slot) other e in
        let own = (found_member entries (key_of slot) other keyed e).1 in
        let there : SaysAt bodies at.0 other = subst (SaysAt bodies at.0) at.3 (front at.0 at.1 at.2) in
        one_key bodies at.0 (length entries) other slot (slice_get_within entries at.0 at.1 at.2) there says_it own

-- entries of all bodies
pub all_said : (bodies : List (ℕ × List ℕ)) (entries : List (CatKey × CatSlot)) → length entries ≡ length bodies → AreFront bodies entries
    → map (λ body. says body.0 body.1) bodies ≡ map (λ entry. Some entry.1) entries
all_said bodies entries size front =
    same_members (map (λ body. says body.0 body.1) bodies) (map (λ entry. Some entry.1) entries)
    (length-map bodies (λ body. says body.0 body.1) ∙ sym size ∙ sym (length-map entries (λ entry. Some entry.1))) (λ n x y e f.
    let body = from_mapped (λ body. says body.0 body.1) bodies n x e in
    let entry = from_mapped (λ (entry : CatKey × CatSlot). Some entry.1) entries n y f in
    let said = front n entry.0 entry.1 in
    let both : Some body.0 ≡ Some said.0 = sym body.1 ∙ said.1 in
    let same : body.0 ≡ said.0 = cc in
    sym body.2 ∙ ap (λ (body : ℕ × List ℕ). says body.0 body.1) same ∙ said.2 ∙ entry.2)
