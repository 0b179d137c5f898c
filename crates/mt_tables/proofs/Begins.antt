-- A walk over the slots of the pages begins a plan of no changes.
use Rattle.std.proofs.Common.{◌≡◌, ◌==◌, ◌&&◌, ℕ, zero, suc, ◌+◌, ◌<◌, Bool, true, false, cond, nat_eq, slice_index, List, [], ◌∷◌, length, map, get_or, Option, None, Some, refl, sym, ap, ◌∙◌, arith, subst, filter, filter_map, is_some, take}
use Rattle.std.proofs.lemmas.Bool.Decides.{nat_tests}
use Rattle.std.proofs.lemmas.List.{get_or-map}
use Rattle.std.specs.declared.cmp.Ordering.{Ordering}
use Rattle.std.specs.Cmp.{IsTotalOrder}
use Rattle.std.specs.FinMap as finite
use Rattle.std.specs.Ordering.{eq_by_cmp}
use Rattle.mt_journal.specs.Layout.{Area}
use Rattle.mt_rowfile.specs.Pages.{is_free}
use Rattle.mt_tables.specs.Pages.{AreSlotSizes, SlotPlace, SlotSizes, page_count, places_below}
use Rattle.mt_tables.specs.Plan.{AreApart, AreFree, AreOthers, IsPlan, PlacedSlot, Says, free_in, placed, sought, with_place}
use Rattle.mt_tables.specs.Tables.{TableSlot, slot_at, slots_below, tables_below}
use Rattle.mt_tables.specs.Unique.{AreUnique, Misses, NoneSays}
use Rattle.mt_tables.proofs.OneSlot.{none_found, tied_are_one}
use Rattle.mt_tables.proofs.Places.{AllFrom, AreRising, end_of, places_rise}

-- these places are the last ones of the pages, from the i-th on
pub record AreLast (sizes : SlotSizes) (count : ℕ) (area : Area) (i : ℕ) (places : List SlotPlace) : Type 0 where
  pub size : i + length places ≡ length (places_below sizes count area)
  pub are : (j : ℕ) (d : SlotPlace) → j < length places → get_or (places_below sizes count area) (i + j) d ≡ get_or places j d

-- the free positions, where the first slot is one of them or is not
abbrev free_with : Bool → ℕ → PlacedSlot → List PlacedSlot → List ℕ
free_with b table slot slots =
    map (λ slot. slot.0.position) (cond b (slot ∷ filter (λ slot. nat_eq slot.0.table table && is_free slot.1.1) slots) (filter (λ slot. nat_eq slot.0.table table && is_free slot.1.1) slots))

module _ {K V : Type 0} (sizes : SlotSizes) (read : TableSlot → Option (K × V)) (count : ℕ) (area : Area) where
  last_rest : (i : ℕ) (place : SlotPlace) (places : List SlotPlace) → AreLast sizes count area i (place ∷ places) → AreLast sizes count area (i + 1) places
  last_rest i place places last = record {
    size = (let e = last.size in omega (arith, e));
    are = λ j d within. ap (λ n. get_or (places_below sizes count area) n d) (omega arith) ∙ last.are (suc j) d (omega (arith, within));
  }

  -- the first of them says what its slot says
  first_says : (i : ℕ) (place : SlotPlace) (places : List SlotPlace) → AreLast sizes count area i (place ∷ places) → Says sizes read count area place (read (slot_at sizes area place))
  first_says i place places last =
      let e = last.size in
      let within : i < length (places_below sizes count area) = omega (arith, e) in
      let stands : (d : SlotPlace) → get_or (places_below sizes count area) i d ≡ place = λ d. ap (λ n. get_or (places_below sizes count area) n d) (omega arith) ∙ last.are 0 d (omega arith) in
      record {
        number = i;
        within = within;
        stands = stands;
        says = λ d. ap read (get_or-map (slot_at sizes area) (places_below sizes count area) i place d within ∙ ap (slot_at sizes area) (stands place));
      }

  module _ (silent : (slot : TableSlot) → (slice_index slot.1 0 == 0) ≡ true → read slot ≡ None) where
    -- the positions that are marked free say nothing
    free_says : (table i : ℕ) (places : List SlotPlace) → AreLast sizes count area i places → AreFree sizes read count area table (free_in table (placed sizes area places))
    free_says table i [] last = tt
    free_says table i (place ∷ places) last = by (free_says table (i + 1) places (last_rest i place places last)) (nat_eq place.table table) (slice_index (slot_at sizes area place).1 0 == 0) refl refl
      where
        by : AreFree sizes read count area table (free_in table (placed sizes area places)) → (t f : Bool) → nat_eq place.table table ≡ t → (slice_index (slot_at sizes area place).1 0 == 0) ≡ f
            → AreFree sizes read count area table (free_with (t && f) table (place, slot_at sizes area place) (placed sizes area places))
        by rest true true et ef =
            let same : place.table ≡ table = grind (arith, nat_tests, et) in
            let says : Says sizes read count area place None = subst (Says sizes read count area place) (silent (slot_at sizes area place) ef) (first_says i place places last) in
            (subst (λ t. Says sizes read count area (record { table = t; position = place.position }) None) same says, rest)
        by rest true false et ef = rest
        by rest false f et ef = rest

-- positions of later places are others
others_behind : (sizes : SlotSizes) (area : Area) (table at m : ℕ) (places : List SlotPlace) → at < m → AllFrom sizes m places → AreOthers at (free_in table (placed sizes area places))
others_behind sizes area table at m [] before from = tt
others_behind sizes area table at m (place ∷ places) before from = by (others_behind sizes area table at m places before from.1) (nat_eq place.table table && (slice_index (slot_at sizes area place).1 0 == 0))
  where
    by : AreOthers at (free_in table (placed sizes area places)) → (b : Bool) → AreOthers at (free_with b table (place, slot_at sizes area place) (placed sizes area places))
    by rest true = let f = from.0 in ((λ same. absurd (omega (arith, before, f, same))), rest)
    by rest false = rest

free_apart : (sizes : SlotSizes) → AreSlotSizes sizes → (area : Area) (table : ℕ) (places : List SlotPlace) → AreRising sizes places → AreApart (free_in table (placed sizes area places))
free_apart sizes sound area table [] rise = tt
free_apart sizes sound area table (place ∷ places) rise = by (free_apart sizes sound area table places rise.1) (nat_eq place.table table && (slice_index (slot_at sizes area place).1 0 == 0))
  where
    by : AreApart (free_in table (placed sizes area places)) → (b : Bool) → AreApart (free_with b table (place, slot_at sizes area place) (placed sizes area places))
    by rest true = let wide = sound.some place.table in (others_behind sizes area table place.position (end_of sizes place) places (omega (arith, wide)) rise.0, rest)
    by rest false = rest

-- and so the first ones of them
some_free : {K V : Type 0} (sizes : SlotSizes) (read : TableSlot → Option (K × V)) (count : ℕ) (area : Area) (table n : ℕ) (positions : List ℕ) → AreFree sizes read count area table positions → AreFree sizes read count area table (take n positions)
some_free sizes read count area table zero positions free = tt
some_free sizes read count area table (suc n) [] free = tt
some_free sizes read count area table (suc n) (position ∷ positions) free = (free.0, some_free sizes read count area table n positions free.1)

some_others : (at n : ℕ) (positions : List ℕ) → AreOthers at positions → AreOthers at (take n positions)
some_others at zero positions others = tt
some_others at (suc n) [] others = tt
some_others at (suc n) (position ∷ positions) others = (others.0, some_others at n positions others.1)

some_apart : (n : ℕ) (positions : List ℕ) → AreApart positions → AreApart (take n positions)
some_apart zero positions apart = tt
some_apart (suc n) [] apart = tt
some_apart (suc n) (position ∷ positions) apart = (some_others position n positions apart.0, some_apart n positions apart.1)

module _ {K V : Type 0} {R : K → K → Ordering} (o : IsTotalOrder R) (exact : finite.IsAntisymmetric R) (sizes : SlotSizes) (read : TableSlot → Option (K × V)) (table_of : K → ℕ) (count : ℕ) (area : Area)
    (of_table : (slot : TableSlot) (e : K × V) → read slot ≡ Some e → table_of e.0 ≡ slot.0) where
  -- each key that was found stands where the index says
  abbrev AreHeld : finite.FinMap R (Option ℕ) → Type 0
  AreHeld index = (key : K) (position : ℕ) → finite.get index key ≡ Some (Some position) → (value : V) × Says sizes read count area (record { table = table_of key; position = position }) (Some (key, value))

  held_with : (place : SlotPlace) (entry : Option (K × V)) (index : finite.FinMap R (Option ℕ)) → Says sizes read count area place entry → (read (slot_at sizes area place) ≡ entry) → AreHeld index → AreHeld (with_place entry place.position index)
  held_with place None index says is held = held
  held_with place (Some e) index says is held = asked (finite.contains_key index e.0)
    where
      by : (key : K) (position : ℕ) (t : Bool) → eq_by_cmp R key e.0 ≡ t → cond t (Some (Some place.position)) (finite.get index key) ≡ Some (Some position) → (value : V) × Says sizes read count area (record { table = table_of key; position = position }) (Some (key, value))
      by key position true t there =
          let same : e.0 ≡ key = sym (tied_are_one exact key e.0 t) in
          let at : place.position ≡ position = cc in
          let table : place.table ≡ table_of key = sym (of_table (slot_at sizes area place) e is) ∙ ap table_of same in (
            e.1,
            subst (λ p. Says sizes read count area (record { table = table_of key; position = p }) (Some (key, e.1))) at
                (subst (λ t. Says sizes read count area (record { table = t; position = place.position }) (Some (key, e.1))) table (subst (λ k. Says sizes read count area place (Some (k, e.1))) same says)),
          )
      by key position false t there = held key position there

      asked : (b : Bool) → AreHeld (cond b (finite.insert index e.0 (Some place.position)) index)
      asked true = λ key position there. by key position (eq_by_cmp R key e.0) refl (sym (finite.get-insert o index e.0 (Some place.position) key) ∙ there)
      asked false = held

  index_held : (i : ℕ) (places : List SlotPlace) (index : finite.FinMap R (Option ℕ)) → AreLast sizes count area i places → AreHeld index → AreHeld (sought read (placed sizes area places) index)
  index_held i [] index last held = held
  index_held i (place ∷ places) index last held =
      index_held (i + 1) places (with_place (read (slot_at sizes area place)) place.position index) (last_rest sizes read count area i place places last)
      (held_with place (read (slot_at sizes area place)) index (first_says sizes read count area i place places last) refl held)

  -- a key that was not found was not found before, and no slot says it
  lacked_before : (entry : Option (K × V)) (position : ℕ) (index : finite.FinMap R (Option ℕ)) (key : K) → finite.get (with_place entry position index) key ≡ Some None → (finite.get index key ≡ Some None) × Misses R key entry
  lacked_before None position index key none = (none, tt)
  lacked_before (Some e) position index key none = by (finite.contains_key index e.0) (eq_by_cmp R key e.0) refl refl none
    where
      by : (b t : Bool) → finite.contains_key index e.0 ≡ b → eq_by_cmp R key e.0 ≡ t → finite.get (cond b (finite.insert index e.0 (Some position)) index) key ≡ Some None → (finite.get index key ≡ Some None) × (eq_by_cmp R key e.0 ≡ false)
      by true true asked tied none =
          let h : Some (Some position) ≡ Some None = sym (finite.get-insert o index e.0 (Some position) key ∙ ap (λ t. cond t (Some (Some position)) (finite.get index key)) tied) ∙ none in
          cc
      by false true asked tied none =
          let h : finite.contains_key index e.0 ≡ true = ap is_some (ap (finite.get index) (sym (tied_are_one exact key e.0 tied)) ∙ none) in
          cc
      by true false asked apart none = (sym (finite.get-insert o index e.0 (Some position) key ∙ ap (λ t. cond t (Some (Some position)) (finite.get index key)) apart) ∙ none, apart)
      by false false asked apart none = (none, apart)

  index_lacks : (places : List SlotPlace) (index : finite.FinMap R (Option ℕ)) (key : K) → finite.get (sought read (placed sizes area places) index) key ≡ Some None
      → (finite.get index key ≡ Some None) × NoneSays R read key (map (slot_at sizes area) places)
  index_lacks [] index key none = (none, tt)
  index_lacks (place ∷ places) index key none =
      let later = index_lacks places (with_place (read (slot_at sizes area place)) place.position index) key none in
      let before = lacked_before (read (slot_at sizes area place)) place.position index key later.0 in
      (before.0, (before.1, later.1))

  -- the plan of no changes, which keeps of the free positions as many as are wanted
  pub plan_begins : AreSlotSizes sizes → ((slot : TableSlot) → (slice_index slot.1 0 == 0) ≡ true → read slot ≡ None) → page_count area ≡ count → AreUnique R read (slots_below sizes count area)
      → (index : finite.FinMap R (Option ℕ)) → ((key : K) (position : ℕ) → finite.get index key ≡ Some (Some position) → ⊥) → (wanted : ℕ → ℕ)
      → IsPlan sizes read R table_of count area [] [] (sought read (placed sizes area (places_below sizes count area)) index) (λ table. take (wanted table) (free_in table (placed sizes area (places_below sizes count area))))
  plan_begins sound silent counted unique index fresh wanted =
      let all : AreLast sizes count area 0 (places_below sizes count area) = record { size = omega arith; are = λ j d within. ap (λ n. get_or (places_below sizes count area) n d) (omega arith) } in
      record {
        made = ap (λ n. tables_below sizes n read area) (sym counted);
        unique = unique;
        held = index_held 0 (places_below sizes count area) index all (λ key position there. absurd (fresh key position there));
        lacked = λ key none. finite.get-from_entries o (filter_map read (slots_below sizes count area)) key ∙ none_found o read key (slots_below sizes count area) (index_lacks (places_below sizes count area) index key none).1;
        are_free = λ table. some_free sizes read count area table (wanted table) (free_in table (placed sizes area (places_below sizes count area))) (free_says sizes read count area silent table 0 (places_below sizes count area) all);
        are_apart = λ table. some_apart (wanted table) (free_in table (placed sizes area (places_below sizes count area))) (free_apart sizes sound area table (places_below sizes count area) (places_rise sizes sound count area));
      }
