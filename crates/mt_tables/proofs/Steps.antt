-- One range more, or one page more: what it changes of what the slots say.
use Rattle.std.proofs.Common.{◌≡◌, ℕ, zero, suc, ◌+◌, ◌<◌, ◌≤◌, List, [], ◌∷◌, ◌++◌, length, get_or, set, replicate, Option, None, Some, refl, sym, ap, ◌∙◌, arith, subst, filter_map}
use Rattle.std.specs.declared.cmp.Ordering.{Ordering}
use Rattle.std.specs.Cmp.{IsTotalOrder}
use Rattle.std.proofs.lemmas.Cmp.{eq_by_cmp_equiv}
use Rattle.std.specs.FinMap as finite
use Rattle.mt_journal.specs.Layout.{Area, Range}
use Rattle.mt_journal.specs.Replay.{with_range, with_ranges}
use Rattle.mt_tables.specs.Commit.{IsNewPage, Makes, with_value, with_values}
use Rattle.mt_tables.specs.Pages.{AreSlotSizes, SlotPlace, SlotSizes, bytes_at, places_below}
use Rattle.mt_tables.specs.Tables.{TableSlot, overwritten, slots_below, tables_below, tables_of}
use Rattle.mt_tables.specs.Unique.{AreUnique}
use Rattle.mt_tables.proofs.Bytes.{put_at}
use Rattle.mt_tables.proofs.OneSlot.{HasKey, OnlyAt, free_behind, put_in, silent_set, taken_out, unique_after}
use Rattle.mt_tables.proofs.Places.{IsInPage, place_in_page}
use Rattle.mt_tables.proofs.Written.{blank_slot, control_written, page_added, places_stand, slot_written}

-- one range more
pub with_ranges-last : (ranges : List Range) (range : Range) (pages : Area) → with_ranges (ranges ++ range ∷ []) pages ≡ with_range range (with_ranges ranges pages)
with_ranges-last [] range pages = refl
with_ranges-last (r ∷ ranges) range pages = with_ranges-last ranges range (with_range r pages)

-- one change more
pub with_values-last : {K V : Type 0} {R : K → K → Ordering} (changes : List (K × Option V)) (change : K × Option V) (tables : finite.FinMap R V) → with_values (changes ++ change ∷ []) tables ≡ with_value change.0 change.1 (with_values changes tables)
with_values-last [] change tables = refl
with_values-last (c ∷ changes) change tables = with_values-last changes change (with_value c.0 c.1 tables)

-- the entry of a key with this value, or none
abbrev pub entry_with : {K V : Type 0} → K → Option V → Option (K × V)
entry_with key None = None
entry_with key (Some v) = Some (key, v)

-- slots that say nothing
blank_entries : {E : Type 0} (read : TableSlot → Option E) (n : ℕ) (slot : TableSlot) → read slot ≡ None → filter_map read (replicate n slot) ≡ []
blank_entries read zero slot free = refl
blank_entries read (suc n) slot free = rw (free, blank_entries read n slot free) refl

module _ (sizes : SlotSizes) (sound : AreSlotSizes sizes) (count : ℕ) where
  -- the i-th slot of the pages below the number
  pub record StandsAt (area : Area) (i : ℕ) (place : SlotPlace) : Type 0 where
    pub within : i < length (places_below sizes count area)
    pub is : (d : SlotPlace) → get_or (places_below sizes count area) i d ≡ place
    pub page : ℕ
    pub inside : IsInPage sizes page place.position (sizes.width place.table)

  -- what is given as the i-th place stands there
  pub stands_at : (area : Area) (i : ℕ) (place : SlotPlace) → i < length (places_below sizes count area) → ((d : SlotPlace) → get_or (places_below sizes count area) i d ≡ place) → StandsAt area i place
  stands_at area i place within is =
      let sits = place_in_page sizes sound count area i place within in
      record { within = within; is = is; page = sits.page; inside = subst (λ p. IsInPage sizes sits.page p.position (sizes.width p.table)) (is place) sits.inside }

  -- the slot at a place once its first bytes are these
  abbrev pub slot_after : Area → SlotPlace → List ℕ → TableSlot
  slot_after area place bytes = (place.table, overwritten bytes (bytes_at area place.position (sizes.width place.table)))

  in_page : (area : Area) (i : ℕ) (place : SlotPlace) (bytes : List ℕ) (at : StandsAt area i place) → length bytes ≤ sizes.width place.table → IsInPage sizes at.page place.position (length bytes)
  in_page area i place bytes at short = record { low = at.inside.low; high = (let h = at.inside.high in omega arith); real = at.inside.real }

  pub written : (area : Area) (i : ℕ) (place : SlotPlace) (bytes : List ℕ) → StandsAt area i place → length bytes ≤ sizes.width place.table
      → slots_below sizes count (put_at place.position bytes area) ≡ set (slots_below sizes count area) i (slot_after area place bytes)
  written area i place bytes at short =
      subst (λ p. length bytes ≤ sizes.width p.table → IsInPage sizes at.page p.position (length bytes)
      → slots_below sizes count (put_at p.position bytes area) ≡ set (slots_below sizes count area) i (slot_after area p bytes))
      (at.is place) (slot_written sizes sound count area at.page i place bytes at.within) short (in_page area i place bytes at short)

  -- a write leaves all places
  pub places_after : (area : Area) (i : ℕ) (place : SlotPlace) (bytes : List ℕ) → StandsAt area i place → length bytes ≤ sizes.width place.table → places_below sizes count (put_at place.position bytes area) ≡ places_below sizes count area
  places_after area i place bytes at short = places_stand sizes count area at.page place.position bytes (in_page area i place bytes at short)

  module _ {K V : Type 0} {R : K → K → Ordering} (read : TableSlot → Option (K × V)) where
    -- a write into a slot that said nothing and says nothing leaves the tables
    pub silent : (area : Area) (i : ℕ) (place : SlotPlace) (bytes : List ℕ) (d : TableSlot) → StandsAt area i place → length bytes ≤ sizes.width place.table
        → read (get_or (slots_below sizes count area) i d) ≡ None → read (slot_after area place bytes) ≡ None
        → tables_below {R = R} sizes count read (put_at place.position bytes area) ≡ tables_below sizes count read area
    silent area i place bytes d at short old new =
        ap (λ slots. finite.from_entries {R = R} (filter_map read slots)) (written area i place bytes at short)
        ∙ ap (finite.from_entries {R = R}) (silent_set read (slots_below sizes count area) i (slot_after area place bytes) d old new)

    -- nor does a new page change them
    pub page_made : (old new : Area) (table : ℕ) → IsNewPage count table old new → read (blank_slot sizes table) ≡ None → tables_below {R = R} sizes (count + 1) read new ≡ tables_below sizes count read old
    page_made old new table is free =
        ap (λ slots. finite.from_entries {R = R} (filter_map read slots)) (page_added sizes sound count old new table is)
        ∙ ap (finite.from_entries {R = R}) (free_behind read (slots_below sizes count old) (replicate (sizes.count table) (blank_slot sizes table)) (blank_entries read (sizes.count table) (blank_slot sizes table) free))

    -- nor a write into page 0
    pub control_made : (area : Area) (at : ℕ) (bytes : List ℕ) → at + length bytes ≤ 4096 → tables_below {R = R} sizes count read (put_at at bytes area) ≡ tables_below sizes count read area
    control_made area at bytes low = ap (λ slots. finite.from_entries {R = R} (filter_map read slots)) (control_written sizes count area at bytes low)

    module _ (o : IsTotalOrder R) where
      has_key : (k : K) (value : Option V) → HasKey R k (entry_with k value)
      has_key k None = tt
      has_key k (Some v) = (eq_by_cmp_equiv o).refl k

      -- a write into a slot that says the key, or nothing, where no other says the key, gives the key its value
      pub step : finite.IsAntisymmetric R → (area : Area) (i : ℕ) (place : SlotPlace) (bytes : List ℕ) (k : K) (value : Option V) → StandsAt area i place → length bytes ≤ sizes.width place.table
          → OnlyAt R read k i (slots_below sizes count area) → read (slot_after area place bytes) ≡ entry_with k value
          → tables_below {R = R} sizes count read (put_at place.position bytes area) ≡ with_value k value (tables_below sizes count read area)
      step exact area i place bytes k None at short only says =
          ap (λ slots. finite.from_entries {R = R} (filter_map read slots)) (written area i place bytes at short)
          ∙ taken_out o read exact k (slot_after area place bytes) i (slots_below sizes count area) only says
      step exact area i place bytes k (Some v) at short only says =
          ap (λ slots. finite.from_entries {R = R} (filter_map read slots)) (written area i place bytes at short)
          ∙ put_in o read exact k v (slot_after area place bytes) i (slots_below sizes count area) only says

      -- and keys stay unique
      pub step_unique : (area : Area) (i : ℕ) (place : SlotPlace) (bytes : List ℕ) (k : K) (value : Option V) → StandsAt area i place → length bytes ≤ sizes.width place.table
          → OnlyAt R read k i (slots_below sizes count area) → read (slot_after area place bytes) ≡ entry_with k value → AreUnique R read (slots_below sizes count area)
          → AreUnique R read (slots_below sizes count (put_at place.position bytes area))
      step_unique area i place bytes k value at short only says unique =
          subst (AreUnique R read) (sym (written area i place bytes at short))
          (unique_after o read k (slot_after area place bytes) i (slots_below sizes count area) only (subst (HasKey R k) (sym says) (has_key k value)) unique)

      -- ranges that make changes make one more with one range more that is a step
      pub one_more_made : finite.IsAntisymmetric R → (pages : Area) (ranges : List Range) (changes : List (K × Option V)) (i : ℕ) (place : SlotPlace) (bytes : List ℕ) (k : K) (value : Option V)
          → Makes sizes read R changes ranges count pages → StandsAt (with_ranges ranges pages) i place → length bytes ≤ sizes.width place.table
          → OnlyAt R read k i (slots_below sizes count (with_ranges ranges pages)) → read (slot_after (with_ranges ranges pages) place bytes) ≡ entry_with k value
          → Makes sizes read R (changes ++ (k, value) ∷ []) (ranges ++ record { position = place.position; bytes = bytes } ∷ []) count pages
      one_more_made exact pages ranges changes i place bytes k value made at short only says =
          ap (tables_below sizes count read) (with_ranges-last ranges (record { position = place.position; bytes = bytes }) pages)
          ∙ step exact (with_ranges ranges pages) i place bytes k value at short only says
          ∙ ap (with_value k value) made
          ∙ sym (with_values-last changes (k, value) (tables_of sizes read pages))
