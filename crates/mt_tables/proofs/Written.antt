-- What a range, or a new page, does to the slots of the pages.
use Rattle.std.proofs.Common.{◌≡◌, ℕ, zero, suc, ◌+◌, ◌-◌, ◌*◌, ◌<◌, ◌≤◌, Bool, true, false, List, [], ◌∷◌, ◌++◌, length, map, flat_map, get_or, set, replicate, refl, ap, ◌∙◌, inl, inr, arith}
use Rattle.std.specs.List.{range_with_len}
use Rattle.std.specs.Prelude.{nat_lt}
use borrow.Author.Tests.{ltb-true, ltb-false}
use Rattle.std.proofs.lemmas.List.{append-nil, map-append}
use Rattle.std.proofs.lemmas.Grind.{flat_map-append}
use Rattle.mt_journal.specs.Layout.{Area}
use Rattle.mt_tables.specs.Commit.{IsNewPage}
use Rattle.mt_tables.specs.Pages.{AreSlotSizes, SlotPlace, SlotSizes, bytes_at, page_places, place_in, places_below, slot_position, table_at}
use Rattle.mt_tables.specs.Tables.{TableSlot, overwritten, slot_at, slots_below}
use Rattle.mt_tables.proofs.Bytes.{Beside, beside_range, overwrites, put_at, same_bytes, same_number, zero_bytes}
use Rattle.mt_tables.proofs.Places.{AllFrom, AllUpto, AreRising, IsInPage, end_of, from_get_or, from_less, pages_high, pages_low, pages_places, places_rise, run_ends, run_from, run_of}

module _ (sizes : SlotSizes) where
  -- slots behind a range are as before
  slots_behind : (area : Area) (at : ℕ) (bytes : List ℕ) (places : List SlotPlace) → AllFrom sizes (at + length bytes) places → map (slot_at sizes (put_at at bytes area)) places ≡ map (slot_at sizes area) places
  slots_behind area at bytes [] from = refl
  slots_behind area at bytes (p ∷ places) from =
      let f = from.0 in
      rw (same_bytes area (put_at at bytes area) p.position (sizes.width p.table) (beside_range at bytes area p.position (sizes.width p.table) (inr f)), slots_behind area at bytes places from.1) refl

  -- a range at the place of the i-th slot overwrites that one alone
  overwritten_slots : (area : Area) (places : List SlotPlace) (i : ℕ) (d : SlotPlace) (bytes : List ℕ) → AreRising sizes places → i < length places → length bytes ≤ sizes.width (get_or places i d).table
      → map (slot_at sizes (put_at (get_or places i d).position bytes area)) places
      ≡ set (map (slot_at sizes area) places) i ((get_or places i d).table, overwritten bytes (bytes_at area (get_or places i d).position (sizes.width (get_or places i d).table)))
  overwritten_slots area [] i d bytes rise within short = absurd (omega arith)
  overwritten_slots area (p ∷ places) zero d bytes rise within short =
      rw (overwrites area bytes p.position (sizes.width p.table) short, slots_behind area p.position bytes places (from_less sizes (end_of sizes p) (p.position + length bytes) places (omega arith) rise.0)) refl
  overwritten_slots area (p ∷ places) (suc i) d bytes rise within short =
      let at : ℕ = (get_or places i d).position in
      let behind : end_of sizes p ≤ at = from_get_or sizes (end_of sizes p) places i d rise.0 (omega arith) in
      let head : bytes_at (put_at at bytes area) p.position (sizes.width p.table) ≡ bytes_at area p.position (sizes.width p.table) =
      same_bytes area (put_at at bytes area) p.position (sizes.width p.table) (beside_range at bytes area p.position (sizes.width p.table) (inl behind)) in
      rw (head, overwritten_slots area places i d bytes rise.1 (omega arith) short) refl

  -- a range among the slots of a page leaves the heads of all pages
  heads_stand : (area : Area) (page at : ℕ) (bytes : List ℕ) → IsInPage sizes page at (length bytes) → (m : ℕ) → table_at (put_at at bytes area) m ≡ table_at area m
  heads_stand area page at bytes inside m =
      same_number area (put_at at bytes area) (4096 * m) 4 (beside_range at bytes area (4096 * m) 4 (by (nat_lt page m) refl))
    where
      by : (b : Bool) → nat_lt page m ≡ b → Beside (4096 * m) 4 at (length bytes)
      by true e = let less : page < m = ltb-true page m e in let h = inside.high in inr (omega arith)
      by false e = let least : m ≤ page = ltb-false page m e in let l = inside.low in inl (omega arith)

  -- and so the places of the slots
  pub places_stand : (count : ℕ) (area : Area) (page at : ℕ) (bytes : List ℕ) → IsInPage sizes page at (length bytes) → places_below sizes count (put_at at bytes area) ≡ places_below sizes count area
  places_stand count area page at bytes inside = λ i.
      flat_map (λ m. map (place_in sizes (heads_stand area page at bytes inside m i) m) (range_with_len 0 (sizes.count (heads_stand area page at bytes inside m i)))) (range_with_len 1 (count - 1))

  -- a write into the i-th slot replaces it alone
  pub slot_written : AreSlotSizes sizes → (count : ℕ) (area : Area) (page i : ℕ) (d : SlotPlace) (bytes : List ℕ) → i < length (places_below sizes count area)
      → length bytes ≤ sizes.width (get_or (places_below sizes count area) i d).table → IsInPage sizes page (get_or (places_below sizes count area) i d).position (length bytes)
      → slots_below sizes count (put_at (get_or (places_below sizes count area) i d).position bytes area)
      ≡ set (slots_below sizes count area) i ((get_or (places_below sizes count area) i d).table, overwritten bytes (bytes_at area (get_or (places_below sizes count area) i d).position (sizes.width (get_or (places_below sizes count area) i d).table)))
  slot_written sound count area page i d bytes within short inside =
      ap (map (slot_at sizes (put_at (get_or (places_below sizes count area) i d).position bytes area))) (places_stand count area page (get_or (places_below sizes count area) i d).position bytes inside)
      ∙ overwritten_slots area (places_below sizes count area) i d bytes (places_rise sizes sound count area) within short

  range_with_len-last : (first n : ℕ) → range_with_len first (n + 1) ≡ range_with_len first n ++ (first + n) ∷ []
  range_with_len-last first zero = let e : first + 0 ≡ first = omega arith in rw e refl
  range_with_len-last first (suc n) =
      let e : suc n + 1 ≡ suc (n + 1) = omega arith in
      let f : first + suc n ≡ first + 1 + n = omega arith in
      rw (e, f, range_with_len-last (first + 1) n) refl

  -- pages of the same tables have their slots at the same places
  same_places : (old new : Area) (first n : ℕ) → ((m : ℕ) → first ≤ m → m < first + n → table_at new m ≡ table_at old m) → pages_places sizes new first n ≡ pages_places sizes old first n
  same_places old new first zero same = refl
  same_places old new first (suc n) same =
      let head : table_at new first ≡ table_at old first = same first (omega arith) (omega arith) in
      let rest = same_places old new (first + 1) n (λ m low high. same m (omega arith) (omega arith)) in
      λ i. map (place_in sizes (head i) first) (range_with_len 0 (sizes.count (head i))) ++ rest i

  -- slots between two positions are the same where the bytes between them are
  same_slots : (old new : Area) (low high : ℕ) (places : List SlotPlace) → AllFrom sizes low places → AllUpto sizes high places → ((k : ℕ) → low ≤ k → k < high → new k ≡ old k) → map (slot_at sizes new) places ≡ map (slot_at sizes old) places
  same_slots old new low high [] from upto same = refl
  same_slots old new low high (p ∷ places) from upto same =
      let f = from.0 in let u = upto.0 in
      rw (same_bytes old new p.position (sizes.width p.table) (λ k above below. same k (omega arith) (omega arith)), same_slots old new low high places from.1 upto.1 same) refl

  -- a slot that was never used
  abbrev pub blank_slot : ℕ → TableSlot
  blank_slot table = (table, replicate (sizes.width table) 0)

  blank_slots : (area : Area) (low high table page i n : ℕ) → AllFrom sizes low (run_of sizes table page i n) → AllUpto sizes high (run_of sizes table page i n) → ((k : ℕ) → low ≤ k → k < high → area k ≡ 0)
      → map (slot_at sizes area) (run_of sizes table page i n) ≡ replicate n (blank_slot table)
  blank_slots area low high table page i zero from upto free = refl
  blank_slots area low high table page i (suc n) from upto free =
      let f = from.0 in let u = upto.0 in
      rw (zero_bytes area (slot_position (sizes.width table) page i) (sizes.width table) (λ k above below. free k (omega arith) (omega arith)), blank_slots area low high table page (i + 1) n from.1 upto.1 free) refl

  -- a new page adds its places behind all others
  pub places_added : (count : ℕ) (old new : Area) (table : ℕ) → IsNewPage count table old new → places_below sizes (count + 1) new ≡ places_below sizes count old ++ run_of sizes table count 0 (sizes.count table)
  places_added count old new table is =
      let one : 1 ≤ count = is.some in
      let e : count + 1 - 1 ≡ (count - 1) + 1 = omega arith in
      let f : 1 + (count - 1) ≡ count = omega arith in
      let heads : (m : ℕ) → 1 ≤ m → m < 1 + (count - 1) → table_at new m ≡ table_at old m
      = λ m low high. same_number old new (4096 * m) 4 (λ k above below. is.rest k (omega arith) (omega arith)) in
      ap (pages_places sizes new 1) e ∙ ap (flat_map (page_places sizes new)) (range_with_len-last 1 (count - 1))
      ∙ flat_map-append (page_places sizes new) (range_with_len 1 (count - 1)) ((1 + (count - 1)) ∷ [])
      ∙ ap (λ front. front ++ flat_map (page_places sizes new) ((1 + (count - 1)) ∷ [])) (same_places old new 1 (count - 1) heads)
      ∙ ap (λ last. places_below sizes count old ++ last) (append-nil (page_places sizes new (1 + (count - 1))) ∙ ap (page_places sizes new) f ∙ ap (λ t. run_of sizes t count 0 (sizes.count t)) is.head)

  -- and their slots, all of them blank
  pub page_added : AreSlotSizes sizes → (count : ℕ) (old new : Area) (table : ℕ) → IsNewPage count table old new → slots_below sizes (count + 1) new ≡ slots_below sizes count old ++ replicate (sizes.count table) (blank_slot table)
  page_added sound count old new table is =
      let one : 1 ≤ count = is.some in
      let stand : map (slot_at sizes new) (places_below sizes count old) ≡ slots_below sizes count old =
      same_slots old new 4096 (4096 * count) (places_below sizes count old)
      (from_less sizes (4096 * 1 + 8) 4096 (places_below sizes count old) (omega arith) (pages_low sizes old 1 1 (count - 1) (omega arith)))
      (pages_high sizes sound old count 1 (count - 1) (omega arith)) is.rest in
      let fresh : map (slot_at sizes new) (run_of sizes table count 0 (sizes.count table)) ≡ replicate (sizes.count table) (blank_slot table) =
      blank_slots new (4096 * count + 8) (4096 * count + 4096) table count 0 (sizes.count table)
      (run_from sizes table count (4096 * count + 8) 0 (sizes.count table) (omega arith)) (run_ends sizes sound table count) is.free in
      ap (map (slot_at sizes new)) (places_added count old new table is) ∙ map-append (slot_at sizes new) (places_below sizes count old) (run_of sizes table count 0 (sizes.count table))
      ∙ ap (λ front. front ++ map (slot_at sizes new) (run_of sizes table count 0 (sizes.count table))) stand ∙ ap (λ last. slots_below sizes count old ++ last) fresh

  -- a range in page 0 leaves all places
  pub control_places : (count : ℕ) (area : Area) (at : ℕ) (bytes : List ℕ) → at + length bytes ≤ 4096 → places_below sizes count (put_at at bytes area) ≡ places_below sizes count area
  control_places count area at bytes low =
      same_places area (put_at at bytes area) 1 (count - 1) (λ m first last. same_number area (put_at at bytes area) (4096 * m) 4 (beside_range at bytes area (4096 * m) 4 (inr (omega arith))))

  -- and all slots
  pub control_written : (count : ℕ) (area : Area) (at : ℕ) (bytes : List ℕ) → at + length bytes ≤ 4096 → slots_below sizes count (put_at at bytes area) ≡ slots_below sizes count area
  control_written count area at bytes low =
      ap (map (slot_at sizes (put_at at bytes area))) (control_places count area at bytes low)
      ∙ slots_behind area at bytes (places_below sizes count area) (from_less sizes (4096 * 1 + 8) (at + length bytes) (places_below sizes count area) (omega arith) (pages_low sizes area 1 1 (count - 1) (omega arith)))
