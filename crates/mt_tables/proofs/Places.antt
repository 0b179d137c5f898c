-- The places of the slots in the pages: each begins where the one before it ends, or later, and lies
-- among the slots of one page.
use Rattle.std.proofs.Common.{◌≡◌, ℕ, zero, suc, ◌+◌, ◌-◌, ◌*◌, ◌<◌, ◌≤◌, List, [], ◌∷◌, ◌++◌, length, map, flat_map, get_or, refl, ap, ◌∙◌, arith, add-one}
use Rattle.std.specs.List.{range_with_len}
use Rattle.std.proofs.Math.Nat.{mul-suc, mul-le-mul_left}
use Rattle.mt_journal.specs.Layout.{Area}
use Rattle.mt_tables.specs.Pages.{AreSlotSizes, SlotPlace, SlotSizes, page_places, place_in, places_below, slot_position, table_at}

module _ (sizes : SlotSizes) where
  -- where the slot at a place ends
  abbrev pub end_of : SlotPlace → ℕ
  end_of place = place.position + sizes.width place.table

  -- each place begins at m or later
  abbrev pub AllFrom : ℕ → List SlotPlace → Type 0
  AllFrom m [] = Unit {0}
  AllFrom m (place ∷ places) = (m ≤ place.position) × AllFrom m places

  -- each slot ends at m at the latest
  abbrev pub AllUpto : ℕ → List SlotPlace → Type 0
  AllUpto m [] = Unit {0}
  AllUpto m (place ∷ places) = (end_of place ≤ m) × AllUpto m places

  -- no slot begins before an earlier one ends
  abbrev pub AreRising : List SlotPlace → Type 0
  AreRising [] = Unit {0}
  AreRising (place ∷ places) = AllFrom (end_of place) places × AreRising places

  pub next_position : (width page i : ℕ) → slot_position width page (i + 1) ≡ slot_position width page i + width
  next_position width page i = let e : width * (i + 1) ≡ width * i + width = rw add-one (mul-suc width i) in omega arith

  later_position : (width page i j : ℕ) → i ≤ j → slot_position width page i ≤ slot_position width page j
  later_position width page i j up = let h : width * i ≤ width * j = mul-le-mul_left width up in omega arith

  -- so many places of a page, from one on
  abbrev pub run_of : ℕ → ℕ → ℕ → ℕ → List SlotPlace
  run_of table page i n = map (place_in sizes table page) (range_with_len i n)

  pub length-run_of : (table page i n : ℕ) → length (run_of table page i n) ≡ n
  length-run_of table page i zero = refl
  length-run_of table page i (suc n) = ap suc (length-run_of table page (i + 1) n)

  pub run_of-at : (table page i n j : ℕ) (d : SlotPlace) → j < n → get_or (run_of table page i n) j d ≡ place_in sizes table page (i + j)
  run_of-at table page i zero j d within = absurd (omega arith)
  run_of-at table page i (suc n) zero d within = ap (place_in sizes table page) (omega arith)
  run_of-at table page i (suc n) (suc j) d within = run_of-at table page (i + 1) n j d (omega arith) ∙ ap (place_in sizes table page) (omega arith)

  pub run_from : (table page m i n : ℕ) → m ≤ slot_position (sizes.width table) page i → AllFrom m (run_of table page i n)
  run_from table page m i zero low = tt
  run_from table page m i (suc n) low = let next = next_position (sizes.width table) page i in (low, run_from table page m (i + 1) n (omega arith))

  run_rises : (table page i n : ℕ) → AreRising (run_of table page i n)
  run_rises table page i zero = tt
  run_rises table page i (suc n) =
      let next = next_position (sizes.width table) page i in
      (run_from table page (slot_position (sizes.width table) page i + sizes.width table) (i + 1) n (omega arith), run_rises table page (i + 1) n)

  run_upto : (table page m i n : ℕ) → slot_position (sizes.width table) page (i + n) ≤ m → AllUpto m (run_of table page i n)
  run_upto table page m i zero high = tt
  run_upto table page m i (suc n) high =
      let next = next_position (sizes.width table) page i in
      let up = later_position (sizes.width table) page (i + 1) (i + suc n) (omega arith) in
      let again : slot_position (sizes.width table) page (i + 1 + n) ≡ slot_position (sizes.width table) page (i + suc n) = ap (slot_position (sizes.width table) page) (omega arith) in
      (omega arith, run_upto table page m (i + 1) n (omega arith))

  -- all slots of a page end within it
  pub run_ends : AreSlotSizes sizes → (table page : ℕ) → AllUpto (4096 * page + 4096) (run_of table page 0 (sizes.count table))
  run_ends sound table page =
      let within = sound.within table in
      let e : sizes.width table * (0 + sizes.count table) ≡ sizes.width table * sizes.count table = ap (λ n. sizes.width table * n) (omega arith) in
      run_upto table page (4096 * page + 4096) 0 (sizes.count table) (omega arith)

  from_append : (m : ℕ) (xs ys : List SlotPlace) → AllFrom m xs → AllFrom m ys → AllFrom m (xs ++ ys)
  from_append m [] ys one two = two
  from_append m (x ∷ xs) ys one two = (one.0, from_append m xs ys one.1 two)

  pub from_less : (m n : ℕ) (xs : List SlotPlace) → n ≤ m → AllFrom m xs → AllFrom n xs
  from_less m n [] less from = tt
  from_less m n (x ∷ xs) less from = let f = from.0 in (omega arith, from_less m n xs less from.1)

  upto_append : (m : ℕ) (xs ys : List SlotPlace) → AllUpto m xs → AllUpto m ys → AllUpto m (xs ++ ys)
  upto_append m [] ys one two = two
  upto_append m (x ∷ xs) ys one two = (one.0, upto_append m xs ys one.1 two)

  upto_more : (m n : ℕ) (xs : List SlotPlace) → m ≤ n → AllUpto m xs → AllUpto n xs
  upto_more m n [] more upto = tt
  upto_more m n (x ∷ xs) more upto = let u = upto.0 in (omega arith, upto_more m n xs more upto.1)

  rising_append : (m : ℕ) (xs ys : List SlotPlace) → AreRising xs → AllUpto m xs → AllFrom m ys → AreRising ys → AreRising (xs ++ ys)
  rising_append m [] ys rise upto from more = more
  rising_append m (x ∷ xs) ys rise upto from more =
      let u = upto.0 in
      (from_append (end_of x) xs ys rise.0 (from_less m (end_of x) ys u from), rising_append m xs ys rise.1 upto.1 from more)

  page_low : (area : Area) (page : ℕ) → AllFrom (4096 * page + 8) (page_places sizes area page)
  page_low area page = run_from (table_at area page) page (4096 * page + 8) 0 (sizes.count (table_at area page)) (omega arith)

  page_high : AreSlotSizes sizes → (area : Area) (page : ℕ) → AllUpto (4096 * page + 4096) (page_places sizes area page)
  page_high sound area page = run_ends sound (table_at area page) page

  -- the places of so many pages, from one on
  abbrev pub pages_places : Area → ℕ → ℕ → List SlotPlace
  pages_places area first n = flat_map (page_places sizes area) (range_with_len first n)

  pub pages_low : (area : Area) (m first n : ℕ) → m ≤ first → AllFrom (4096 * m + 8) (pages_places area first n)
  pages_low area m first zero low = tt
  pages_low area m first (suc n) low =
      from_append (4096 * m + 8) (page_places sizes area first) (pages_places area (first + 1) n)
      (from_less (4096 * first + 8) (4096 * m + 8) (page_places sizes area first) (omega arith) (page_low area first)) (pages_low area m (first + 1) n (omega arith))

  pub pages_high : AreSlotSizes sizes → (area : Area) (m first n : ℕ) → first + n ≤ m → AllUpto (4096 * m) (pages_places area first n)
  pages_high sound area m first zero high = tt
  pages_high sound area m first (suc n) high =
      upto_append (4096 * m) (page_places sizes area first) (pages_places area (first + 1) n)
      (upto_more (4096 * first + 4096) (4096 * m) (page_places sizes area first) (omega arith) (page_high sound area first)) (pages_high sound area m (first + 1) n (omega arith))

  pages_rise : AreSlotSizes sizes → (area : Area) (first n : ℕ) → AreRising (pages_places area first n)
  pages_rise sound area first zero = tt
  pages_rise sound area first (suc n) =
      rising_append (4096 * first + 4096) (page_places sizes area first) (pages_places area (first + 1) n)
      (run_rises (table_at area first) first 0 (sizes.count (table_at area first))) (page_high sound area first)
      (from_less (4096 * (first + 1) + 8) (4096 * first + 4096) (pages_places area (first + 1) n) (omega arith) (pages_low area (first + 1) (first + 1) n (omega arith)))
      (pages_rise sound area (first + 1) n)

  pub places_rise : AreSlotSizes sizes → (count : ℕ) (area : Area) → AreRising (places_below sizes count area)
  places_rise sound count area = pages_rise sound area 1 (count - 1)

  pub from_get_or : (m : ℕ) (places : List SlotPlace) (i : ℕ) (d : SlotPlace) → AllFrom m places → i < length places → m ≤ (get_or places i d).position
  from_get_or m [] i d from within = absurd (omega arith)
  from_get_or m (place ∷ places) zero d from within = from.0
  from_get_or m (place ∷ places) (suc i) d from within = from_get_or m places i d from.1 (omega arith)

  pub upto_get_or : (m : ℕ) (places : List SlotPlace) (i : ℕ) (d : SlotPlace) → AllUpto m places → i < length places → end_of (get_or places i d) ≤ m
  upto_get_or m [] i d upto within = absurd (omega arith)
  upto_get_or m (place ∷ places) zero d upto within = upto.0
  upto_get_or m (place ∷ places) (suc i) d upto within = upto_get_or m places i d upto.1 (omega arith)

  -- an earlier slot ends before a later one begins
  pub rising_apart : (places : List SlotPlace) (i j : ℕ) (d : SlotPlace) → AreRising places → i < j → j < length places → end_of (get_or places i d) ≤ (get_or places j d).position
  rising_apart [] i j d rise less within = absurd (omega arith)
  rising_apart (place ∷ places) i zero d rise less within = absurd (omega arith)
  rising_apart (place ∷ places) zero (suc j) d rise less within = from_get_or (end_of place) places j d rise.0 (omega arith)
  rising_apart (place ∷ places) (suc i) (suc j) d rise less within = rising_apart places i j d rise.1 (omega arith) (omega arith)

  -- so many bytes from a position lie among the slots of a page
  pub record IsInPage (page at n : ℕ) : Type 0 where
    pub low : 4096 * page + 8 ≤ at
    pub high : at + n ≤ 4096 * page + 4096
    pub real : 1 ≤ page

  -- a slot lies among those of some page
  pub record IsInSomePage (place : SlotPlace) : Type 0 where
    pub page : ℕ
    pub inside : IsInPage page place.position (sizes.width place.table)

  abbrev AllInPages : List SlotPlace → Type 0
  AllInPages [] = Unit {0}
  AllInPages (place ∷ places) = IsInSomePage place × AllInPages places

  in_one_page : (page : ℕ) (places : List SlotPlace) → 1 ≤ page → AllFrom (4096 * page + 8) places → AllUpto (4096 * page + 4096) places → AllInPages places
  in_one_page page [] real from upto = tt
  in_one_page page (place ∷ places) real from upto =
      (record { page = page; inside = record { low = from.0; high = upto.0; real = real } }, in_one_page page places real from.1 upto.1)

  in_pages_append : (xs ys : List SlotPlace) → AllInPages xs → AllInPages ys → AllInPages (xs ++ ys)
  in_pages_append [] ys one two = two
  in_pages_append (x ∷ xs) ys one two = (one.0, in_pages_append xs ys one.1 two)

  all_in_pages : AreSlotSizes sizes → (area : Area) (first n : ℕ) → 1 ≤ first → AllInPages (pages_places area first n)
  all_in_pages sound area first zero real = tt
  all_in_pages sound area first (suc n) real =
      in_pages_append (page_places sizes area first) (pages_places area (first + 1) n)
      (in_one_page first (page_places sizes area first) real (page_low area first) (page_high sound area first)) (all_in_pages sound area (first + 1) n (omega arith))

  one_in_pages : (places : List SlotPlace) (i : ℕ) (d : SlotPlace) → AllInPages places → i < length places → IsInSomePage (get_or places i d)
  one_in_pages [] i d all within = absurd (omega arith)
  one_in_pages (place ∷ places) zero d all within = all.0
  one_in_pages (place ∷ places) (suc i) d all within = one_in_pages places i d all.1 (omega arith)

  pub place_in_page : AreSlotSizes sizes → (count : ℕ) (area : Area) (i : ℕ) (d : SlotPlace) → i < length (places_below sizes count area) → IsInSomePage (get_or (places_below sizes count area) i d)
  place_in_page sound count area i d within = one_in_pages (places_below sizes count area) i d (all_in_pages sound area 1 (count - 1) (omega arith)) within
