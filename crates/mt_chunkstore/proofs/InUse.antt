-- The slots in use of a table, page by page.
use Rattle.std.proofs.Common.{◌≡◌, ℕ, zero, suc, ◌+◌, ◌-◌, ◌*◌, ◌<◌, ◌≤◌, ◌&&◌, Bool, true, false, cond, not, nat_eq, List, [], ◌∷◌, ◌++◌, length, map, flat_map, filter, count_by, drop, slice_index, Option, None, Some, refl, sym, ap, ◌∙◌, arith}
use Rattle.std.specs.List.{range_with_len}
use Rattle.std.proofs.Math.Nat.{div-le_self}
use Rattle.std.proofs.lemmas.Bool.Decides.{nat_tests}
use Rattle.std.proofs.lemmas.List.{map-append, append-nil}
use Rattle.std.proofs.lemmas.List.Elements.{filter-append}
use Rattle.std.proofs.lemmas.List.Filters.{length-filter_both}
use Rattle.std.proofs.lemmas.List.FromFn.{map-range_with_len_more, get_or-map-range_with_len}
use Rattle.std.proofs.lemmas.List.Sums.{count_by-le-length, sum_by-append, sum_by-cons, length-filter}
use Rattle.std.proofs.lemmas.Grind.{flat_map-append}
use Rattle.byteorder.specs.Endian.{little_number}
use Rattle.mt_journal.specs.Layout.{Area, number_at}
use Rattle.mt_rowfile.specs.Layouts.{slot_width, slots_per_page}
use Rattle.mt_rowfile.specs.Pages.{free_slots, is_free, slots_in}
use Rattle.mt_rowfile.specs.declared.layout.Layout.{Layout}
use Rattle.mt_tables.specs.Pages.{bytes_at, page_places, places_below, table_at}
use Rattle.mt_tables.specs.Rows.{KnownLayouts, layout_of, sizes_of, width_by}
use Rattle.mt_tables.specs.Rows as rows
use Rattle.mt_tables.specs.Tables.{TableSlot, slot_at, slots_below}
use Rattle.mt_tables.proofs.PageSlots.{page_slots}
use Rattle.mt_tables.proofs.Sizes.{sizes_sound}
use Rattle.mt_directory.specs.Directory.{directory_of, listed_table}
use Rattle.mt_chunkstore.specs.Found.{used_by, used_on}
use Rattle.mt_staging.specs.Group.{used_in}

-- whether a slot of a table is in use
abbrev pub is_used : ℕ → TableSlot → Bool
is_used table slot = nat_eq slot.0 table && not (is_free slot.1)

count_of-append : {X : Type 0} (p : X → Bool) (xs ys : List X) → count_by p (xs ++ ys) ≡ count_by p xs + count_by p ys
count_of-append p xs ys = sum_by-append (λ x. cond (p x) 1 0) xs ys

-- what is counted of the slots of one table
count_marks : (table t : ℕ) (b : Bool) → nat_eq table t ≡ b → (slots : List (List ℕ))
    → count_by (is_used t) (map (λ bytes. (table, bytes)) slots) ≡ cond b (count_by (λ slot. not (is_free slot)) slots) 0
count_marks table t true is [] = refl
count_marks table t false is [] = refl
count_marks table t true is (slot ∷ slots) =
    sum_by-cons (λ x. cond (is_used t x) 1 0) (table, slot) (map (λ bytes. (table, bytes)) slots)
    ∙ ap (λ c. cond (c && not (is_free slot)) 1 0 + count_by (is_used t) (map (λ bytes. (table, bytes)) slots)) is
    ∙ ap (λ n. cond (not (is_free slot)) 1 0 + n) (count_marks table t true is slots)
    ∙ sym (sum_by-cons (λ x. cond (not (is_free x)) 1 0) slot slots)
count_marks table t false is (slot ∷ slots) =
    let parts : count_by (is_used t) ((table, slot) ∷ map (λ bytes. (table, bytes)) slots) ≡ 0 + count_by (is_used t) (map (λ bytes. (table, bytes)) slots) =
    sum_by-cons (λ x. cond (is_used t x) 1 0) (table, slot) (map (λ bytes. (table, bytes)) slots)
    ∙ ap (λ c. cond (c && not (is_free slot)) 1 0 + count_by (is_used t) (map (λ bytes. (table, bytes)) slots)) is in
    let rest = count_marks table t false is slots in
    omega (arith, parts, rest)

length-slots_in : (width count : ℕ) (bytes : List ℕ) → length (slots_in width count bytes) ≡ count
length-slots_in width zero bytes = refl
length-slots_in width (suc count) bytes = ap suc (length-slots_in width count (drop width bytes))

-- the slots that are not free are what is left of all
count_used : (slots : List (List ℕ)) → count_by (λ slot. not (is_free slot)) slots ≡ length slots - length (filter is_free slots)
count_used slots =
    let both = length-filter_both is_free (λ slot. not (is_free slot)) (λ slot. refl) slots in
    let counted = length-filter (λ slot. not (is_free slot)) slots in
    omega (arith, both, counted)

-- the slots of a page that are in use with a layout
used_marks : (found : Option Layout) (page : List ℕ) → count_by (λ slot. not (is_free slot)) (slots_in (width_by found) (rows.slot_count_by found) (drop 8 page)) ≡ used_by found page
used_marks None page = refl
used_marks (Some layout) page =
    let slots = slots_in (slot_width layout) (slots_per_page layout) (drop 8 page) in
    count_used slots ∙ ap (λ n. n - free_slots layout page) (length-slots_in (slot_width layout) (slots_per_page layout) (drop 8 page))

-- the number in front of a page
pub page_table : (area : Area) (at : ℕ) → little_number 4 (bytes_at area at 4096) ≡ number_at 4 area at
page_table area at = refl

range_more : (a n j : ℕ) → a + n ≡ j → range_with_len a (suc n) ≡ range_with_len a n ++ j ∷ []
range_more a zero j e = let one : a ≡ j = omega arith in ap (λ k. k ∷ []) one
range_more a (suc n) j e = ap (λ l. a ∷ l) (range_more (a + 1) n j (omega arith))

module _ (known : KnownLayouts) (t : ℕ) (area : Area) where
  on_table : (table : ℕ) (page : List ℕ) (b : Bool) → nat_eq table t ≡ b → (b ≡ true → table ≡ t)
      → cond b (used_by (layout_of known table) page) 0 ≡ cond (nat_eq table t) (used_by (layout_of known t) page) 0
  on_table table page true is same = ap (λ k. used_by (layout_of known k) page) (same refl) ∙ ap (λ c. cond c (used_by (layout_of known t) page) 0) (sym is)
  on_table table page false is same = ap (λ c. cond c (used_by (layout_of known t) page) 0) (sym is)

  -- the slots of a page that are in use, by its bytes
  page_used : (n : ℕ) → count_by (is_used t) (map (slot_at (sizes_of known) area) (page_places (sizes_of known) area n)) ≡ used_on known t (bytes_at area (4096 * n) 4096)
  page_used n =
      let table = table_at area n in
      let page = bytes_at area (4096 * n) 4096 in
      let slots = slots_in (width_by (layout_of known table)) (rows.slot_count_by (layout_of known table)) (drop 8 page) in
      let same : nat_eq table t ≡ true → table ≡ t = λ is. grind (arith, nat_tests, is) in
      ap (count_by (is_used t)) (page_slots (sizes_of known) area n ((sizes_sound known).within table))
      ∙ count_marks table t (nat_eq table t) refl slots
      ∙ ap (λ k. cond (nat_eq table t) k 0) (used_marks (layout_of known table) page)
      ∙ on_table table page (nat_eq table t) refl same

  -- one page more
  pub used_more : (n : ℕ) → 1 ≤ n → used_in (sizes_of known) t (n + 1) area ≡ used_in (sizes_of known) t n area + used_on known t (bytes_at area (4096 * n) 4096)
  used_more n some =
      let sizes = sizes_of known in
      let count : n + 1 - 1 ≡ suc (n - 1) = omega arith in
      let places : places_below sizes (n + 1) area ≡ places_below sizes n area ++ page_places sizes area n =
      ap (flat_map (page_places sizes area)) (ap (range_with_len 1) count ∙ range_more 1 (n - 1) n (omega arith))
      ∙ flat_map-append (page_places sizes area) (range_with_len 1 (n - 1)) (n ∷ []) ∙ ap (λ ps. places_below sizes n area ++ ps) (append-nil (page_places sizes area n)) in
      ap (λ ps. count_by (is_used t) (map (slot_at sizes area) ps)) places
      ∙ ap (count_by (is_used t)) (map-append (slot_at sizes area) (places_below sizes n area) (page_places sizes area n))
      ∙ count_of-append (is_used t) (slots_below sizes n area) (map (slot_at sizes area) (page_places sizes area n))
      ∙ ap (λ k. used_in sizes t n area + k) (page_used n)

-- a layout of one table changes no count of another
pub used_elsewhere : (known other : KnownLayouts) (t n : ℕ) (area : Area) → layout_of other t ≡ layout_of known t → used_in (sizes_of other) t n area ≡ used_in (sizes_of known) t n area
used_elsewhere known other t zero area same = refl
used_elsewhere known other t (suc zero) area same = refl
used_elsewhere known other t (suc (suc n)) area same =
    let page = bytes_at area (4096 * suc n) 4096 in
    let next : suc (suc n) ≡ suc n + 1 = omega arith in
    ap (λ k. used_in (sizes_of other) t k area) next ∙ used_more other t area (suc n) (omega arith)
    ∙ ap (λ found. used_in (sizes_of other) t (suc n) area + cond (nat_eq (little_number 4 page) t) (used_by found page) 0) same
    ∙ ap (λ k. k + used_on known t page) (used_elsewhere known other t (suc n) area same)
    ∙ sym (used_more known t area (suc n) (omega arith)) ∙ ap (λ k. used_in (sizes_of known) t k area) (sym next)

-- the directory of one page more
pub directory_more : (n : ℕ) (area : Area) → 1 ≤ n → directory_of (n + 1) area ≡ directory_of n area ++ listed_table (table_at area n) ∷ []
directory_more n area some =
    let listed = λ (page : ℕ). listed_table (table_at area page) in
    let count : n + 1 - 1 ≡ n - 1 + 1 = omega arith in
    ap (λ k. map listed (range_with_len 1 k)) count ∙ map-range_with_len_more listed 1 (n - 1) n (omega arith)

-- the table of a page in it
pub directory_at : (count n : ℕ) (area : Area) → 1 ≤ n → n < count → slice_index (directory_of count area) (n - 1) ≡ listed_table (table_at area n)
directory_at count n area some within = get_or-map-range_with_len (λ (page : ℕ). listed_table (table_at area page)) 1 (count - 1) (n - 1) n 0 (omega arith) (omega arith)

-- what is picked of the numbers from 1 on, with one number more
picked_more : {X : Type 0} (f : ℕ → X) (test : ℕ → Bool) (n : ℕ) → 1 ≤ n → map f (filter test (range_with_len 1 (n + 1 - 1))) ≡ map f (filter test (range_with_len 1 (n - 1))) ++ cond (test n) (f n ∷ []) []
picked_more f test n some =
    let count : n + 1 - 1 ≡ suc (n - 1) = omega arith in
    ap (λ ns. map f (filter test ns)) (ap (range_with_len 1) count ∙ range_more 1 (n - 1) n (omega arith))
    ∙ ap (map f) (filter-append test (range_with_len 1 (n - 1)) (n ∷ []))
    ∙ map-append f (filter test (range_with_len 1 (n - 1))) (filter test (n ∷ []))
    ∙ ap (λ xs. map f (filter test (range_with_len 1 (n - 1))) ++ xs) (by (test n))
  where
    by : (b : Bool) → map f (cond b (n ∷ []) []) ≡ cond b (f n ∷ []) []
    by true = refl
    by false = refl

pub picked_yes : {X : Type 0} (f : ℕ → X) (test : ℕ → Bool) (n : ℕ) → 1 ≤ n → test n ≡ true → map f (filter test (range_with_len 1 (n + 1 - 1))) ≡ map f (filter test (range_with_len 1 (n - 1))) ++ f n ∷ []
picked_yes f test n some passes = picked_more f test n some ∙ ap (λ b. map f (filter test (range_with_len 1 (n - 1))) ++ cond b (f n ∷ []) []) passes

pub picked_no : {X : Type 0} (f : ℕ → X) (test : ℕ → Bool) (n : ℕ) → 1 ≤ n → test n ≡ false → map f (filter test (range_with_len 1 (n + 1 - 1))) ≡ map f (filter test (range_with_len 1 (n - 1)))
picked_no f test n some fails = picked_more f test n some ∙ ap (λ b. map f (filter test (range_with_len 1 (n - 1))) ++ cond b (f n ∷ []) []) fails ∙ append-nil (map f (filter test (range_with_len 1 (n - 1))))

-- no more slots of a page are free than it has
pub free_few : (layout : Layout) (page : List ℕ) → free_slots layout page ≤ slots_per_page layout
free_few layout page =
    let slots = slots_in (slot_width layout) (slots_per_page layout) (drop 8 page) in
    let counted = length-filter is_free slots in
    let few = count_by-le-length is_free slots in
    let size = length-slots_in (slot_width layout) (slots_per_page layout) (drop 8 page) in
    omega (arith, counted, few, size)

-- a page has 4088 slots at most
pub slots_few : (layout : Layout) → slots_per_page layout ≤ 4088
slots_few layout = div-le_self 4088 (slot_width layout)

-- a page has no more slots in use than it has slots
few_by : (found : Option Layout) (page : List ℕ) → used_by found page ≤ 4088
few_by None page = omega arith
few_by (Some layout) page = let h = slots_few layout in omega arith

pub few_on : (known : KnownLayouts) (t : ℕ) (page : List ℕ) → used_on known t page ≤ 4088
few_on known t page = by (nat_eq (little_number 4 page) t) where
  by : (b : Bool) → cond b (used_by (layout_of known t) page) 0 ≤ 4088
  by true = few_by (layout_of known t) page
  by false = omega arith

-- only tables of the database have layouts
pub layout_low : (known : KnownLayouts) (table : ℕ) (layout : Layout) → layout_of known table ≡ Some layout → table ≤ 31
layout_low known table layout is = grind (arith, nat_tests, is)
