-- The slots of one page as a reader of pages meets them, and a walk page by page.
use Rattle.std.proofs.Common.{◌≡◌, ℕ, zero, suc, ◌+◌, ◌-◌, ◌*◌, ◌≤◌, Bool, false, cond, List, [], ◌∷◌, ◌++◌, map, take, drop, Option, None, Some, refl, sym, ap, ◌∙◌, arith, add-one, filter_map, zip, All}
use Rattle.std.specs.List.{cons_option}
use Rattle.std.proofs.Math.Nat.{mul-suc}
use Rattle.std.proofs.lemmas.List.{map-append, take_at}
use Rattle.std.proofs.lemmas.List.Elements.{All-head, All-map, All-tail, filter-append, filter_map-append}
use Rattle.std.proofs.lemmas.List.Sums.{fold-append}
use Rattle.std.specs.declared.cmp.Ordering.{Ordering}
use Rattle.std.specs.FinMap as finite
use Rattle.mt_journal.specs.Layout.{Area}
use Rattle.mt_rowfile.specs.Pages.{slots_in}
use Rattle.mt_tables.specs.Pages.{SlotPlace, SlotSizes, bytes_at, page_places, places_below, slot_position, table_at}
use Rattle.mt_tables.specs.Plan.{placed, placed_in}
use Rattle.mt_tables.specs.Tables.{TableSlot, passing, slot_at, with_entries}
use Rattle.mt_tables.proofs.Bytes.{bytes_at-append, drop-bytes_at, length-bytes_at}
use Rattle.mt_tables.proofs.Places.{pages_places, run_of}

-- the front of bytes
take-bytes_at : (area : Area) (at n m : ℕ) → take n (bytes_at area at (n + m)) ≡ bytes_at area at n
take-bytes_at area at n m = ap (take n) (bytes_at-append area at n m) ∙ take_at (bytes_at area at n) (bytes_at area (at + n) m) n (length-bytes_at area at n)

-- so many slots of a table are the parts of the bytes that they stand in
run_slots : (sizes : SlotSizes) (area : Area) (table page i n rest : ℕ) → map (slot_at sizes area) (run_of sizes table page i n)
    ≡ map (λ bytes. (table, bytes)) (slots_in (sizes.width table) n (bytes_at area (slot_position (sizes.width table) page i) (sizes.width table * n + rest)))
run_slots sizes area table page i zero rest = refl
run_slots sizes area table page i (suc n) rest =
    let width = sizes.width table in
    let at = slot_position width page i in
    let more = width * n + rest in
    let size : width * suc n + rest ≡ width + more = (let e : width * suc n ≡ width * n + width = mul-suc width n in omega arith) in
    let next : at + width ≡ slot_position width page (i + 1) = (let e : width * (i + 1) ≡ width * i + width = rw add-one (mul-suc width i) in omega arith) in
    let first : bytes_at area at width ≡ take width (bytes_at area at (width * suc n + rest)) = sym (ap (λ k. take width (bytes_at area at k)) size ∙ take-bytes_at area at width more) in
    let behind : bytes_at area (slot_position width page (i + 1)) more ≡ drop width (bytes_at area at (width * suc n + rest)) =
    sym (ap (λ k. drop width (bytes_at area at k)) size ∙ drop-bytes_at area at width more ∙ ap (λ k. bytes_at area k more) next) in
    λ j. (table, first j) ∷ (run_slots sizes area table page (i + 1) n rest ∙ ap (λ bytes. map (λ b. (table, b)) (slots_in width n bytes)) behind) j

-- the slots of a page are the parts of its bytes behind the head
pub page_slots : (sizes : SlotSizes) (area : Area) (page : ℕ) → sizes.width (table_at area page) * sizes.count (table_at area page) + 8 ≤ 4096
    → map (slot_at sizes area) (page_places sizes area page) ≡ map (λ bytes. (table_at area page, bytes)) (slots_in (sizes.width (table_at area page)) (sizes.count (table_at area page)) (drop 8 (bytes_at area (4096 * page) 4096)))
page_slots sizes area page within =
    let table = table_at area page in
    let width = sizes.width table in
    let count = sizes.count table in
    let rest = 4088 - width * count in
    let size : width * count + rest ≡ 4088 = omega arith in
    let body : bytes_at area (slot_position width page 0) (width * count + rest) ≡ drop 8 (bytes_at area (4096 * page) 4096) =
    (let start : slot_position width page 0 ≡ 4096 * page + 8 = omega arith in
    ap (λ k. bytes_at area k (width * count + rest)) start ∙ ap (bytes_at area (4096 * page + 8)) size ∙ sym (drop-bytes_at area (4096 * page) 8 4088)) in
    run_slots sizes area table page 0 count rest ∙ ap (λ bytes. map (λ b. (table, b)) (slots_in width count bytes)) body

-- a walk over slots in two parts
pub walk_then : {S K V : Type 0} {R : K → K → Ordering} (read : S → Option (K × V)) (test : K → Bool) (xs ys : List S) (found : finite.FinMap R V)
    → with_entries (passing test (filter_map read (xs ++ ys))) found ≡ with_entries (passing test (filter_map read ys)) (with_entries (passing test (filter_map read xs)) found)
walk_then read test xs ys found =
    ap (λ es. with_entries es found) (ap (passing test) (filter_map-append read xs ys) ∙ filter-append (λ e. test e.0) (filter_map read xs) (filter_map read ys))
    ∙ fold-append (λ tables e. finite.insert tables e.0 e.1) found (passing test (filter_map read xs)) (passing test (filter_map read ys))

-- slots of a table
pub slots_of_table : (table : ℕ) (slots : List (List ℕ)) → All (λ (slot : TableSlot). slot.0 ≡ table) (map (λ bytes. (table, bytes)) slots)
slots_of_table table slots = All-map (λ (slot : TableSlot). slot.0 ≡ table) (λ bytes. (table, bytes)) slots (λ i d within. refl)

-- what slots of a table say whose keys do not pass is not found
pub walk_elsewhere : {K V : Type 0} {R : K → K → Ordering} (read : TableSlot → Option (K × V)) (table_of : K → ℕ) (test : K → Bool) (table : ℕ) → ((slot : TableSlot) (e : K × V) → read slot ≡ Some e → table_of e.0 ≡ slot.0)
    → ((key : K) → table_of key ≡ table → test key ≡ false) → (slots : List TableSlot) → All (λ slot. slot.0 ≡ table) slots → (found : finite.FinMap R V) → with_entries (passing test (filter_map read slots)) found ≡ found
walk_elsewhere read table_of test table of_table fails [] all found = refl
walk_elsewhere {K} {V} {R} read table_of test table of_table fails (slot ∷ slots) all found = by (read slot) refl (walk_elsewhere read table_of test table of_table fails slots (All-tail (λ slot. slot.0 ≡ table) slot slots all))
  where
    by : (e : Option (K × V)) → read slot ≡ e → ((more : finite.FinMap R V) → with_entries (passing test (filter_map read slots)) more ≡ more) → with_entries (passing test (cons_option e (filter_map read slots))) found ≡ found
    by None is rest = rest found
    by (Some e) is rest = ap (λ b. with_entries (cond b (e ∷ passing test (filter_map read slots)) (passing test (filter_map read slots))) found) (fails e.0 (of_table slot e is ∙ All-head (λ slot. slot.0 ≡ table) slot slots all)) ∙ rest found

-- slots that say nothing add no entry
pub walk_silent : {S K V : Type 0} {R : K → K → Ordering} (read : S → Option (K × V)) (test : K → Bool) (slots : List S) → All (λ slot. read slot ≡ None) slots → (found : finite.FinMap R V) → with_entries (passing test (filter_map read slots)) found ≡ found
walk_silent read test [] all found = refl
walk_silent read test (slot ∷ slots) all found = ap (λ e. with_entries (passing test (cons_option e (filter_map read slots))) found) (All-head (λ slot. read slot ≡ None) slot slots all)
    ∙ walk_silent read test slots (All-tail (λ slot. read slot ≡ None) slot slots all) found

-- the slots of a page and of those behind it
pub pages_slots : (sizes : SlotSizes) (area : Area) (first n : ℕ) → map (slot_at sizes area) (pages_places sizes area first (suc n)) ≡ map (slot_at sizes area) (page_places sizes area first) ++ map (slot_at sizes area) (pages_places sizes area (first + 1) n)
pages_slots sizes area first n = map-append (slot_at sizes area) (page_places sizes area first) (pages_places sizes area (first + 1) n)

beside_slots : (sizes : SlotSizes) (area : Area) (places : List SlotPlace) → placed sizes area places ≡ zip places (map (slot_at sizes area) places)
beside_slots sizes area [] = refl
beside_slots sizes area (place ∷ places) = ap (λ slots. (place, slot_at sizes area place) ∷ slots) (beside_slots sizes area places)

-- the same with the places of the slots
pub placed_page : (sizes : SlotSizes) (area : Area) (page : ℕ) → sizes.width (table_at area page) * sizes.count (table_at area page) + 8 ≤ 4096
    → placed sizes area (page_places sizes area page) ≡ placed_in sizes (table_at area page) page (bytes_at area (4096 * page) 4096)
placed_page sizes area page within = beside_slots sizes area (page_places sizes area page) ∙ ap (zip (page_places sizes area page)) (page_slots sizes area page within)

pub placed_pages : (sizes : SlotSizes) (area : Area) (first n : ℕ) → placed sizes area (pages_places sizes area first (suc n)) ≡ placed sizes area (page_places sizes area first) ++ placed sizes area (pages_places sizes area (first + 1) n)
placed_pages sizes area first n = map-append (λ place. (place, slot_at sizes area place)) (page_places sizes area first) (pages_places sizes area (first + 1) n)

-- the walk goes from page 1 to the last one
pub placed_all : (sizes : SlotSizes) (count : ℕ) (area : Area) → placed sizes area (places_below sizes count area) ≡ placed sizes area (pages_places sizes area 1 (count - 1))
placed_all sizes count area = refl

pub placed_none : (sizes : SlotSizes) (area : Area) (first : ℕ) → placed sizes area (pages_places sizes area first 0) ≡ []
placed_none sizes area first = refl
