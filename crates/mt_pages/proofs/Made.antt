-- The ranges of a new page make it, and count it.
use Rattle.std.proofs.Common.{◌≡◌, ℕ, ◌+◌, ◌-◌, ◌*◌, ◌^◌, ◌<◌, ◌≤◌, max, List, [], ◌∷◌, ◌++◌, length, replicate, slice_index, get_or, refl, sym, ap, subst, ◌∙◌, inl, inr, arith, length-append}
use Rattle.std.proofs.lemmas.Bool.Decides.{nat_tests}
use Rattle.std.proofs.lemmas.List.{get_or-append-add, get_or-append_right, get_or-replicate, get_or_append_left, length-replicate}
use Rattle.byteorder.specs.Endian.{little_bytes}
use Rattle.byteorder.specs.Numbers.{length-bytes_low_first}
use Rattle.mt_journal.specs.Layout.{Area, StandAt, number_at}
use Rattle.mt_journal.specs.Replay.{with_ranges}
use Rattle.mt_journal.proofs.Numbers.{number_stands}
use Rattle.mt_tables.specs.Commit.{IsNewPage}
use Rattle.mt_tables.specs.Pages.{page_count, table_at}
use Rattle.mt_tables.proofs.Bytes.{Beside, before_range, behind_range, beside_range, in_range, put_at, same_number}
use Rattle.mt_pages.specs.Control.{control_bytes, magic, page_bytes, page_ranges}

-- a front and a back of bytes that stand
stand_front : (area : Area) (at : ℕ) (xs ys : List ℕ) → StandAt area at (xs ++ ys) → StandAt area at xs
stand_front area at xs ys stand k within = stand k (let l = length-append xs ys in omega (arith, within, l)) ∙ get_or_append_left xs ys 0 k within

stand_back : (area : Area) (at n : ℕ) (xs ys : List ℕ) → length xs ≡ n → StandAt area at (xs ++ ys) → StandAt area (at + n) ys
stand_back area at n xs ys size stand k within =
    ap area (omega arith) ∙ stand (n + k) (let l = length-append xs ys in omega (arith, within, l, size))
    ∙ ap (λ (i : ℕ). get_or (xs ++ ys) (i + k) 0) (sym size) ∙ get_or-append-add xs ys k 0

length-control_bytes : (count : ℕ) → length (control_bytes count) ≡ 20
unfolding magic
length-control_bytes count =
    omega (arith, length-append (little_bytes 4 1) (little_bytes 8 count), length-bytes_low_first 0 4 1, length-bytes_low_first 0 8 count)

-- the pages that page 0 then counts
pub counted_then : (count : ℕ) (area : Area) → 1 ≤ count → count ≤ 2 ^ 28 → page_count (put_at 0 (control_bytes count) area) ≡ count
unfolding magic
counted_then count area some few =
    let new = put_at 0 (control_bytes count) area in
    let all : StandAt new 0 (control_bytes count) = in_range 0 (control_bytes count) area in
    let behind : StandAt new 8 (little_bytes 4 1 ++ little_bytes 8 count) = stand_back new 0 8 magic (little_bytes 4 1 ++ little_bytes 8 count) refl all in
    let number : StandAt new 12 (little_bytes 8 count) = stand_back new 8 4 (little_bytes 4 1) (little_bytes 8 count) (length-bytes_low_first 0 4 1) behind in
    let said : number_at 8 new 12 ≡ count = number_stands 8 new 12 count (omega (arith, few)) number in
    ap (max 1) said ∙ one_at_least count some
  where
    one_at_least : (n : ℕ) → 1 ≤ n → max 1 n ≡ n
    one_at_least n some = grind (arith, nat_tests, some)

length-page_bytes : (table : ℕ) → length (page_bytes table) ≡ 4096
length-page_bytes table = omega (arith, length-append (little_bytes 4 table) (replicate 4092 0), length-bytes_low_first 0 4 table, length-replicate {A = ℕ} 4092 0)

-- the page is put behind the others
pub new_page : (old : Area) (table count : ℕ) → table < 2 ^ 32 → 1 ≤ count → IsNewPage count table old (with_ranges (page_ranges table count) old)
new_page old table count small some =
    let page = put_at (4096 * count) (page_bytes table) old in
    let new = put_at 0 (control_bytes (count + 1)) page in
    let control = length-control_bytes (count + 1) in
    let size = length-page_bytes table in
    let stand : StandAt page (4096 * count) (little_bytes 4 table) = stand_front page (4096 * count) (little_bytes 4 table) (replicate 4092 0) (in_range (4096 * count) (page_bytes table) old) in
    let head : table_at page count ≡ table = number_stands 4 page (4096 * count) table (omega (arith, small)) stand in
    record {
      some = some;
      head = same_number page new (4096 * count) 4 (beside_range 0 (control_bytes (count + 1)) page (4096 * count) 4 (inr (omega (arith, control, some)))) ∙ head;
      free = λ k low high.
          let at = k - 4096 * count in
          let index : k ≡ 4096 * count + at = omega arith in
          let first = length-bytes_low_first 0 4 table in
          behind_range 0 (control_bytes (count + 1)) page k (omega (arith, control, some))
          ∙ ap page index ∙ in_range (4096 * count) (page_bytes table) old at (omega (arith, size))
          ∙ get_or-append_right (little_bytes 4 table) (replicate 4092 0) 4 at 0 first (omega arith) ∙ get_or-replicate 4092 (at - 4) 0 0 (omega arith);
      rest = λ k low high. behind_range 0 (control_bytes (count + 1)) page k (omega (arith, control)) ∙ before_range (4096 * count) (page_bytes table) old k high;
    }
