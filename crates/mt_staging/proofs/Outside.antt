-- What ranges leave of page 0 and of the heads of pages.
use Rattle.std.proofs.Common.{◌≡◌, ℕ, ◌+◌, ◌-◌, ◌*◌, ◌^◌, ◌<◌, ◌≤◌, max, Bool, true, false, List, [], ◌∷◌, ◌++◌, length, replicate, get_or, refl, sym, ap, ◌∙◌, inl, inr, arith, length-append}
use Rattle.std.specs.Prelude.{nat_lt}
use borrow.Author.Tests.{ltb-true, ltb-false}
use Rattle.std.proofs.lemmas.List.{get_or-append-add, get_or-append_right, get_or-replicate, get_or_append_left, length-replicate}
use Rattle.byteorder.specs.Endian.{little_bytes}
use Rattle.byteorder.specs.Numbers.{length-bytes_low_first}
use Rattle.mt_journal.proofs.Numbers.{number_stands}
use Rattle.mt_pages.specs.Control.{IsPageZero, control_bytes, magic, page_bytes, page_ranges}
use Rattle.mt_journal.specs.Layout.{Area, Range, StandAt, number_at}
use Rattle.mt_journal.specs.Replay.{with_range, with_ranges}
use Rattle.mt_tables.specs.Commit.{IsNewPage}
use Rattle.mt_tables.specs.Pages.{SlotSizes, page_count, table_at}
use Rattle.mt_tables.proofs.Bytes.{Beside, before_range, behind_range, beside_range, in_range, put_at, same_number}
use Rattle.mt_tables.proofs.Places.{IsInPage}

pub with_ranges-append : (one two : List Range) (area : Area) → with_ranges (one ++ two) area ≡ with_ranges two (with_ranges one area)
with_ranges-append [] two area = refl
with_ranges-append (range ∷ one) two area = with_ranges-append one two (with_range range area)

-- pages that agree in a page's head have it of one table
pub same_table : (old new : Area) (page : ℕ) → ((k : ℕ) → k < 8 → new (4096 * page + k) ≡ old (4096 * page + k)) → table_at new page ≡ table_at old page
same_table old new page head = same_number old new (4096 * page) 4 (λ k low high.
    let index : k ≡ 4096 * page + (k - 4096 * page) = omega arith in
    ap new index ∙ head (k - 4096 * page) (omega arith) ∙ ap old (sym index))

module _ (sizes : SlotSizes) (area : Area) (page at : ℕ) (bytes : List ℕ) (inside : IsInPage sizes page at (length bytes)) where
  -- a range among the slots of a page leaves the heads of all pages
  pub head_stands : (m k : ℕ) → k < 8 → put_at at bytes area (4096 * m + k) ≡ area (4096 * m + k)
  head_stands m k within = beside_range at bytes area (4096 * m) 8 (by (nat_lt page m) refl) (4096 * m + k) (omega arith) (omega (arith, within))
    where
      by : (b : Bool) → nat_lt page m ≡ b → Beside (4096 * m) 8 at (length bytes)
      by true e = let less : page < m = ltb-true page m e in let h = inside.high in inr (omega arith)
      by false e = let least : m ≤ page = ltb-false page m e in let l = inside.low in inl (omega arith)

  -- and page 0, and what it counts
  pub zero_stands : (k : ℕ) → k < 20 → put_at at bytes area k ≡ area k
  zero_stands k low = let l = inside.low in let r = inside.real in before_range at bytes area k (omega arith)

  pub count_stands : page_count (put_at at bytes area) ≡ page_count area
  count_stands =
      let l = inside.low in let r = inside.real in
      ap (max 1) (same_number area (put_at at bytes area) 12 8 (beside_range at bytes area 12 8 (inl (omega arith))))

-- a new page leaves the heads of the pages before it
pub heads_before : (old new : Area) (table count m k : ℕ) → IsNewPage count table old new → 1 ≤ m → m < count → k < 8 → new (4096 * m + k) ≡ old (4096 * m + k)
heads_before old new table count m k is some low within = is.rest (4096 * m + k) (omega (arith, some)) (omega (arith, low, within))

-- bytes that stand stand where the pages agree
stand_still : (old new : Area) (at : ℕ) (bytes : List ℕ) → ((k : ℕ) → at ≤ k → k < at + length bytes → new k ≡ old k) → StandAt old at bytes → StandAt new at bytes
stand_still old new at bytes same stand k within = same (at + k) (omega arith) (omega arith) ∙ stand k within

-- pages that agree in their first bytes have one page 0
pub zero_still : (old new : Area) → ((k : ℕ) → k < 20 → new k ≡ old k) → IsPageZero old → IsPageZero new
unfolding magic
zero_still old new same (inl blank) = inl (stand_still old new 0 (replicate 20 0) (λ k low high. same k (omega arith)) blank)
zero_still old new same (inr control) =
    let number : number_at 8 new 12 ≡ number_at 8 old 12 = same_number old new 12 8 (λ k low high. same k (omega arith)) in
    inr (record {
      magic_stands = stand_still old new 0 magic (λ k low high. same k (omega arith)) control.magic_stands;
      version = same_number old new 8 4 (λ k low high. same k (omega arith)) ∙ control.version;
      some = (let s = control.some in omega (arith, number, s));
      few = (let f = control.few in omega (arith, number, f));
    })

stand_front : (area : Area) (at : ℕ) (xs ys : List ℕ) → StandAt area at (xs ++ ys) → StandAt area at xs
stand_front area at xs ys stand k within = stand k (let l = length-append xs ys in omega (arith, within, l)) ∙ get_or_append_left xs ys 0 k within

stand_back : (area : Area) (at n : ℕ) (xs ys : List ℕ) → length xs ≡ n → StandAt area at (xs ++ ys) → StandAt area (at + n) ys
stand_back area at n xs ys size stand k within =
    ap area (omega arith) ∙ stand (n + k) (let l = length-append xs ys in omega (arith, within, l, size))
    ∙ ap (λ (i : ℕ). get_or (xs ++ ys) (i + k) 0) (sym size) ∙ get_or-append-add xs ys k 0

-- what is written to page 0 counts the pages
pub zero_written : (count : ℕ) (area : Area) → 1 ≤ count → count ≤ 2 ^ 28 → IsPageZero (put_at 0 (control_bytes count) area)
unfolding magic
zero_written count area some few =
    let new = put_at 0 (control_bytes count) area in
    let all : StandAt new 0 (control_bytes count) = in_range 0 (control_bytes count) area in
    let behind : StandAt new 8 (little_bytes 4 1 ++ little_bytes 8 count) = stand_back new 0 8 magic (little_bytes 4 1 ++ little_bytes 8 count) refl all in
    let version : StandAt new 8 (little_bytes 4 1) = stand_front new 8 (little_bytes 4 1) (little_bytes 8 count) behind in
    let number : StandAt new 12 (little_bytes 8 count) = stand_back new 8 4 (little_bytes 4 1) (little_bytes 8 count) (length-bytes_low_first 0 4 1) behind in
    let said : number_at 8 new 12 ≡ count = number_stands 8 new 12 count (omega (arith, few)) number in
    inr (record {
      magic_stands = stand_front new 0 magic (little_bytes 4 1 ++ little_bytes 8 count) all;
      version = number_stands 4 new 8 1 (omega arith) version;
      some = omega (arith, said, some);
      few = omega (arith, said, few);
    })

-- how many bytes the ranges of a page have
pub length-control_bytes : (count : ℕ) → length (control_bytes count) ≡ 20
unfolding magic
length-control_bytes count =
    omega (arith, length-append (little_bytes 4 1) (little_bytes 8 count), length-bytes_low_first 0 4 1, length-bytes_low_first 0 8 count)

pub length-page_bytes : (table : ℕ) → length (page_bytes table) ≡ 4096
length-page_bytes table = omega (arith, length-append (little_bytes 4 table) (replicate 4092 0), length-bytes_low_first 0 4 table, length-replicate {A = ℕ} 4092 0)

-- the head of a page that is made is blank behind the table's number
pub head_blank : (old : Area) (table page k : ℕ) → 1 ≤ page → 4 ≤ k → k < 8 → with_ranges (page_ranges table page) old (4096 * page + k) ≡ 0
head_blank old table page k some low high =
    let made = put_at (4096 * page) (page_bytes table) old in
    let control = length-control_bytes (page + 1) in
    let size = length-page_bytes table in
    behind_range 0 (control_bytes (page + 1)) made (4096 * page + k) (omega (arith, control, some))
    ∙ in_range (4096 * page) (page_bytes table) old k (omega (arith, size, high))
    ∙ get_or-append_right (little_bytes 4 table) (replicate 4092 0) 4 k 0 (length-bytes_low_first 0 4 table) low ∙ get_or-replicate 4092 (k - 4) 0 0 (omega (arith, high))
