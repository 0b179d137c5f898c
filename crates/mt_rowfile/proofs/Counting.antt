-- The free slots among those of a page.
use Rattle.std.proofs.Common.{◌≡◌, ◌≢◌, ℕ, suc, ◌+◌, ◌-◌, ◌*◌, ◌/◌, ◌≤◌, List, length, take, drop, filter, slice_index, refl, arith, length-drop}
use Rattle.std.proofs.Math.Nat.{mul-suc, mul-div-le, sub-zero}
use Rattle.std.proofs.lemmas.List.{take_all}
use Rattle.std.proofs.lemmas.Bool.{ne_eqb}
use Rattle.mt_rowfile.specs.declared.layout.Layout.{Layout}
use Rattle.mt_rowfile.specs.Layouts.{slot_width, slots_per_page}
use Rattle.mt_rowfile.specs.Pages.{free_slots, is_free, slots_in}

-- what is counted of the slots that are left
abbrev pub free_of : ℕ → ℕ → List ℕ → ℕ
free_of width left rest = length (filter is_free (slots_in width left rest))

-- a page behind its head
pub behind_head : (page : List ℕ) → length page ≡ 4096 → take 4088 (drop 8 page) ≡ drop 8 page
behind_head page all = take_all 4088 (drop 8 page) (omega (arith, length-drop 8 page))

-- all slots of a page have room in it
pub room_for_all : (page rest : List ℕ) (width count : ℕ) → length page ≡ 4096 → rest ≡ drop 8 page → count ≡ 4088 / width
    → width * (count - 0) ≤ length rest
room_for_all page rest width count all is many = rw (is, many, sub-zero) (omega (arith, mul-div-le 4088 width, length-drop 8 page))

-- and those that are left have room behind the first of them
pub room_for_others : (width left more room behind : ℕ) → left ≡ suc more → width * left ≤ room → behind + width ≡ room → width * more ≤ behind
room_for_others width left more room behind is fits parts = let all = rw (is, mul-suc) at fits in omega arith

-- a free slot is one more
pub free_counted : (width left more free : ℕ) (rest slot behind : List ℕ) → left ≡ suc more → slot ≡ take width rest → behind ≡ drop width rest
    → slice_index slot 0 ≡ 0 → free + 1 + free_of width more behind ≡ free + free_of width left rest
free_counted width left more free rest slot behind is first others mark =
    let marked : slice_index (take width rest) 0 ≡ 0 = rw first at mark in
    rw (is, others, marked) (omega arith)

-- a slot in use is not
pub used_passed : (width left more free : ℕ) (rest slot behind : List ℕ) → left ≡ suc more → slot ≡ take width rest → behind ≡ drop width rest
    → slice_index slot 0 ≢ 0 → free + free_of width more behind ≡ free + free_of width left rest
used_passed width left more free rest slot behind is first others mark =
    let marked : slice_index (take width rest) 0 ≢ 0 = rw first at mark in
    rw (is, others, ne_eqb (slice_index (take width rest) 0) 0 marked) refl

-- at first no slot was counted
pub none_counted : (layout : Layout) (page rest : List ℕ) (width count : ℕ) → rest ≡ drop 8 page → width ≡ slot_width layout → count ≡ slots_per_page layout
    → 0 + free_of width (count - 0) rest ≡ free_slots layout page
none_counted layout page rest width count is wide many = rw (is, sub-zero, wide, many) (omega arith)
