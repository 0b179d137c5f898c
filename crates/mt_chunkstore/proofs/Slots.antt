-- One slot more of a page, as a scan walks it.
use Rattle.std.proofs.Common.{◌≡◌, ℕ, zero, suc, ◌-◌, ◌*◌, ◌≤◌, Bool, List, [], ◌∷◌, take, drop, map, Option, refl, sym, ap, ◌∙◌, All, filter_map, arith}
use Rattle.std.proofs.Math.Nat.{mul-suc, sub-zero}
use Rattle.std.proofs.lemmas.List.Elements.{All-head, All-tail}
use Rattle.std.specs.declared.cmp.Ordering.{Ordering}
use Rattle.std.specs.FinMap as finite
use Rattle.mt_rowfile.specs.declared.layout.Layout.{Layout}
use Rattle.mt_rowfile.specs.Layouts.{slot_width, slots_per_page}
use Rattle.mt_rowfile.specs.Pages.{slots_in, slots_of_page}
use Rattle.mt_tables.specs.Tables.{TableSlot, passing, with_entries}
use Rattle.mt_tables.proofs.PageSlots.{walk_then}

-- what the slots that are left add, once the first of them was looked at
pub slot_passed : {K V : Type 0} {R : K → K → Ordering} (read : TableSlot → Option (K × V)) (test : K → Bool) (table width left more : ℕ) (rest slot behind : List ℕ) (found new all : finite.FinMap R V) → left ≡ suc more → slot ≡ take width rest → behind ≡ drop width rest
    → with_entries (passing test (filter_map read (map (λ bytes. (table, bytes)) (slots_in width left rest)))) found ≡ all
    → new ≡ with_entries (passing test (filter_map read ((table, slot) ∷ []))) found
    → with_entries (passing test (filter_map read (map (λ bytes. (table, bytes)) (slots_in width more behind)))) new ≡ all
slot_passed read test table width left more rest slot behind found new all is first others before adds =
    let later = map (λ bytes. (table, bytes)) (slots_in width more (drop width rest)) in
    let parts = walk_then read test ((table, take width rest) ∷ []) later found in
    let whole : with_entries (passing test (filter_map read ((table, take width rest) ∷ later))) found ≡ all = ap (λ n. with_entries (passing test (filter_map read (map (λ bytes. (table, bytes)) (slots_in width n rest)))) found) (sym is) ∙ before in
    ap (λ bytes. with_entries (passing test (filter_map read (map (λ b. (table, b)) (slots_in width more bytes)))) new) others
    ∙ ap (with_entries (passing test (filter_map read later))) (adds ∙ ap (λ bytes. with_entries (passing test (filter_map read ((table, bytes) ∷ []))) found) first)
    ∙ sym parts ∙ whole

-- what holds of the slots that are left holds of the first of them, and of those behind it
pub first_left : (P : List ℕ → Type 0) (width left more : ℕ) (rest slot : List ℕ) → left ≡ suc more → slot ≡ take width rest → All P (slots_in width left rest) → P slot
first_left P width left more rest slot is first all = rw first (All-head P (take width rest) (slots_in width more (drop width rest)) (rw is at all))

pub others_left : (P : List ℕ → Type 0) (width left more : ℕ) (rest behind : List ℕ) → left ≡ suc more → behind ≡ drop width rest → All P (slots_in width left rest) → All P (slots_in width more behind)
others_left P width left more rest behind is others all = rw others (All-tail P (take width rest) (slots_in width more (drop width rest)) (rw is at all))

-- a slot that is left has room
pub first_fits : (width left room : ℕ) → 1 ≤ left → width * left ≤ room → width ≤ room
first_fits width zero room some fits = absurd (omega arith)
first_fits width (suc more) room some fits = let e = mul-suc width more in omega arith

-- at first all slots of the page are left
pub all_slots : (layout : Layout) (page rest : List ℕ) (width count : ℕ) → rest ≡ drop 8 page → width ≡ slot_width layout → count ≡ slots_per_page layout → slots_in width (count - 0) rest ≡ slots_of_page layout page
all_slots layout page rest width count is wide many = rw (is, sub-zero, wide, many) refl

-- and at last none is
pub no_more : {K V : Type 0} {R : K → K → Ordering} (read : TableSlot → Option (K × V)) (test : K → Bool) (table width left : ℕ) (rest : List ℕ) (found all : finite.FinMap R V) → left ≡ 0
    → with_entries (passing test (filter_map read (map (λ bytes. (table, bytes)) (slots_in width left rest)))) found ≡ all → found ≡ all
no_more read test table width left rest found all none is = ap (λ n. with_entries (passing test (filter_map read (map (λ bytes. (table, bytes)) (slots_in width n rest)))) found) (sym none) ∙ is
