-- How far one change lets a group grow, whatever stands in the pages.
use Rattle.std.proofs.Common.{◌≡◌, ◌⊎◌, ℕ, ◌+◌, ◌^◌, ◌<◌, ◌≤◌, List, [], ◌∷◌, ◌++◌, length, Option, None, Some, refl, sym, ap, ◌∙◌, inl, inr, arith, subst, length-append}
use Rattle.std.proofs.lemmas.List.Sums.{sum_by-append}
use Rattle.mt_journal.specs.Commits.{payload_size}
use Rattle.mt_journal.specs.Layout.{Range, range_size}
use Rattle.mt_rowfile.specs.declared.layout.Head.TheVariants.{Catalogue}
use Rattle.mt_rowfile.specs.declared.layout.Layout.{Layout}
use Rattle.mt_rowfile.specs.declared.slot.SlotRow.{SlotRow}
use Rattle.mt_rowfile.specs.Fields.{AreKinds}
use Rattle.mt_rowfile.specs.Layouts.{body_width}
use Rattle.mt_rowfile.specs.Slots.{HasNumbers, slot_bytes}
use Rattle.mt_physplan.specs.declared.change.Change.{Change}
use Rattle.mt_physplan.specs.declared.change.Change.TheVariants.{Put, PutCat}
use Rattle.mt_pages.specs.Control.{page_ranges}
use Rattle.mt_staging.specs.Group.{GroupState, Suits}
use Rattle.mt_staging.specs.Steps.{FindsFree, PutsSlot, TakesAway, WritesOver, one_freed, one_taken, page_made, with_write}
use Rattle.mt_staging.proofs.Effects.{body_small, is_slot, width_small}
use Rattle.mt_staging.proofs.Groups.{payload_more}
use Rattle.mt_staging.proofs.Outside.{length-control_bytes, length-page_bytes}

-- the payload grows by so many bytes at most, and the pages stay few
abbrev pub GrowsBy : ℕ → ℕ → GroupState → GroupState → Type 0
GrowsBy n count old new = (payload_size new.ranges ≤ payload_size old.ranges + n) × (count + length old.added ≤ 2 ^ 28 → count + length new.added ≤ 2 ^ 28)

abbrev pub Grows : ℕ → GroupState → GroupState → Type 0
Grows count old new = GrowsBy 12324 count old new

-- other places leave the ranges and the pages
abbrev pub LeavesRanges : (Option ℕ → GroupState → GroupState) → Type 0
LeavesRanges placed = (place : Option ℕ) (group : GroupState) → ((placed place group).ranges ≡ group.ranges) × ((placed place group).added ≡ group.added)

pub over_grows : (count : ℕ) (place : Option (Option ℕ)) (bytes : List ℕ) (old new : GroupState) → length bytes ≤ 4096 → WritesOver place bytes old new → Grows count old new
over_grows count place bytes old new short w =
    let e = payload_more old.ranges (record { position = w.position; bytes = bytes }) in
    let grown : Grows count old (with_write w.position bytes old) = (omega (arith, e, short), λ h. h) in
    subst (Grows count old) (sym w.written) grown

found_grows : (layout : Layout) (table count position : ℕ) (old new : GroupState) → FindsFree layout table count position old new → GrowsBy 4140 count old new
found_grows layout table count position old new (inl first) =
    let same : GrowsBy 4140 count old old = (omega arith, λ h. h) in
    subst (GrowsBy 4140 count old) (sym first.rest) same
found_grows layout table count position old new (inr (mid, made, first)) =
    let page = count + length old.added in
    let size = sum_by-append range_size old.ranges (page_ranges table page) in
    let control = length-control_bytes (page + 1) in
    let whole = length-page_bytes table in
    let more = length-append old.added (table ∷ []) in
    let room = made.few in
    let grown : GrowsBy 4140 count old (page_made layout table count old) = (omega (arith, size, control, whole), λ h. omega (arith, more, room)) in
    subst (GrowsBy 4140 count old) (sym first.rest) (subst (GrowsBy 4140 count old) (sym made.page) grown)

pub put_grows : (layout : Layout) (table count : ℕ) (place : Option (Option ℕ)) (bytes : List ℕ) (placed : Option ℕ → GroupState → GroupState) (old new : GroupState) → LeavesRanges placed → length bytes ≤ 4096
    → PutsSlot layout table count place bytes placed old new → Grows count old new
put_grows layout table count place bytes placed old new leaves short (inl w) = over_grows count place bytes old new short w
put_grows layout table count place bytes placed old new leaves short (inr w) =
    let found = found_grows layout table count w.position old w.between w.found in
    let mid = placed (Some w.position) w.between in
    let same = leaves (Some w.position) w.between in
    let e = payload_more mid.ranges (record { position = w.position; bytes = bytes }) in
    let ranges : payload_size mid.ranges ≡ payload_size w.between.ranges = ap payload_size same.0 in
    let size = found.0 in
    let grown : Grows count old (one_taken table (with_write w.position bytes mid)) =
    (omega (arith, e, ranges, size, short), λ h. subst (λ (ts : List ℕ). count + length ts ≤ 2 ^ 28) (sym same.1) (found.1 h)) in
    subst (Grows count old) (sym w.written) grown

pub away_grows : (table count : ℕ) (place : Option (Option ℕ)) (placed : Option ℕ → GroupState → GroupState) (old new : GroupState) → LeavesRanges placed → TakesAway table place placed old new → Grows count old new
away_grows table count place placed old new leaves w =
    let mid = with_write w.position (0 ∷ []) old in
    let same = leaves None mid in
    let e = payload_more old.ranges (record { position = w.position; bytes = 0 ∷ [] }) in
    let ranges : payload_size (placed None mid).ranges ≡ payload_size mid.ranges = ap payload_size same.0 in
    let grown : Grows count old (one_freed table (placed None mid)) =
    (omega (arith, e, ranges), λ h. subst (λ (ts : List ℕ). count + length ts ≤ 2 ^ 28) (sym same.1) h) in
    subst (Grows count old) (sym w.written) grown

-- what a change writes is short
pub slot_small : (layout : Layout) (change : Change) (table : ℕ) (slot : SlotRow) → change ≡ Put table slot → Suits layout change → AreKinds layout.kinds → HasNumbers slot → length (slot_bytes layout slot) ≤ 4096
slot_small layout change table slot is suits kinds numbers =
    let fits : Suits layout (Put table slot) = subst (Suits layout) is suits in
    let size = (is_slot layout slot fits.0 kinds fits.1 numbers).size in
    let small = width_small layout fits.2 in
    omega (arith, size, small)

pub body_short : (layout : Layout) (change : Change) (table : ℕ) (body : List ℕ) → change ≡ PutCat table body → Suits layout change → length (1 ∷ body) ≤ 4096
body_short layout change table body is suits =
    let fits : Suits layout (PutCat table body) = subst (Suits layout) is suits in
    let size = fits.1 in
    let small = body_small table in
    omega (arith, size, small)
