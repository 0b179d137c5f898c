-- What a group keeps from one change to the next.
use Rattle.std.proofs.Common.{◌≡◌, ℕ, ◌+◌, ◌*◌, ◌^◌, ◌<◌, ◌≤◌, Bool, true, false, cond, nat_eq, List, [], ◌∷◌, ◌++◌, length, drop, map, slice_index, Some, refl, sym, ap, ◌∙◌, arith, subst, length-append}
use Rattle.std.specs.Prelude.{IsSome, is_some}
use Rattle.std.proofs.Math.Nat.{add-mul}
use Rattle.std.proofs.lemmas.Bool.Decides.{nat_tests}
use Rattle.std.proofs.lemmas.List.Sums.{sum_by-append}
use Rattle.std.proofs.lemmas.List.FromFn.{length-map-range_with_len}
use Rattle.std.specs.List.{range_with_len}
use Rattle.mt_journal.specs.Commits.{payload_size}
use Rattle.mt_journal.specs.Layout.{Area, Range, range_size}
use Rattle.mt_journal.specs.Replay.{with_ranges}
use Rattle.mt_rowfile.specs.declared.layout.Layout.{Layout}
use Rattle.mt_rowfile.specs.Layouts.{slot_width, slots_per_page}
use Rattle.mt_physplan.specs.declared.change.Change.{Change}
use Rattle.mt_pages.specs.Control.{page_ranges}
use Rattle.mt_places.specs.Places.{with_free_page}
use Rattle.mt_tables.specs.Pages.{slot_position}
use Rattle.mt_tables.specs.Plan.{without_first}
use Rattle.mt_tables.specs.Rows.{KnownLayouts, layout_of, sizes_of}
use Rattle.mt_tables.specs.Rows as layouts
use Rattle.mt_staging.specs.Group.{GroupState, IsGroup, pages_of}
use Rattle.mt_staging.specs.Steps.{one_more_of}
use Rattle.mt_staging.proofs.Lists.{count_by-append, members_with_last, once, same_number, shorter}
use Rattle.mt_staging.proofs.OneSlot.{one_more}
use Rattle.mt_staging.proofs.Outside.{length-control_bytes, length-page_bytes, same_table}
use Rattle.mt_staging.proofs.Standing.{Stands}

-- what stands of a group
pub stands_of : (known : KnownLayouts) (count : ℕ) (area : Area) (start : ℕ → ℕ) (changes : List Change) (group : GroupState) → IsGroup known count area start changes group → Stands known count (count + length group.added) area changes group
stands_of known count area start changes group g = record {
  row_values = g.row_values;
  row_changes = g.row_changes;
  rows = g.rows;
  body_values = g.body_values;
  body_changes = g.body_changes;
  bodies = g.bodies;
  counted = g.counted;
  tables_added = g.tables_added;
  heads_stand = g.heads_stand;
  heads_blank = g.heads_blank;
  taken = g.taken;
  used = g.used;
  page_zero = g.page_zero;
  readable = g.readable;
}

-- The numbers of a group: of its free slots, its pages and its ranges.
pub record AreNumbers (known : KnownLayouts) (count : ℕ) (start : ℕ → ℕ) (changes : List Change) (group : GroupState) : Type 0 where
  pub filled : (t : ℕ) → group.taken t + length (group.places.free t) ≡ start t + pages_of t group.added * (sizes_of known).count t
  pub needed : (t : ℕ) → 1 ≤ pages_of t group.added → length (group.places.free t) < (sizes_of known).count t
  pub tables_few : (i : ℕ) → i < length group.added → slice_index group.added i < 32
  pub tables_known : (i : ℕ) → i < length group.added → IsSome (layout_of known (slice_index group.added i))
  pub pages_few : count + length group.added ≤ 2 ^ 28
  pub few : length group.ranges ≤ 3 * length changes
  pub short : payload_size group.ranges ≤ 4 + 12324 * length changes

pub numbers_of : (known : KnownLayouts) (count : ℕ) (area : Area) (start : ℕ → ℕ) (changes : List Change) (group : GroupState) → IsGroup known count area start changes group → AreNumbers known count start changes group
numbers_of known count area start changes group g = record {
  filled = g.filled;
  needed = g.needed;
  tables_few = g.tables_few;
  tables_known = g.tables_known;
  pages_few = g.pages_few;
  few = g.few;
  short = g.short;
}

-- both make a group
pub group_of_parts : (known : KnownLayouts) (count : ℕ) (area : Area) (start : ℕ → ℕ) (changes : List Change) (group : GroupState) → Stands known count (count + length group.added) area changes group → AreNumbers known count start changes group
    → IsGroup known count area start changes group
group_of_parts known count area start changes group s n = record {
  row_values = s.row_values;
  row_changes = s.row_changes;
  rows = s.rows;
  body_values = s.body_values;
  body_changes = s.body_changes;
  bodies = s.bodies;
  counted = s.counted;
  tables_stand = λ page some low. same_table area (with_ranges group.ranges area) page (λ k within. s.heads_stand page k some low within);
  tables_added = s.tables_added;
  heads_stand = s.heads_stand;
  heads_blank = s.heads_blank;
  taken = s.taken;
  used = s.used;
  page_zero = s.page_zero;
  readable = s.readable;
  filled = n.filled;
  needed = n.needed;
  tables_few = n.tables_few;
  tables_known = n.tables_known;
  pages_few = n.pages_few;
  few = n.few;
  short = n.short;
}

-- how long the payload is with one range more
pub payload_more : (ranges : List Range) (range : Range) → payload_size (ranges ++ range ∷ []) ≡ payload_size ranges + (12 + length range.bytes)
payload_more ranges range = let e = sum_by-append range_size ranges (range ∷ []) in omega (arith, e)

-- one range more, and no page
pub record IsWithin (known : KnownLayouts) (old new : GroupState) : Type 0 where
  pub position : ℕ
  pub bytes : List ℕ
  pub ranges : new.ranges ≡ old.ranges ++ record { position = position; bytes = bytes } ∷ []
  pub short : length bytes ≤ 4096
  pub added : new.added ≡ old.added
  pub filled : (t : ℕ) → new.taken t + length (new.places.free t) ≡ old.taken t + length (old.places.free t)
  pub no_more : (t : ℕ) → length (new.places.free t) ≤ length (old.places.free t)

pub numbers_within : (known : KnownLayouts) (count : ℕ) (start : ℕ → ℕ) (changes : List Change) (change : Change) (old new : GroupState) → AreNumbers known count start changes old → IsWithin known old new
    → AreNumbers known count start (changes ++ change ∷ []) new
numbers_within known count start changes change old new n w =
    let longer = length-append changes (change ∷ []) in
    let more = length-append old.ranges (record { position = w.position; bytes = w.bytes } ∷ []) in
    let size = payload_more old.ranges (record { position = w.position; bytes = w.bytes }) in
    record {
      filled = λ t. w.filled t ∙ n.filled t ∙ ap (λ (ts : List ℕ). start t + pages_of t ts * (sizes_of known).count t) (sym w.added);
      needed = λ t some.
          let h = n.needed t (subst (λ (ts : List ℕ). 1 ≤ pages_of t ts) w.added some) in
          let l = w.no_more t in
          omega (arith, h, l);
      tables_few = λ i within. subst (λ (ts : List ℕ). slice_index ts i < 32) (sym w.added) (n.tables_few i (subst (λ (ts : List ℕ). i < length ts) w.added within));
      tables_known = λ i within. subst (λ (ts : List ℕ). IsSome (layout_of known (slice_index ts i))) (sym w.added) (n.tables_known i (subst (λ (ts : List ℕ). i < length ts) w.added within));
      pages_few = subst (λ (ts : List ℕ). count + length ts ≤ 2 ^ 28) (sym w.added) n.pages_few;
      few = subst (λ (rs : List Range). length rs ≤ 3 * length (changes ++ change ∷ [])) (sym w.ranges) (let f = n.few in omega (arith, f, longer, more));
      short = subst (λ (rs : List Range). payload_size rs ≤ 4 + 12324 * length (changes ++ change ∷ [])) (sym w.ranges) (let f = n.short in let b = w.short in omega (arith, f, longer, size, b));
    }

-- the first free slot of a table is taken
pub filled_taken : (table p : ℕ) (rest : List ℕ) (free : ℕ → List ℕ) (taken : ℕ → ℕ) → free table ≡ p ∷ rest → (t : ℕ) → one_more_of table taken t + length (without_first table free t) ≡ taken t + length (free t)
filled_taken table p rest free taken first t = let m = one_more table taken t in let l = shorter table t p rest free first in omega (arith, m, l)

pub less_taken : (table : ℕ) (free : ℕ → List ℕ) (t : ℕ) → length (without_first table free t) ≤ length (free t)
less_taken table free t = by (nat_eq t table)
  where
    fewer : (xs : List ℕ) → length (drop 1 xs) ≤ length xs
    fewer [] = omega arith
    fewer (x ∷ xs) = omega arith

    by : (b : Bool) → length (cond b (drop 1 (free t)) (free t)) ≤ length (free t)
    by true = fewer (free t)
    by false = omega arith

-- A page is made, and its first slot taken by one range more.
pub record IsWithPage (count : ℕ) (layout : Layout) (table : ℕ) (old new : GroupState) : Type 0 where
  pub position : ℕ
  pub bytes : List ℕ
  pub behind : List ℕ
  pub ranges : new.ranges ≡ (old.ranges ++ page_ranges table (count + length old.added)) ++ record { position = position; bytes = bytes } ∷ []
  pub short : length bytes ≤ 4096
  pub added : new.added ≡ old.added ++ table ∷ []
  pub none_left : old.places.free table ≡ []
  pub first : with_free_page layout table (count + length old.added) old.places.free table ≡ position ∷ behind
  pub free : (t : ℕ) → new.places.free t ≡ without_first table (with_free_page layout table (count + length old.added) old.places.free) t
  pub taken : (t : ℕ) → new.taken t ≡ one_more_of table old.taken t

pages_more : (t table : ℕ) (added : List ℕ) → pages_of t (added ++ table ∷ []) ≡ pages_of t added + once (nat_eq table t)
pages_more t table added = let e = count_by-append (λ (u : ℕ). nat_eq u t) added (table ∷ []) in omega (arith, e)

module _ (known : KnownLayouts) (layout : Layout) (table : ℕ) (found : layout_of known table ≡ Some layout) (page : ℕ) (free : ℕ → List ℕ) where
  free_more : (t : ℕ) → length (with_free_page layout table page free t) ≡ length (free t) + once (nat_eq table t) * (sizes_of known).count t
  free_more t = by (nat_eq t table) refl
    where
      by : (b : Bool) → nat_eq t table ≡ b → length (cond b (free t ++ map (slot_position (slot_width layout) page) (range_with_len 0 (slots_per_page layout))) (free t)) ≡ length (free t) + once (nat_eq table t) * (sizes_of known).count t
      by true e =
          let same : t ≡ table = grind (arith, nat_tests, e) in
          let one : nat_eq table t ≡ true = same_number table t ∙ e in
          let long = length-append (free t) (map (slot_position (slot_width layout) page) (range_with_len 0 (slots_per_page layout))) in
          let size = length-map-range_with_len (slot_position (slot_width layout) page) 0 (slots_per_page layout) in
          let number : (sizes_of known).count t ≡ slots_per_page layout = ap (sizes_of known).count same ∙ ap layouts.slot_count_by found in
          rw one (omega (arith, long, size, number))
      by false e = let none : nat_eq table t ≡ false = same_number table t ∙ e in rw none (omega arith)

pub numbers_with_page : (known : KnownLayouts) (count : ℕ) (start : ℕ → ℕ) (changes : List Change) (change : Change) (layout : Layout) (table : ℕ) (old new : GroupState)
    → layout_of known table ≡ Some layout → table ≤ 31 → count + length old.added < 2 ^ 28
    → AreNumbers known count start changes old → IsWithPage count layout table old new → AreNumbers known count start (changes ++ change ∷ []) new
numbers_with_page known count start changes change layout table old new found small room n w =
    let page = count + length old.added in
    let free : ℕ → List ℕ = with_free_page layout table page old.places.free in
    let c : ℕ → ℕ = (sizes_of known).count in
    let range : Range = record { position = w.position; bytes = w.bytes } in
    let longer = length-append changes (change ∷ []) in
    let more = length-append (old.ranges ++ page_ranges table page) (range ∷ []) in
    let more_page = length-append old.ranges (page_ranges table page) in
    let added_more = length-append old.added (table ∷ []) in
    let size = payload_more (old.ranges ++ page_ranges table page) range in
    let size_page = sum_by-append range_size old.ranges (page_ranges table page) in
    let control = length-control_bytes (page + 1) in
    let whole = length-page_bytes table in
    record {
      filled = λ t.
          let one = filled_taken table w.position w.behind free old.taken w.first t in
          let long = free_more known layout table found page old.places.free t in
          let product = add-mul (pages_of t old.added) (once (nat_eq table t)) (c t) in
          let h = n.filled t in
          let e : one_more_of table old.taken t + length (without_first table free t) ≡ start t + (pages_of t old.added + once (nat_eq table t)) * c t = omega (arith, one, long, product, h) in
          (λ i. w.taken t i + length (w.free t i)) ∙ e
          ∙ ap (λ k. start t + k * c t) (sym (pages_more t table old.added)) ∙ ap (λ (ts : List ℕ). start t + pages_of t ts * c t) (sym w.added);
      needed = λ t some.
          subst (λ (ps : List ℕ). length ps < c t) (sym (w.free t))
          (needs t (free_more known layout table found page old.places.free t) (shorter table t w.position w.behind free w.first) (subst (λ (ts : List ℕ). 1 ≤ pages_of t ts) w.added some) (nat_eq table t) refl);
      tables_few = λ i within. subst (λ (ts : List ℕ). slice_index ts i < 32) (sym w.added)
          (members_with_last (λ t. t < 32) old.added table n.tables_few (omega (arith, small)) i (subst (λ (ts : List ℕ). i < length ts) w.added within));
      tables_known = λ i within. subst (λ (ts : List ℕ). IsSome (layout_of known (slice_index ts i))) (sym w.added)
          (members_with_last (λ t. IsSome (layout_of known t)) old.added table n.tables_known (ap is_some found) i (subst (λ (ts : List ℕ). i < length ts) w.added within));
      pages_few = subst (λ (ts : List ℕ). count + length ts ≤ 2 ^ 28) (sym w.added) (omega (arith, room, added_more));
      few = subst (λ (rs : List Range). length rs ≤ 3 * length (changes ++ change ∷ [])) (sym w.ranges) (let f = n.few in omega (arith, f, longer, more, more_page));
      short = subst (λ (rs : List Range). payload_size rs ≤ 4 + 12324 * length (changes ++ change ∷ [])) (sym w.ranges) (let f = n.short in let b = w.short in omega (arith, f, longer, size, size_page, control, whole, b));
    }
  where
    needs : (t : ℕ) → length (with_free_page layout table (count + length old.added) old.places.free t) ≡ length (old.places.free t) + once (nat_eq table t) * (sizes_of known).count t
        → length (without_first table (with_free_page layout table (count + length old.added) old.places.free) t) + once (nat_eq table t) ≡ length (with_free_page layout table (count + length old.added) old.places.free t)
        → 1 ≤ pages_of t (old.added ++ table ∷ []) → (b : Bool) → nat_eq table t ≡ b → length (without_first table (with_free_page layout table (count + length old.added) old.places.free) t) < (sizes_of known).count t
    needs t long less some true e =
        let same : table ≡ t = grind (arith, nat_tests, e) in
        let none : length (old.places.free t) ≡ 0 = ap (λ u. length (old.places.free u)) (sym same) ∙ ap length w.none_left in
        let long1 : length (with_free_page layout table (count + length old.added) old.places.free t) ≡ length (old.places.free t) + 1 * (sizes_of known).count t = long ∙ ap (λ b. length (old.places.free t) + once b * (sizes_of known).count t) e in
        let less1 : length (without_first table (with_free_page layout table (count + length old.added) old.places.free) t) + 1 ≡ length (with_free_page layout table (count + length old.added) old.places.free t) = ap (λ b. length (without_first table (with_free_page layout table (count + length old.added) old.places.free) t) + once b) (sym e) ∙ less in
        omega (arith, none, long1, less1)
    needs t long less some false e =
        let long0 : length (with_free_page layout table (count + length old.added) old.places.free t) ≡ length (old.places.free t) + 0 * (sizes_of known).count t = long ∙ ap (λ b. length (old.places.free t) + once b * (sizes_of known).count t) e in
        let less0 : length (without_first table (with_free_page layout table (count + length old.added) old.places.free) t) + 0 ≡ length (with_free_page layout table (count + length old.added) old.places.free t) = ap (λ b. length (without_first table (with_free_page layout table (count + length old.added) old.places.free) t) + once b) (sym e) ∙ less in
        let pages : pages_of t (old.added ++ table ∷ []) ≡ pages_of t old.added + 0 = pages_more t table old.added ∙ ap (λ b. pages_of t old.added + once b) e in
        let h = n.needed t (omega (arith, pages, some)) in
        omega (arith, long0, less0, h)
