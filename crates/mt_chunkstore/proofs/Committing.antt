-- A group that was committed, and that the store took over.
use Rattle.std.proofs.Common.{◌≡◌, inl, inr, ℕ, zero, suc, ◌+◌, ◌-◌, ◌*◌, ◌<◌, ◌≤◌, ◌^◌, ◌&&◌, min, nat_eq, IsTrue, List, [], ◌∷◌, ◌++◌, length, map, take, slice_index, append_assoc, refl, sym, ap, subst, ◌∙◌, arith}
use Rattle.std.specs.Prelude.{slice_get, Option, None, Some, count_by, not}
use Rattle.std.specs.List.{range_with_len}
use Rattle.std.proofs.Math.Nat.{min-eq_left, min-le_right, mul-le-mul}
use Rattle.std.proofs.lemmas.List.{length-append, length-map, map-append, take_more}
use Rattle.std.proofs.lemmas.Option.{get_or_from_slice_get}
use Rattle.std.proofs.lemmas.List.FromFn.{length-range_with_len}
use Rattle.std.proofs.lemmas.List.Sums.{count_by-le-length}
use Rattle.mt_machine.specs.declared.machine.Area.TheVariants.{Pages}
use Rattle.mt_machine.specs.Meaning.{Disk, Meaning}
use Rattle.mt_machine.specs.Leaves.{Leaves}
use Rattle.mt_machine.specs.LeavesLaws.{leaves_weaker}
use Rattle.mt_journal.specs.Commits.{ReplaysToEither, StandsFor}
use Rattle.mt_journal.specs.Layout.{Area}
use Rattle.mt_journal.specs.Replay.{with_ranges}
use Rattle.mt_physplan.specs.declared.change.Change.{Change}
use Rattle.mt_rowfile.specs.declared.layout.Layout.{Layout}
use Rattle.mt_rowfile.specs.Pages.{is_free}
use Rattle.mt_tables.specs.Pages.{page_count, page_places, place_in, places_below, table_at}
use Rattle.mt_tables.specs.Rows.{AreKnown, KnownLayouts, layout_of, sizes_of}
use Rattle.mt_tables.specs.Rows as layouts
use Rattle.mt_tables.specs.Tables.{slot_at, slots_below}
use Rattle.mt_tables.proofs.Places.{pages_places}
use Rattle.mt_pages.specs.Control.{IsPageZero}
use Rattle.mt_directory.specs.Directory.{directory_of, listed_table}
use Rattle.mt_directory.specs.Known.{known_in}
use Rattle.mt_places.specs.Named.{is_of, is_put}
use Rattle.mt_staging.specs.Group.{GroupState, IsGroup, pages_of}
use Rattle.mt_chunkstore.specs.declared.store.Store.{Store}
use Rattle.mt_chunkstore.specs.Changes.{AreChanged, free_at_start, free_count}
use Rattle.mt_chunkstore.specs.Staged.{Allowed, IsCommitted, IsStaged, StopsWhole}
use Rattle.mt_staging.specs.Group.{used_in}
use Rattle.mt_chunkstore.specs.Standing.{Stands, used_after}
use Rattle.mt_chunkstore.proofs.InUse.{slots_few}
use Rattle.mt_chunkstore.proofs.Chosen.{all_made, group_changed, group_listed}

-- what the store is after a commit of a group
pub record IsTaken (group : GroupState) (old new : Store) : Type 0 where
  pub pages : new.pages ≡ old.pages + length group.added
  pub tables : new.directory.tables ≡ old.directory.tables ++ map listed_table group.added
  pub used : (table : ℕ) → table < 32 → slice_index new.used table ≡ used_after (slice_index old.used table) (group.taken table) (group.freed table)
  pub layouts : new.layouts ≡ old.layouts
  pub scans : new.scans ≡ old.scans
  pub some : 1 ≤ old.pages

map_length : {A B : Type 0} (f : A → B) (xs : List A) → length (map f xs) ≡ length xs
map_length f [] = refl
map_length f (x ∷ xs) = let h = map_length f xs in omega (arith, h)

append_length : (xs ys : List ℕ) → length (xs ++ ys) ≡ length xs + length ys
append_length [] ys = omega arith
append_length (x ∷ xs) ys = let h = append_length xs ys in omega (arith, h)

slice_get_within : (xs : List ℕ) (j x : ℕ) → slice_get xs j ≡ Some x → j < length xs
slice_get_within [] j x is = cc
slice_get_within (y ∷ xs) zero x is = omega arith
slice_get_within (y ∷ xs) (suc j) x is = let h = slice_get_within xs j x is in omega arith

-- one page more is listed
pub listed_more : (tables new before added : List ℕ) (i table : ℕ) → slice_get added i ≡ Some table → new ≡ tables ++ listed_table table ∷ [] → tables ≡ before ++ map listed_table (take i added)
    → new ≡ before ++ map listed_table (take (i + 1) added)
listed_more tables new before added i table is pushed so_far =
    let within : i < length added = slice_get_within added i table is in
    let more : take (i + 1) added ≡ take i added ++ table ∷ [] = take_more added i 0 within ∙ ap (λ t. take i added ++ t ∷ []) (get_or_from_slice_get added i table 0 is) in
    pushed ∙ ap (λ ts. ts ++ listed_table table ∷ []) so_far ∙ append_assoc before (map listed_table (take i added)) (listed_table table ∷ [])
    ∙ ap (λ ts. before ++ ts) (sym (ap (map listed_table) more ∙ map-append listed_table (take i added) (table ∷ [])))

-- a page of a table has few slots
per_page : (known : KnownLayouts) (table : ℕ) → (sizes_of known).count table ≤ 4088
per_page known table = by (layout_of known table)
  where
    by : (layout : Option Layout) → layouts.slot_count_by layout ≤ 4088
    by None = omega arith
    by (Some layout) = slots_few layout

-- and so have so many pages
places_few : (known : KnownLayouts) (area : Area) (first n : ℕ) → length (pages_places (sizes_of known) area first n) ≤ 4088 * n
places_few known area first zero = omega arith
places_few known area first (suc n) =
    let table = table_at area first in
    let a = length-append (page_places (sizes_of known) area first) (pages_places (sizes_of known) area (first + 1) n) in
    let m = length-map (range_with_len 0 ((sizes_of known).count table)) (place_in (sizes_of known) table first) in
    let r = length-range_with_len 0 ((sizes_of known).count table) in
    let p = per_page known table in
    let h = places_few known area (first + 1) n in
    omega (arith, a, m, r, p, h)

slots_below_few : (known : KnownLayouts) (count : ℕ) (area : Area) → count ≤ 2 ^ 28 → length (slots_below (sizes_of known) count area) ≤ 4088 * 2 ^ 28
slots_below_few known count area few =
    let m = length-map (places_below (sizes_of known) count area) (slot_at (sizes_of known) area) in
    let p = places_few known area 1 (count - 1) in
    omega (arith, m, p, few)

module _ (changes : List Change) (group : GroupState) (old_store new_store : Store) (old new : Meaning) (before : Stands old_store old) (staged : IsStaged changes group old_store old) (allowed : Allowed changes old_store old)
    (journal : StandsFor new_store.journal new) (told : IsTrue new.tells → IsTrue old.tells)
    (written : IsTrue new.tells → new.content Pages ≡ with_ranges group.ranges (old.content Pages)) (taken : IsTaken group old_store new_store) where
  -- the group, where the machine tells its content
  group_is : IsTrue new.tells → IsGroup (known_in old_store.layouts) old_store.pages (old.content Pages) (free_at_start (known_in old_store.layouts) changes old_store.pages (old.content Pages)) changes group
  group_is tells = staged.made (told tells) (allowed (told tells))

  stands_then : Stands new_store new
  stands_then = record {
    journal = journal;
    pages = record {
      page_zero = λ tells. subst IsPageZero (sym (written tells)) ((group_is tells).page_zero (before.pages.page_zero (told tells)));
      counted = λ tells. ap page_count (written tells) ∙ (group_is tells).counted ∙ sym taken.pages;
    };
    sized =
        let t = ap length taken.tables in
        let a = append_length old_store.directory.tables (map listed_table group.added) in
        let m = map_length listed_table group.added in
        let s = before.sized in
        let p = taken.pages in
        omega (arith, t, a, m, s, p, taken.some);
    known = subst (λ layouts. AreKnown (known_in layouts)) (sym taken.layouts) before.known;
    directory = λ tells.
        taken.tables
        ∙ ap (λ tables. tables ++ map listed_table group.added) (before.directory (told tells))
        ∙ sym (group_listed (known_in old_store.layouts) old_store.pages (old.content Pages) changes group (group_is tells) taken.some)
        ∙ ap (λ area. directory_of (old_store.pages + length group.added) area) (sym (written tells))
        ∙ ap (λ n. directory_of n (new.content Pages)) (sym taken.pages);
    used = λ tells table low.
        let is = group_is tells in
        let known = known_in old_store.layouts in
        let area = old.content Pages in
        let was = before.used (told tells) table low in
        let now : used_in (sizes_of (known_in new_store.layouts)) table new_store.pages (new.content Pages) ≡ used_in (sizes_of known) table (old_store.pages + length group.added) (with_ranges group.ranges area) =
        ap (λ layouts. used_in (sizes_of (known_in layouts)) table new_store.pages (new.content Pages)) taken.layouts
        ∙ ap (λ n. used_in (sizes_of known) table n (new.content Pages)) taken.pages
        ∙ ap (used_in (sizes_of known) table (old_store.pages + length group.added)) (written tells) in
        let both = is.used table in
        let slots = slots_below_few known old_store.pages area (omega (arith, staged.few)) in
        let used = count_by-le-length (λ slot. nat_eq slot.0 table && not (is_free slot.1)) (slots_below (sizes_of known) old_store.pages area) in
        let free = count_by-le-length (λ slot. nat_eq slot.0 table && is_free slot.1) (slots_below (sizes_of known) old_store.pages area) in
        let start = min-le_right (count_by (λ change. is_put change && is_of table change) changes) (free_count (sizes_of known) table old_store.pages area) in
        let made = count_by-le-length (λ t. nat_eq t table) group.added in
        let few : pages_of table group.added * (sizes_of known).count table ≤ 2 ^ 28 * 4088 = mul-le-mul {n₁ = pages_of table group.added} {m₁ = (sizes_of known).count table} {n₂ = 2 ^ 28} {m₂ = 4088} (omega (arith, made, staged.few)) (per_page known table) in
        let filled = is.filled table in
        let enough : slice_index old_store.used table + group.taken table ≤ 2 ^ 64 - 1 = omega (arith, was, slots, used, free, start, few, filled) in
        let m : min (slice_index old_store.used table + group.taken table) (2 ^ 64 - 1) ≡ slice_index old_store.used table + group.taken table = min-eq_left enough in
        taken.used table low ∙ omega (arith, m, was, both) ∙ sym now;
  }

  changed_then : IsTrue new.tells → AreChanged (known_in old_store.layouts) changes (old.content Pages) (new.content Pages)
  changed_then tells = subst (AreChanged (known_in old_store.layouts) changes (old.content Pages)) (sym (written tells))
      (group_changed (known_in old_store.layouts) old_store.pages (old.content Pages) changes group (group_is tells) (before.pages.counted (told tells)))

  -- the changes were made
  pub committed : IsCommitted changes old_store new_store old new
  committed = record {
    stands = stands_then;
    layouts = taken.layouts;
    scans = taken.scans;
    changed = changed_then;
    pages = λ tells. taken.pages ∙ ap (λ n. old_store.pages + n) (all_made (known_in old_store.layouts) old_store.pages (old.content Pages) changes group (group_is tells));
    sound = λ tells. (changed_then tells).sound (allowed (told tells)).pages;
  }

-- a stop within a commit leaves the changes whole or absent
pub stops_whole : (changes : List Change) (group : GroupState) (store : Store) (old new : Meaning) → Stands store old → IsStaged changes group store old → Allowed changes store old
    → Leaves (ReplaysToEither (old.content Pages) (with_ranges group.ranges (old.content Pages))) old new → Leaves (StopsWhole changes store old) old new
stops_whole changes group store old new before staged allowed leaves = leaves_weaker (StopsWhole changes store old) leaves (λ tells image is. by tells image is)
  where
    by : IsTrue new.tells_moments → (image : Disk) → ReplaysToEither (old.content Pages) (with_ranges group.ranges (old.content Pages)) image → StopsWhole changes store old image
    by tells image (inl absent) = inl absent
    by tells image (inr after) =
        let told = leaves.told (leaves.told_moments tells).1 in
        inr (with_ranges group.ranges (old.content Pages), after, group_changed (known_in store.layouts) store.pages (old.content Pages) changes group (staged.made told (allowed told)) (before.pages.counted told))
