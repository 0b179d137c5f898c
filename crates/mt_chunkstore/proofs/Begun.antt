-- What a look through the pages found is the group of no changes.
use Rattle.std.proofs.Common.{◌≡◌, ℕ, ◌+◌, ◌*◌, ◌≤◌, ◌^◌, ◌&&◌, nat_eq, min, cond, List, [], ◌∷◌, length, map, take, refl, sym, ap, subst, ◌∙◌, arith}
use Rattle.std.specs.Prelude.{count_by, filter, All}
use Rattle.std.specs.FinMap as finite
use Rattle.std.proofs.lemmas.List.{length-map, length-take}
use Rattle.std.proofs.lemmas.List.Sums.{length-filter, sum_by-cons}
use Rattle.mt_journal.specs.Layout.{Area}
use Rattle.mt_journal.specs.Commits.{payload_size}
use Rattle.mt_journal.specs.Replay.{with_ranges}
use Rattle.mt_rowfile.specs.Pages.{is_free}
use Rattle.mt_physplan.specs.declared.change.Change.{Change}
use Rattle.mt_physplan.specs.Applied.{body_cmp}
use Rattle.mt_physplan.specs.Keys.{key_cmp}
use Rattle.mt_physplan.proofs.Keys.{keys_exact, keys_total}
use Rattle.mt_tables.specs.Pages.{SlotPlace, SlotSizes, page_count, places_below, table_at}
use Rattle.mt_tables.specs.Plan.{IsPlan, free_in, placed, sought}
use Rattle.mt_tables.specs.Rows.{ArePages, IsReadableSlot, KnownLayouts, body_in, row_in, sizes_of}
use Rattle.mt_tables.specs.Tables.{slot_at, slots_below}
use Rattle.mt_tables.specs.Unique.{AreUnique}
use Rattle.mt_tables.proofs.Begins.{plan_begins}
use Rattle.mt_tables.proofs.Bodies.{bodies_exact, bodies_total}
use Rattle.mt_tables.proofs.Readings.{body_free, body_of_table, row_free, row_of_table}
use Rattle.mt_tables.proofs.Sizes.{sizes_sound}
use Rattle.mt_pages.specs.Control.{IsPageZero}
use Rattle.mt_places.specs.Named.{body_key, row_key}
use Rattle.mt_places.specs.Places.{IsBegun, PlacesState}
use Rattle.mt_staging.specs.Group.{GroupState, IsGroup, pages_of, used_in}
use Rattle.mt_chunkstore.specs.Changes.{free_at_start}
use Rattle.mt_chunkstore.specs.Walked.{IsWalked}
use Rattle.mt_chunkstore.proofs.Walked.{no_place}

-- the free positions of a table are as many as its free slots
free_counted : (sizes : SlotSizes) (area : Area) (table : ℕ) (places : List SlotPlace)
    → length (free_in table (placed sizes area places)) ≡ count_by (λ slot. nat_eq slot.0 table && is_free slot.1) (map (slot_at sizes area) places)
free_counted sizes area table places =
    length-map (filter (λ slot. nat_eq slot.0.table table && is_free slot.1.1) (placed sizes area places)) (λ slot. slot.0.position)
    ∙ length-filter (λ slot. nat_eq slot.0.table table && is_free slot.1.1) (placed sizes area places)
    ∙ by places
  where
    by : (rest : List SlotPlace) → count_by (λ slot. nat_eq slot.0.table table && is_free slot.1.1) (placed sizes area rest) ≡ count_by (λ slot. nat_eq slot.0 table && is_free slot.1) (map (slot_at sizes area) rest)
    by [] = refl
    by (place ∷ rest) =
        sum_by-cons (λ slot. cond (nat_eq slot.0.table table && is_free slot.1.1) 1 0) (place, slot_at sizes area place) (placed sizes area rest)
        ∙ ap (λ n. cond (nat_eq place.table table && is_free (slot_at sizes area place).1) 1 0 + n) (by rest)
        ∙ sym (sum_by-cons (λ slot. cond (nat_eq slot.0 table && is_free slot.1) 1 0) (slot_at sizes area place) (map (slot_at sizes area) rest))

-- a group of no ranges over what was found
pub group_begins : (known : KnownLayouts) (area : Area) (count : ℕ) (changes : List Change) (begun : PlacesState) (group : GroupState)
    → ArePages known area → page_count area ≡ count → count ≤ 2 ^ 28 → IsBegun changes begun → IsWalked known area count begun group.places
    → group.ranges ≡ [] → group.added ≡ [] → ((table : ℕ) → group.taken table ≡ 0) → ((table : ℕ) → group.freed table ≡ 0)
    → IsGroup known count area (free_at_start known changes count area) [] group
group_begins known area count changes begun group pages counted upto start walked ranges added taken freed =
    let sizes = sizes_of known in
    let here : count + length group.added ≡ count = (let l = ap length added in omega (arith, l)) in
    let same : page_count area ≡ count + length group.added = counted ∙ sym here in
    let found = placed sizes area (places_below sizes count area) in
    let free_is : group.places.free ≡ (λ table. take (begun.wanted table) (free_in table found)) = (λ i table. walked.free table i) in
    let wanted : (table : ℕ) → length (group.places.free table) ≡ free_at_start known changes count area table =
    (λ table. ap length (walked.free table) ∙ length-take (begun.wanted table) (free_in table found) ∙ ap (λ n. min n (length (free_in table found))) (start.wanted table) ∙ ap (min _) (free_counted sizes area table (places_below sizes count area))) in
    let none : with_ranges group.ranges area ≡ area = ap (λ r. with_ranges r area) ranges in
    record {
      row_values = [];
      row_changes = refl;
      rows =
          subst (λ n. IsPlan sizes (row_in known) key_cmp (λ key. key.table) n area [] group.ranges group.places.rows group.places.free) (sym here)
          (subst (λ r. IsPlan sizes (row_in known) key_cmp (λ key. key.table) count area [] r group.places.rows group.places.free) (sym ranges)
          (subst (λ rows. IsPlan sizes (row_in known) key_cmp (λ key. key.table) count area [] [] rows group.places.free) (sym walked.rows)
          (subst (IsPlan sizes (row_in known) key_cmp (λ key. key.table) count area [] [] (sought (row_in known) found begun.rows)) (sym free_is)
          (plan_begins keys_total keys_exact sizes (row_in known) (λ key. key.table) count area (row_of_table known) (sizes_sound known) (row_free known) counted
          (subst (λ n. AreUnique key_cmp (row_in known) (slots_below sizes n area)) counted pages.rows_once) begun.rows
          (λ key position there. no_place keys_total keys_exact row_key changes key position (ap (λ rows. finite.get rows key) (sym start.rows) ∙ there)) begun.wanted))));
      body_values = [];
      body_changes = refl;
      bodies =
          subst (λ n. IsPlan sizes body_in body_cmp (λ key. key.0) n area [] group.ranges group.places.bodies group.places.free) (sym here)
          (subst (λ r. IsPlan sizes body_in body_cmp (λ key. key.0) count area [] r group.places.bodies group.places.free) (sym ranges)
          (subst (λ bodies. IsPlan sizes body_in body_cmp (λ key. key.0) count area [] [] bodies group.places.free) (sym walked.bodies)
          (subst (IsPlan sizes body_in body_cmp (λ key. key.0) count area [] [] (sought body_in found begun.bodies)) (sym free_is)
          (plan_begins bodies_total bodies_exact sizes body_in (λ key. key.0) count area body_of_table (sizes_sound known) body_free counted
          (subst (λ n. AreUnique body_cmp body_in (slots_below sizes n area)) counted pages.bodies_once) begun.bodies
          (λ key position there. no_place bodies_total bodies_exact body_key changes key position (ap (λ bodies. finite.get bodies key) (sym start.bodies) ∙ there)) begun.wanted))));
      counted = ap page_count none ∙ same;
      tables_stand = λ page some below. ap (λ a. table_at a page) none;
      tables_added = λ i within. absurd (let l = ap length added in omega arith);
      heads_stand = λ page k some below within. ap (λ (a : Area). a (4096 * page + k)) none;
      heads_blank = λ i k within low high. absurd (let l = ap length added in omega arith);
      taken = taken;
      filled = λ t.
          let nothing : pages_of t group.added ≡ 0 = ap (pages_of t) added in
          let w = wanted t in
          let k = taken t in
          ap (λ n. n + length (group.places.free t)) k ∙ (let z : 0 + length (group.places.free t) ≡ length (group.places.free t) = omega arith in z ∙ w)
          ∙ sym (ap (λ n. free_at_start known changes count area t + n * sizes.count t) nothing ∙ omega arith);
      needed = λ t some. absurd (let nothing : pages_of t group.added ≡ 0 = ap (pages_of t) added in omega arith);
      used = λ t.
          ap (λ n. n + group.freed t) (ap (λ m. used_in sizes t m (with_ranges group.ranges area)) here ∙ ap (used_in sizes t count) none)
          ∙ ap (λ n. used_in sizes t count area + n) (freed t ∙ sym (taken t));
      readable = λ all puts. subst (λ a. All (IsReadableSlot known) (slots_below sizes (count + length group.added) a)) (sym none) (subst (λ n. All (IsReadableSlot known) (slots_below sizes n area)) (sym here) all);
      page_zero = λ is. subst IsPageZero (sym none) is;
      tables_few = λ i within. absurd (let l = ap length added in omega arith);
      tables_known = λ i within. absurd (let l = ap length added in omega arith);
      pages_few = omega (arith, here, upto);
      few = (let l = ap length ranges in omega arith);
      short = (let l = ap payload_size ranges in omega arith);
    }
