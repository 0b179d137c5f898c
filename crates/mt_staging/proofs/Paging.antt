-- A page more of a table: what stands, with its slots behind all others.
use Rattle.std.proofs.Common.{◌≡◌, ℕ, zero, suc, ◌+◌, ◌-◌, ◌*◌, ◌^◌, ◌<◌, ◌≤◌, ◌==◌, ◌&&◌, Bool, true, false, not, cond, nat_eq, List, [], ◌∷◌, ◌++◌, length, map, replicate, slice_index, count_by, All, IfSome, Option, None, Some, refl, sym, ap, ◌∙◌, inl, arith, subst}
use Rattle.std.specs.List.{range_with_len}
use Rattle.std.proofs.lemmas.List.{get_or_append_left, length-replicate}
use Rattle.std.proofs.lemmas.List.Elements.{All-append, All-replicate}
use Rattle.mt_journal.specs.Layout.{Area, Range}
use Rattle.mt_journal.specs.Replay.{with_ranges}
use Rattle.mt_rowfile.specs.declared.layout.Layout.{Layout}
use Rattle.mt_rowfile.specs.Layouts.{slot_width}
use Rattle.mt_rowfile.specs.Pages.{is_free}
use Rattle.mt_rowfile.specs.Slots.{IsSlot}
use Rattle.mt_physplan.specs.declared.change.Change.{Change}
use Rattle.mt_physplan.specs.Applied.{body_cmp}
use Rattle.mt_physplan.specs.Keys.{key_cmp}
use Rattle.mt_pages.specs.Control.{IsPageZero, page_bytes, page_ranges}
use Rattle.mt_pages.proofs.Made.{counted_then, new_page}
use Rattle.mt_places.specs.Places.{with_free_page}
use Rattle.mt_tables.specs.Commit.{IsNewPage}
use Rattle.mt_tables.specs.Pages.{page_count, slot_position, table_at}
use Rattle.mt_tables.specs.Plan.{IsPlan, with_page}
use Rattle.mt_tables.specs.Rows.{IsReadableSlot, KnownLayouts, body_in, layout_of, row_in, sizes_of, width_by}
use Rattle.mt_tables.specs.Rows as layouts
use Rattle.mt_tables.specs.Tables.{TableSlot, slots_below}
use Rattle.mt_tables.proofs.Bytes.{put_at}
use Rattle.mt_tables.proofs.Plans.{plan_with_page}
use Rattle.mt_tables.proofs.Readings.{body_free, row_free}
use Rattle.mt_tables.proofs.Sizes.{sizes_sound}
use Rattle.mt_tables.proofs.Written.{blank_slot, page_added}
use Rattle.mt_staging.specs.Group.{GroupState, used_in}
use Rattle.mt_staging.specs.Steps.{page_made}
use Rattle.mt_staging.proofs.Lists.{count_by-append, count_by-none, each_with_last, last_member}
use Rattle.mt_staging.proofs.Outside.{head_blank, heads_before, same_table, with_ranges-append, zero_written}
use Rattle.mt_staging.proofs.Standing.{Stands}

zero_first : (n : ℕ) → (slice_index (replicate n 0) 0 == 0) ≡ true
zero_first zero = refl
zero_first (suc n) = refl

-- the free positions of a page, by the layout that is known
pub page_free : (known : KnownLayouts) (layout : Layout) (table page : ℕ) (free : ℕ → List ℕ) → layout_of known table ≡ Some layout → with_page (sizes_of known) table page free ≡ with_free_page layout table page free
page_free known layout table page free found =
    λ i t. cond (nat_eq t table) (free t ++ map (slot_position (width_by (found i)) page) (range_with_len 0 (layouts.slot_count_by (found i)))) (free t)

-- a blank slot can be read, since it is free
blank_readable : (found : Option Layout) → IfSome found (λ layout. IsSlot layout (replicate (width_by found) 0))
blank_readable None = tt
blank_readable (Some layout) = record { size = length-replicate (slot_width layout) 0; free_or_used = inl (first (slot_width layout)) }
  where
    first : (n : ℕ) → slice_index (replicate n 0) 0 ≡ 0
    first zero = refl
    first (suc n) = refl

module _ (known : KnownLayouts) (count : ℕ) (area : Area) (changes : List Change) (layout : Layout) (table : ℕ) (group : GroupState) where
  abbrev total : ℕ
  total = count + length group.added

  abbrev before : Area
  before = with_ranges group.ranges area

  abbrev more : List Range
  more = page_ranges table total

  -- a page that is made adds no slot in use
  page_unused : (new : Area) → IsNewPage total table before new → (t : ℕ) → used_in (sizes_of known) t (total + 1) new ≡ used_in (sizes_of known) t total before
  page_unused new is t =
      let p : TableSlot → Bool = λ slot. nat_eq slot.0 t && not (is_free slot.1) in
      let blanks : List TableSlot = replicate ((sizes_of known).count table) (blank_slot (sizes_of known) table) in
      let none : count_by p blanks ≡ 0 = count_by-none p ((sizes_of known).count table) (blank_slot (sizes_of known) table) (unused (nat_eq table t) ((sizes_of known).width table)) in
      ap (count_by p) (page_added (sizes_of known) (sizes_sound known) total before new table is)
      ∙ count_by-append p (slots_below (sizes_of known) total before) blanks ∙ ap (λ n. count_by p (slots_below (sizes_of known) total before) + n) none ∙ omega arith
    where
      unused : (b : Bool) (n : ℕ) → (b && not (is_free (replicate n 0))) ≡ false
      unused true n = ap not (zero_first n)
      unused false n = refl

  tables_then : (new : Area) → IsNewPage total table before new → ((i : ℕ) → i < length group.added → table_at before (count + i) ≡ slice_index group.added i) → 1 ≤ count
      → (i : ℕ) → i < length (group.added ++ table ∷ []) → table_at new (count + i) ≡ slice_index (group.added ++ table ∷ []) i
  tables_then new is added some = each_with_last (λ i. table_at new (count + i) ≡ slice_index (group.added ++ table ∷ []) i) group.added table
      (λ i low. same_table before new (count + i) (λ k within. heads_before before new table total (count + i) k is (omega (arith, some)) (omega (arith, low)) within)
      ∙ added i low ∙ sym (get_or_append_left group.added (table ∷ []) 0 i low))
      (is.head ∙ sym (last_member group.added table))

  heads_then : (new : Area) → IsNewPage total table before new → ((k : ℕ) → 4 ≤ k → k < 8 → new (4096 * total + k) ≡ 0) → 1 ≤ count
      → ((i k : ℕ) → i < length group.added → 4 ≤ k → k < 8 → before (4096 * (count + i) + k) ≡ 0)
      → (i k : ℕ) → i < length (group.added ++ table ∷ []) → 4 ≤ k → k < 8 → new (4096 * (count + i) + k) ≡ 0
  heads_then new is made some blank i k within low high = each_with_last (λ i. new (4096 * (count + i) + k) ≡ 0) group.added table
      (λ i inside. heads_before before new table total (count + i) k is (omega (arith, some)) (omega (arith, inside)) high ∙ blank i k inside low high)
      (made k low high) i within

  pub page_stands : Stands known count total area changes group → layout_of known table ≡ Some layout → 1 ≤ count → total < 2 ^ 28 → table ≤ 31
      → Stands known count (total + 1) area changes (page_made layout table count group)
  page_stands s found some few small =
      let new = with_ranges (group.ranges ++ more) area in
      let last : new ≡ with_ranges more before = with_ranges-append group.ranges more area in
      let is : IsNewPage total table before new = subst (IsNewPage total table before) (sym last) (new_page before table total (omega (arith, small)) (omega (arith, some))) in
      let free = page_free known layout table total group.places.free found in
      record {
        row_values = s.row_values;
        row_changes = s.row_changes;
        rows = subst (IsPlan (sizes_of known) (row_in known) key_cmp (λ key. key.table) (total + 1) area s.row_values (group.ranges ++ more) group.places.rows) free
            (plan_with_page key_cmp (sizes_of known) (sizes_sound known) (row_in known) (λ k. k.table) total area s.row_values group.ranges more group.places.rows group.places.free table s.rows is
            (row_free known (blank_slot (sizes_of known) table) (zero_first ((sizes_of known).width table))));
        body_values = s.body_values;
        body_changes = s.body_changes;
        bodies = subst (IsPlan (sizes_of known) body_in body_cmp (λ key. key.0) (total + 1) area s.body_values (group.ranges ++ more) group.places.bodies) free
            (plan_with_page body_cmp (sizes_of known) (sizes_sound known) body_in (λ k. k.0) total area s.body_values group.ranges more group.places.bodies group.places.free table s.bodies is
            (body_free (blank_slot (sizes_of known) table) (zero_first ((sizes_of known).width table))));
        counted = ap page_count last ∙ counted_then (total + 1) (put_at (4096 * total) (page_bytes table) before) (omega arith) (omega (arith, few));
        tables_added = tables_then new is s.tables_added some;
        heads_stand = λ page k first low within. heads_before before new table total page k is first (omega (arith, low)) within ∙ s.heads_stand page k first low within;
        heads_blank = heads_then new is (λ k low high. ap (λ (a : Area). a (4096 * total + k)) last ∙ head_blank before table total k (omega (arith, some)) low high) some s.heads_blank;
        taken = s.taken;
        used = λ t. ap (λ n. n + group.freed t) (page_unused new is t) ∙ s.used t;
        page_zero = λ sound. subst IsPageZero (sym last) (zero_written (total + 1) (put_at (4096 * total) (page_bytes table) before) (omega arith) (omega (arith, few)));
        readable = λ good puts. subst (All (IsReadableSlot known)) (sym (page_added (sizes_of known) (sizes_sound known) total before new table is))
            (All-append (IsReadableSlot known) (slots_below (sizes_of known) total before) (replicate ((sizes_of known).count table) (blank_slot (sizes_of known) table)) (s.readable good puts)
            (All-replicate (IsReadableSlot known) ((sizes_of known).count table) (blank_slot (sizes_of known) table) (blank_readable (layout_of known table))));
      }
