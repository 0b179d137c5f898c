-- What a group of all changes means for the store, and that none of its steps is refused where the
-- changes may be made.
use Rattle.std.proofs.Common.{◌≡◌, ℕ, zero, suc, ◌+◌, ◌-◌, ◌*◌, ◌<◌, ◌≤◌, ◌&&◌, nat_eq, min, Bool, true, false, cond, not, List, [], ◌∷◌, ◌++◌, length, map, slice_index, None, Some, refl, sym, ap, subst, ◌∙◌, arith}
use Rattle.std.specs.Prelude.{count_by, sum_by, filter_map, is_some, All, IsSome}
use Rattle.std.specs.List.{range_with_len}
use Rattle.std.specs.FinMap as finite
use Rattle.std.proofs.lemmas.Bool.Decides.{nat_tests}
use Rattle.std.proofs.lemmas.List.{map-append}
use Rattle.std.proofs.lemmas.List.Sums.{sum_by-cons}
use Rattle.mt_journal.specs.Layout.{Area}
use Rattle.mt_journal.specs.Replay.{with_ranges}
use Rattle.mt_physplan.specs.declared.change.Change.{Change}
use Rattle.mt_physplan.specs.declared.change.Change.TheVariants.{Put, Mark, Remove, PutCat, RemoveCat}
use Rattle.mt_rowfile.specs.declared.slot.SlotRow.{SlotRow}
use Rattle.mt_physplan.specs.declared.key.Key.{Key}
use Rattle.mt_physplan.specs.Applied.{Catalogue, applied, applied_by, body_cmp, catalogue_applied, catalogue_applied_by}
use Rattle.mt_physplan.specs.Content.{Content}
use Rattle.mt_physplan.specs.Keys.{key_cmp, key_in}
use Rattle.mt_tables.specs.Pages.{page_count, table_at}
use Rattle.mt_tables.specs.Rows.{ArePages, IsReadableSlot, KnownLayouts, body_in, catalogue_of, layout_of, row_in, rows_of, sizes_of}
use Rattle.mt_tables.specs.Tables.{slots_below}
use Rattle.mt_tables.specs.Unique.{AreUnique}
use Rattle.mt_directory.specs.Directory.{directory_of, listed_table}
use Rattle.mt_places.specs.Named.{is_of, is_put, table_of}
use Rattle.mt_staging.specs.Group.{GroupState, IsGroup, IsLost, PutsReadable, is_new, new_keys, pages_of}
use Rattle.mt_staging.proofs.Lists.{count_by-append}
use Rattle.mt_chunkstore.specs.Changes.{AreChanged, AreThere, HasHead, IsThere, all_needed, free_at_start, free_count, page_count_of, pages_needed}
use Rattle.mt_chunkstore.proofs.Needed.{new_keys-append, new_keys_upto, one_larger, page_wanted, pages_exact, pages_together, pages_wanted}

pub there_then : (changes more : List Change) (rows : Content) (catalogue : Catalogue) → AreThere (changes ++ more) rows catalogue → AreThere more (applied changes rows) (catalogue_applied changes catalogue)
there_then [] more rows catalogue there = there
there_then (change ∷ changes) more rows catalogue there = there_then changes more (applied_by change rows) (catalogue_applied_by change catalogue) there.1

module _ (known : KnownLayouts) (count : ℕ) (area : Area) (start : ℕ → ℕ) (changes : List Change) (group : GroupState) (is : IsGroup known count area start changes group) where
  -- a row that was asked for and not found is none after the changes so far
  row_lacked : (key : Key) → finite.get group.places.rows key ≡ Some None → finite.get (applied changes (rows_of known area)) key ≡ None
  row_lacked key none = ap (λ rows. finite.get rows key) (sym (is.rows.made ∙ is.row_changes)) ∙ is.rows.lacked key none

  body_lacked : (key : ℕ × List ℕ) → finite.get group.places.bodies key ≡ Some None → finite.get (catalogue_applied changes (catalogue_of known area)) key ≡ None
  body_lacked key none = ap (λ bodies. finite.get bodies key) (sym (is.bodies.made ∙ is.body_changes)) ∙ is.bodies.lacked key none

  -- what is to be there is not lost
  pub none_lost : (change : Change) → IsThere change (applied changes (rows_of known area)) (catalogue_applied changes (catalogue_of known area)) → IsLost change group.places → ⊥
  none_lost (Put table slot) there lost = lost
  none_lost (Mark table tenant row mark) there lost = let h = row_lacked lost.0 lost.2 in let e = lost.1 in cc
  none_lost (Remove table tenant base chunk row) there lost = let h = row_lacked lost.0 lost.2 in let e = lost.1 in cc
  none_lost (PutCat table body) there lost = lost
  none_lost (RemoveCat table body) there lost = let h = body_lacked (table, body) lost in cc

  -- a slot that a change puts where none stands is new
  pub new_row : (table : ℕ) (slot : SlotRow) → finite.get group.places.rows (key_in table slot) ≡ Some None → is_new (Put table slot) (applied changes (rows_of known area)) (catalogue_applied changes (catalogue_of known area)) ≡ true
  new_row table slot none = ap (λ found. not (is_some found)) (row_lacked (key_in table slot) none)

  pub new_body : (table : ℕ) (body : List ℕ) → finite.get group.places.bodies (table, body) ≡ Some None → is_new (PutCat table body) (applied changes (rows_of known area)) (catalogue_applied changes (catalogue_of known area)) ≡ true
  new_body table body none = ap (λ found. not (is_some found)) (body_lacked (table, body) none)

  -- A page that a change needs is among those that all changes need.
  pub not_full : (change : Change) (rest : List Change) → ((t : ℕ) → start t ≡ free_at_start known (changes ++ change ∷ rest) count area t)
      → is_new change (applied changes (rows_of known area)) (catalogue_applied changes (catalogue_of known area)) ≡ true → group.places.free (table_of change) ≡ [] → table_of change < 32 → 1 ≤ (sizes_of known).count (table_of change)
      → count + length group.added + 1 ≤ count + all_needed known (changes ++ change ∷ rest) count area
  not_full change rest starts new none few some =
      let together = pages_together group.added is.tables_few in
      let larger = one_larger (λ t. pages_of t group.added) (pages_needed known (changes ++ change ∷ rest) count area) (table_of change) few (λ t. by t (nat_eq (table_of change) t) refl) in
      omega (arith, together, larger)
    where
      all : ℕ → ℕ
      all t = new_keys t (changes ++ change ∷ rest) (rows_of known area) (catalogue_of known area)

      puts : ℕ → ℕ
      puts t = count_by (λ change. is_put change && is_of t change) (changes ++ change ∷ rest)

      filled : (t : ℕ) → new_keys t changes (rows_of known area) (catalogue_of known area) + length (group.places.free t) ≡ min (puts t) (free_count (sizes_of known) t count area) + pages_of t group.added * (sizes_of known).count t
      filled t = ap (λ n. n + length (group.places.free t)) (sym (is.taken t)) ∙ is.filled t ∙ ap (λ n. n + pages_of t group.added * (sizes_of known).count t) (starts t)

      by : (t : ℕ) (b : Bool) → nat_eq (table_of change) t ≡ b → pages_of t group.added + cond b 1 0 ≤ pages_needed known (changes ++ change ∷ rest) count area t
      by t true e =
          let same : table_of change ≡ t = grind (arith, nat_tests, e) in
          let empty : length (group.places.free t) ≡ 0 = ap (λ u. length (group.places.free u)) (sym same) ∙ ap length none in
          let per : 1 ≤ (sizes_of known).count t = subst (λ u. 1 ≤ (sizes_of known).count u) same some in
          let split = new_keys-append t changes (change ∷ rest) (rows_of known area) (catalogue_of known area) in
          let one : ◌≡◌ {A = ℕ} (cond (nat_eq (table_of change) t && is_new change (applied changes (rows_of known area)) (catalogue_applied changes (catalogue_of known area))) 1 0) 1 = ap (λ c. cond (c && is_new change (applied changes (rows_of known area)) (catalogue_applied changes (catalogue_of known area))) 1 0) e ∙ ap (λ c. cond c 1 0) new in
          let f = filled t in
          let upto = new_keys_upto t (changes ++ change ∷ rest) (rows_of known area) (catalogue_of known area) in
          let more = page_wanted (all t) (new_keys t changes (rows_of known area) (catalogue_of known area)) (puts t) (free_count (sizes_of known) t count area) (pages_of t group.added) ((sizes_of known).count t) per (omega (arith, f, empty)) (omega (arith, split, one)) upto in
          omega (arith, more)
      by t false e =
          let split = new_keys-append t changes (change ∷ rest) (rows_of known area) (catalogue_of known area) in
          let upto = new_keys_upto t (changes ++ change ∷ rest) (rows_of known area) (catalogue_of known area) in
          let more = pages_wanted (all t) (new_keys t changes (rows_of known area) (catalogue_of known area)) (length (group.places.free t)) (puts t) (free_count (sizes_of known) t count area) (pages_of t group.added) ((sizes_of known).count t) (filled t) (omega (arith, split)) upto (is.needed t) in
          omega (arith, more)

-- lists and counts by what is said of each member
map_twice : (f g : ℕ → ℕ) (xs : List ℕ) → map (λ x. f (g x)) xs ≡ map f (map g xs)
map_twice f g [] = refl
map_twice f g (x ∷ xs) = ap (λ rest. f (g x) ∷ rest) (map_twice f g xs)

count_by-map : (p : ℕ → Bool) (g : ℕ → ℕ) (xs : List ℕ) → count_by (λ x. p (g x)) xs ≡ count_by p (map g xs)
count_by-map p g [] = refl
count_by-map p g (x ∷ xs) =
    sum_by-cons (λ y. cond (p (g y)) 1 0) x xs ∙ ap (λ n. cond (p (g x)) 1 0 + n) (count_by-map p g xs) ∙ sym (sum_by-cons (λ y. cond (p y) 1 0) (g x) (map g xs))

module _ (known : KnownLayouts) (count : ℕ) (area : Area) (changes : List Change) (group : GroupState) (is : IsGroup known count area (free_at_start known changes count area) changes group) where
  abbrev new : Area
  new = with_ranges group.ranges area

  -- the pages of a table that a group makes are those that its changes need
  made_of : (t : ℕ) → pages_of t group.added ≡ pages_needed known changes count area t
  made_of t =
      let taken = is.taken t in
      let filled = is.filled t in
      pages_exact (new_keys t changes (rows_of known area) (catalogue_of known area)) (length (group.places.free t)) (count_by (λ change. is_put change && is_of t change) changes) (free_count (sizes_of known) t count area) (pages_of t group.added) ((sizes_of known).count t)
      (omega (arith, taken, filled)) (new_keys_upto t changes (rows_of known area) (catalogue_of known area)) (is.needed t)

  -- and so are those of all tables
  pub all_made : length group.added ≡ all_needed known changes count area
  all_made = sym (pages_together group.added is.tables_few) ∙ ap (λ (f : ℕ → ℕ). sum_by f (range_with_len 0 32)) (λ i t. made_of t i)

  -- behind the tables of the pages that were stand those of the pages that the group makes
  tables_behind : 1 ≤ count → map (table_at new) (range_with_len 1 (count + length group.added - 1)) ≡ map (table_at area) (range_with_len 1 (count - 1)) ++ group.added
  tables_behind some =
      let e : count + length group.added - 1 ≡ (count - 1) + length group.added = omega arith in
      ap (λ n. map (table_at new) (range_with_len 1 n)) e ∙ first 1 (count - 1) (omega arith) (λ page from upto. is.tables_stand page from (omega arith))
    where
      -- the pages that the group makes, from one on
      later : (i n : ℕ) (added : List ℕ) → length added ≡ n → ((j : ℕ) → j < n → slice_index added j ≡ slice_index group.added (i + j)) → i + n ≡ length group.added → map (table_at new) (range_with_len (count + i) n) ≡ added
      later i zero [] size same end = refl
      later i (suc n) [] size same end = absurd (omega arith)
      later i zero (table ∷ added) size same end = absurd (omega arith)
      later i (suc n) (table ∷ added) size same end =
          let here : slice_index group.added i ≡ table = (let h = same 0 (omega arith) in let z : i + 0 ≡ i = omega arith in ap (slice_index group.added) (sym z) ∙ sym h) in
          let one : table_at new (count + i) ≡ table = is.tables_added i (omega arith) ∙ here in
          let next : count + i + 1 ≡ count + (i + 1) = omega arith in
          let rest = later (i + 1) n added (omega arith) (λ j within. same (suc j) (omega arith) ∙ ap (slice_index group.added) (omega arith)) (omega arith) in
          λ k. one k ∷ (ap (λ first. map (table_at new) (range_with_len first n)) next ∙ rest) k

      -- and those in front of them
      first : (from n : ℕ) → from + n ≡ count → ((page : ℕ) → from ≤ page → page < count → table_at new page ≡ table_at area page)
          → map (table_at new) (range_with_len from (n + length group.added)) ≡ map (table_at area) (range_with_len from n) ++ group.added
      first from zero end same =
          let z : 0 + length group.added ≡ length group.added = omega arith in
          let c : from ≡ count + 0 = omega arith in
          ap (λ n. map (table_at new) (range_with_len from n)) z ∙ ap (λ f. map (table_at new) (range_with_len f (length group.added))) c
          ∙ later 0 (length group.added) group.added refl (λ j within. ap (slice_index group.added) (omega arith)) (omega arith)
      first from (suc n) end same =
          let s : suc n + length group.added ≡ suc (n + length group.added) = omega arith in
          ap (λ n. map (table_at new) (range_with_len from n)) s
          ∙ (λ k. same from (omega arith) (omega arith) k ∷ first (from + 1) n (omega arith) (λ page low high. same page (omega arith) high) k)

  -- the directory has the tables of the pages that the group makes behind those that were
  pub group_listed : 1 ≤ count → directory_of (count + length group.added) new ≡ directory_of count area ++ map listed_table group.added
  group_listed some =
      map_twice listed_table (table_at new) (range_with_len 1 (count + length group.added - 1)) ∙ ap (map listed_table) (tables_behind some)
      ∙ map-append listed_table (map (table_at area) (range_with_len 1 (count - 1))) group.added
      ∙ ap (λ tables. tables ++ map listed_table group.added) (sym (map_twice listed_table (table_at area) (range_with_len 1 (count - 1))))

  -- and each table has as many more as are made of it
  counted_of : page_count area ≡ count → (t : ℕ) → page_count_of t new ≡ page_count_of t area + pages_of t group.added
  counted_of counted t =
      let some : 1 ≤ count = omega (arith, counted) in
      ap (λ n. count_by (λ page. nat_eq (table_at new page) t) (range_with_len 1 (n - 1))) is.counted
      ∙ count_by-map (λ table. nat_eq table t) (table_at new) (range_with_len 1 (count + length group.added - 1)) ∙ ap (count_by (λ table. nat_eq table t)) (tables_behind some)
      ∙ count_by-append (λ table. nat_eq table t) (map (table_at area) (range_with_len 1 (count - 1))) group.added
      ∙ ap (λ n. n + pages_of t group.added) (sym (count_by-map (λ table. nat_eq table t) (table_at area) (range_with_len 1 (count - 1))))
      ∙ ap (λ n. count_by (λ page. nat_eq (table_at area page) t) (range_with_len 1 (n - 1)) + pages_of t group.added) (sym counted)

  -- a page that the group makes has a head
  head_made : (page : ℕ) → count ≤ page → page < count + length group.added → HasHead known new page
  head_made page from upto =
      let i = page - count in
      let same : count + i ≡ page = omega arith in
      let within : i < length group.added = omega arith in
      subst (HasHead known new) same (record {
        table_known = subst (λ table. IsSome (layout_of known table)) (sym (is.tables_added i within)) (is.tables_known i within);
        blank = λ k low high. is.heads_blank i k within low high;
      })

  -- the pages can be read, where what was put can
  group_sound : page_count area ≡ count → ArePages known area → All PutsReadable changes → ArePages known new
  group_sound counted pages puts = record {
    readable = subst (λ n. All (IsReadableSlot known) (slots_below (sizes_of known) n new)) (sym is.counted)
        (is.readable (subst (λ n. All (IsReadableSlot known) (slots_below (sizes_of known) n area)) counted pages.readable) puts);
    rows_once = subst (λ n. AreUnique key_cmp (row_in known) (slots_below (sizes_of known) n new)) (sym is.counted) is.rows.unique;
    bodies_once = subst (λ n. AreUnique body_cmp body_in (slots_below (sizes_of known) n new)) (sym is.counted) is.bodies.unique;
  }

  -- once it is written, the pages are those of before after the changes
  pub group_changed : page_count area ≡ count → AreChanged known changes area new
  group_changed counted = record {
    rows = ap (λ n. finite.from_entries (filter_map (row_in known) (slots_below (sizes_of known) n new))) is.counted ∙ is.rows.made ∙ is.row_changes;
    catalogue = ap (λ n. finite.from_entries (filter_map body_in (slots_below (sizes_of known) n new))) is.counted ∙ is.bodies.made ∙ is.body_changes;
    page_zero = is.page_zero;
    count = is.counted ∙ ap (λ n. count + n) all_made ∙ ap (λ n. n + all_needed known changes n area) (sym counted);
    of_tables = λ table. counted_of counted table ∙ ap (λ n. page_count_of table area + n) (made_of table ∙ ap (λ n. pages_needed known changes n area table) (sym counted));
    heads_stand = λ page k some low within. is.heads_stand page k some (omega (arith, low, counted)) within;
    heads_made = λ page from upto. let then = is.counted in head_made page (omega (arith, from, counted)) (omega (arith, upto, then));
    sound = group_sound counted;
  }
