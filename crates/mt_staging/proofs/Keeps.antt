-- Each kind of change keeps a group: its ranges then make that change too.
use Rattle.std.proofs.Common.{◌≡◌, ℕ, ◌+◌, ◌*◌, ◌^◌, ◌<◌, ◌≤◌, ◌==◌, Bool, true, false, nat_eq, List, [], ◌∷◌, ◌++◌, length, slice_index, Option, None, Some, refl, sym, ap, ◌∙◌, inl, inr, arith, subst, length-append}
use Rattle.std.proofs.lemmas.Bool.Decides.{nat_tests}
use Rattle.std.specs.FinMap as finite
use Rattle.mt_journal.specs.Layout.{Area, Range}
use Rattle.mt_journal.specs.Replay.{with_ranges}
use Rattle.mt_rowfile.specs.declared.layout.Head.TheVariants.{Catalogue, Conventional}
use Rattle.mt_rowfile.specs.declared.layout.Layout.{Layout}
use Rattle.mt_rowfile.specs.declared.slot.SlotRow.{SlotRow}
use Rattle.mt_rowfile.specs.Fields.{AreKinds}
use Rattle.mt_rowfile.specs.Layouts.{IsLayout, IsOfRows, body_width, slots_per_page}
use Rattle.mt_rowfile.specs.Slots.{FitsLayout, HasNumbers, IsMark, slot_bytes}
use Rattle.mt_physplan.specs.declared.change.Change.{Change}
use Rattle.mt_physplan.specs.declared.change.Change.TheVariants.{Put, Mark, Remove, PutCat, RemoveCat}
use Rattle.mt_physplan.specs.declared.key.Cell.{Cell}
use Rattle.mt_physplan.specs.declared.key.Key.{Key}
use Rattle.mt_physplan.specs.Applied.{applied, body_cmp, catalogue_applied, with_mark}
use Rattle.mt_physplan.specs.Keys.{cell_of, conventional_key, key_cmp, key_in}
use Rattle.mt_physplan.proofs.Keys.{keys_total}
use Rattle.mt_tables.specs.Pages.{SlotPlace, bytes_at}
use Rattle.mt_tables.specs.Plan.{AreFree, Says, without_first}
use Rattle.mt_tables.specs.Rows.{IsReadableSlot, KnownLayouts, body_in, catalogue_of, is_of_catalogue, layout_of, row_in, rows_of, sizes_of}
use Rattle.mt_tables.specs.Tables.{TableSlot, overwritten}
use Rattle.mt_tables.proofs.Bodies.{bodies_total}
use Rattle.mt_tables.proofs.Bytes.{length-bytes_at, overwrites_all}
use Rattle.mt_tables.proofs.Readings as readings
use Rattle.mt_tables.proofs.Sizes.{sizes_sound}
use Rattle.mt_staging.specs.Group.{GroupState, IsGroup, PutsReadable}
use Rattle.mt_staging.specs.Steps.{FindsFree, MakesPage, PutsSlot, TakesAway, TakesFirst, WritesFree, WritesOver, one_freed, one_taken, page_made, with_body, with_free, with_row, with_write}
use Rattle.mt_staging.proofs.Effects.{body_readable, body_small, catalogue_width, emptied_readable, is_slot, marked_readable, never_new, none_new, one_new, read_again, readable_by, slot_by, width_is, width_small}
use Rattle.mt_staging.proofs.Groups.{AreNumbers, IsWithPage, IsWithin, filled_taken, group_of_parts, less_taken, numbers_of, numbers_with_page, numbers_within, stands_of}
use Rattle.mt_staging.proofs.Keys.{plan_found, plan_lacks}
use Rattle.mt_staging.proofs.Lists.{once}
use Rattle.mt_staging.proofs.Low.{place_low}
use Rattle.mt_staging.proofs.OneSlot.{body_removed, body_rewritten, body_taken, row_removed, row_rewritten, row_taken}
use Rattle.mt_staging.proofs.Pairs.{said_there}
use Rattle.mt_staging.proofs.Paging.{page_stands}
use Rattle.mt_staging.proofs.Slots.{catalogue_there, emptied_free, marked_row, row_is_used, used_body, written_row}
use Rattle.mt_staging.proofs.Standing.{Stands}

not_zero : (n : ℕ) → (n == 0) ≡ false → n ≡ 0 → ⊥
not_zero n e z = grind (arith, nat_tests, e, z)

module _ (known : KnownLayouts) (count : ℕ) (area : Area) (start : ℕ → ℕ) (changes : List Change) (old : GroupState) (g : IsGroup known count area start changes old) where
  abbrev total : ℕ
  total = count + length old.added

  abbrev before : Area
  before = with_ranges old.ranges area

  abbrev width : ℕ → ℕ
  width table = (sizes_of known).width table

  s : Stands known count total area changes old
  s = stands_of known count area start changes old g

  n : AreNumbers known count start changes old
  n = numbers_of known count area start changes old g

  -- the rows so far at a key that was asked for
  row_there : (key : Key) (p : ℕ) (is : finite.get old.places.rows key ≡ Some (Some p)) → finite.get (applied changes (rows_of known area)) key ≡ Some (s.rows.held key p is).0
  row_there key p is =
      ap (λ m. finite.get m key) (sym s.row_changes)
      ∙ plan_found keys_total (sizes_of known) (sizes_sound known) (row_in known) (λ k. k.table) total area s.row_values old.ranges old.places.rows old.places.free s.rows key p is

  row_nowhere : (key : Key) → finite.get old.places.rows key ≡ Some None → finite.get (applied changes (rows_of known area)) key ≡ None
  row_nowhere key is =
      ap (λ m. finite.get m key) (sym s.row_changes)
      ∙ plan_lacks keys_total (sizes_of known) (sizes_sound known) (row_in known) (λ k. k.table) total area s.row_values old.ranges old.places.rows old.places.free s.rows key is

  body_there : (key : ℕ × List ℕ) (p : ℕ) (is : finite.get old.places.bodies key ≡ Some (Some p)) → finite.get (catalogue_applied changes (catalogue_of known area)) key ≡ Some (s.bodies.held key p is).0
  body_there key p is =
      ap (λ m. finite.get m key) (sym s.body_changes)
      ∙ plan_found bodies_total (sizes_of known) (sizes_sound known) body_in (λ k. k.0) total area s.body_values old.ranges old.places.bodies old.places.free s.bodies key p is

  body_nowhere : (key : ℕ × List ℕ) → finite.get old.places.bodies key ≡ Some None → finite.get (catalogue_applied changes (catalogue_of known area)) key ≡ None
  body_nowhere key is =
      ap (λ m. finite.get m key) (sym s.body_changes)
      ∙ plan_lacks bodies_total (sizes_of known) (sizes_sound known) body_in (λ k. k.0) total area s.body_values old.ranges old.places.bodies old.places.free s.bodies key is

  -- the numbers once one range more was written over a slot
  over_numbers : (change : Change) (p : ℕ) (bytes : List ℕ) → length bytes ≤ 4096 → AreNumbers known count start (changes ++ change ∷ []) (with_write p bytes old)
  over_numbers change p bytes short =
      numbers_within known count start changes change old (with_write p bytes old) n (record { position = p; bytes = bytes; ranges = refl; short = short; added = refl; filled = λ t. refl; no_more = λ t. omega arith })

  pub mark_keeps : (layout : Layout) (table tenant row mark : ℕ) (new : GroupState) → layout_of known table ≡ Some layout → layout.head ≡ Conventional → IsMark Conventional mark
      → WritesOver (finite.get old.places.rows (conventional_key table tenant row)) (mark ∷ []) old new → IsGroup known count area start (changes ++ Mark table tenant row mark ∷ []) new
  mark_keeps layout table tenant row mark new found head is w =
      let key = conventional_key table tenant row in
      let p = w.position in
      let change : Change = Mark table tenant row mark in
      let held = s.rows.held key p w.stands in
      let place : SlotPlace = record { table = table; position = p } in
      let bytes : List ℕ = bytes_at before p (width table) in
      let some = (sizes_sound known).some table in
      let long = length-bytes_at before p (width table) in
      let old_says : row_in known (table, bytes) ≡ Some (key, held.0) = said_there (sizes_of known) (row_in known) total before place (Some (key, held.0)) held.1 in
      let cell : Cell = record { mark = mark; values = held.0.values } in
      let says : row_in known (table, overwritten (mark ∷ []) bytes) ≡ Some (key, cell) = marked_row known table mark layout bytes key held.0 found head is (omega (arith, some, long)) old_says in
      let used = not_zero (slice_index bytes 0) (row_is_used known (table, bytes) (key, held.0) old_says) in
      let stands = row_rewritten known count total area changes change old s key layout found (subst IsOfRows (sym head) tt) p cell (mark ∷ []) w.stands (omega (arith, some)) says
      (ap (λ o. with_mark mark key o (applied changes (rows_of known area))) (row_there key p w.stands), refl, λ t. never_new (nat_eq table t))
      (λ r puts. readable_by known table layout (overwritten (mark ∷ []) bytes) found (marked_readable layout mark bytes head is used (slot_by known table layout bytes found r))) in
      subst (IsGroup known count area start (changes ++ change ∷ [])) (sym w.written)
      (group_of_parts known count area start (changes ++ change ∷ []) (with_write p (mark ∷ []) old) stands (over_numbers change p (mark ∷ []) (omega arith)))

  pub remove_keeps : (layout : Layout) (table tenant base chunk row : ℕ) (new : GroupState) → layout_of known table ≡ Some layout → IsOfRows layout.head
      → TakesAway table (finite.get old.places.rows (record { table = table; tenant = tenant; base = base; chunk = chunk; row = row })) (with_row (record { table = table; tenant = tenant; base = base; chunk = chunk; row = row })) old new
      → IsGroup known count area start (changes ++ Remove table tenant base chunk row ∷ []) new
  remove_keeps layout table tenant base chunk row new found rows w =
      let key : Key = record { table = table; tenant = tenant; base = base; chunk = chunk; row = row } in
      let p = w.position in
      let change : Change = Remove table tenant base chunk row in
      let bytes : List ℕ = bytes_at before p (width table) in
      let some = (sizes_sound known).some table in
      let then : GroupState = one_freed table (with_row key None (with_write p (0 ∷ []) old)) in
      let stands = row_removed known count total area changes change old s key layout found rows p (0 ∷ []) w.stands (omega (arith, some)) (emptied_free bytes)
      (readings.row_free known (table, overwritten (0 ∷ []) bytes) (emptied_free bytes))
      (refl, refl, λ t. never_new (nat_eq table t))
      (λ r puts. readable_by known table layout (overwritten (0 ∷ []) bytes) found (emptied_readable layout bytes (slot_by known table layout bytes found r))) in
      let numbers = numbers_within known count start changes change old then n (record { position = p; bytes = 0 ∷ []; ranges = refl; short = omega arith; added = refl; filled = λ t. refl; no_more = λ t. omega arith }) in
      subst (IsGroup known count area start (changes ++ change ∷ [])) (sym w.written) (group_of_parts known count area start (changes ++ change ∷ []) then stands numbers)

  pub remove_body_keeps : (layout : Layout) (table : ℕ) (body : List ℕ) (new : GroupState) → layout_of known table ≡ Some layout → IsLayout layout → layout.head ≡ Catalogue table
      → TakesAway table (finite.get old.places.bodies (table, body)) (with_body (table, body)) old new → IsGroup known count area start (changes ++ RemoveCat table body ∷ []) new
  remove_body_keeps layout table body new found sound head w =
      let key : ℕ × List ℕ = (table, body) in
      let p = w.position in
      let change : Change = RemoveCat table body in
      let bytes : List ℕ = bytes_at before p (width table) in
      let some = (sizes_sound known).some table in
      let then : GroupState = one_freed table (with_body key None (with_write p (0 ∷ []) old)) in
      let stands = body_removed known count total area changes change old s key layout table found head (catalogue_there table layout sound head) p (0 ∷ []) w.stands (omega (arith, some)) (emptied_free bytes)
      (readings.body_free (table, overwritten (0 ∷ []) bytes) (emptied_free bytes))
      (refl, refl, λ t. never_new (nat_eq table t))
      (λ r puts. readable_by known table layout (overwritten (0 ∷ []) bytes) found (emptied_readable layout bytes (slot_by known table layout bytes found r))) in
      let numbers = numbers_within known count start changes change old then n (record { position = p; bytes = 0 ∷ []; ranges = refl; short = omega arith; added = refl; filled = λ t. refl; no_more = λ t. omega arith }) in
      subst (IsGroup known count area start (changes ++ change ∷ [])) (sym w.written) (group_of_parts known count area start (changes ++ change ∷ []) then stands numbers)

  -- what stands once a page of a table was made
  page_then : (layout : Layout) (table : ℕ) → layout_of known table ≡ Some layout → 1 ≤ count → total < 2 ^ 28 → table ≤ 31
      → Stands known count (count + length (old.added ++ table ∷ [])) area changes (page_made layout table count old)
  page_then layout table found some few small =
      let more = length-append old.added (table ∷ []) in
      let same : total + 1 ≡ count + length (old.added ++ table ∷ []) = omega (arith, more) in
      subst (λ m. Stands known count m area changes (page_made layout table count old)) same (page_stands known count area changes layout table old s found some few small)

  -- the numbers once a free slot was written
  free_numbers : (change : Change) (table p : ℕ) (behind bytes : List ℕ) (then : GroupState) → old.places.free table ≡ p ∷ behind → length bytes ≤ 4096
      → then.ranges ≡ old.ranges ++ record { position = p; bytes = bytes } ∷ [] → then.added ≡ old.added → then.places.free ≡ without_first table old.places.free → then.taken ≡ (one_taken table old).taken
      → AreNumbers known count start (changes ++ change ∷ []) then
  free_numbers change table p behind bytes then first short ranges added free taken =
      numbers_within known count start changes change old then n (record {
        position = p;
        bytes = bytes;
        ranges = ranges;
        short = short;
        added = added;
        filled = λ t. (λ i. taken i t + length (free i t)) ∙ filled_taken table p behind old.places.free old.taken first t;
        no_more = λ t. subst (λ (f : ℕ → List ℕ). length (f t) ≤ length (old.places.free t)) (sym free) (less_taken table old.places.free t);
      })

  page_numbers : (change : Change) (layout : Layout) (table p : ℕ) (behind bytes : List ℕ) (then : GroupState) → layout_of known table ≡ Some layout → table ≤ 31 → total < 2 ^ 28 → old.places.free table ≡ []
      → (page_made layout table count old).places.free table ≡ p ∷ behind → length bytes ≤ 4096
      → then.ranges ≡ (page_made layout table count old).ranges ++ record { position = p; bytes = bytes } ∷ [] → then.added ≡ old.added ++ table ∷ [] → then.places.free ≡ without_first table (page_made layout table count old).places.free → then.taken ≡ (one_taken table old).taken
      → AreNumbers known count start (changes ++ change ∷ []) then
  page_numbers change layout table p behind bytes then found small few none first short ranges added free taken =
      numbers_with_page known count start changes change layout table old then found small few n (record {
        position = p;
        bytes = bytes;
        behind = behind;
        ranges = ranges;
        short = short;
        added = added;
        none_left = none;
        first = first;
        free = λ t i. free i t;
        taken = λ t i. taken i t;
      })

  -- what a group names lies in the pages
  says_within : {K V : Type 0} (read : TableSlot → Option (K × V)) (many : ℕ) (at : Area) (place : SlotPlace) (entry : Option (K × V)) → many ≤ 2 ^ 28 → Says (sizes_of known) read many at place entry → place.position + width place.table ≤ 2 ^ 40
  says_within read many at place entry few says = place_low (sizes_of known) (sizes_sound known) read many at place entry few says

  pub row_low : (key : Key) (p : ℕ) → finite.get old.places.rows key ≡ Some (Some p) → p + width key.table ≤ 2 ^ 40
  row_low key p is = let held = s.rows.held key p is in says_within (row_in known) total before (record { table = key.table; position = p }) (Some (key, held.0)) n.pages_few held.1

  pub body_low : (key : ℕ × List ℕ) (p : ℕ) → finite.get old.places.bodies key ≡ Some (Some p) → p + width key.0 ≤ 2 ^ 40
  body_low key p is = let held = s.bodies.held key p is in says_within body_in total before (record { table = key.0; position = p }) (Some (key, held.0)) n.pages_few held.1

  pub free_low : (layout : Layout) (table p : ℕ) (between : GroupState) → layout_of known table ≡ Some layout → table ≤ 31 → FindsFree layout table count p old between → p + width table ≤ 2 ^ 40
  free_low layout table p between found small (inl first) =
      let all : AreFree (sizes_of known) (row_in known) total before table (p ∷ first.behind) = subst (AreFree (sizes_of known) (row_in known) total before table) first.first (s.rows.are_free table) in
      says_within (row_in known) total before (record { table = table; position = p }) None n.pages_few all.0
  free_low layout table p between found small (inr (mid, made, first)) =
      let page : GroupState = page_made layout table count old in
      let then = page_then layout table found made.some made.few small in
      let there : page.places.free table ≡ p ∷ first.behind = ap (λ (h : GroupState). h.places.free table) (sym made.page) ∙ first.first in
      let many : ℕ = count + length (old.added ++ table ∷ []) in
      let at : Area = with_ranges page.ranges area in
      let all : AreFree (sizes_of known) (row_in known) many at table (p ∷ first.behind) = subst (AreFree (sizes_of known) (row_in known) many at table) there (then.rows.are_free table) in
      let more = length-append old.added (table ∷ []) in
      let room = made.few in
      says_within (row_in known) many at (record { table = table; position = p }) None (omega (arith, more, room)) all.0

  module _ (layout : Layout) (table : ℕ) (slot : SlotRow) (found : layout_of known table ≡ Some layout) (rows : IsOfRows layout.head) (room : 1 ≤ slots_per_page layout) (kinds : AreKinds layout.kinds) (fits : FitsLayout layout slot) (numbers : HasNumbers slot) where
    abbrev key : Key
    key = key_in table slot

    abbrev change : Change
    change = Put table slot

    pub slot_long : length (slot_bytes layout slot) ≡ width table
    slot_long = (is_slot layout slot rows kinds fits numbers).size ∙ sym (width_is known table layout found)

    slot_short : length (slot_bytes layout slot) ≤ 4096
    slot_short = let l = slot_long in let w = width_is known table layout found in let h = width_small layout room in omega (arith, l, w, h)

    slot_whole : (at : Area) (p : ℕ) → overwritten (slot_bytes layout slot) (bytes_at at p (width table)) ≡ slot_bytes layout slot
    slot_whole at p = overwrites_all at p (width table) (slot_bytes layout slot) slot_long

    slot_says : (at : Area) (p : ℕ) → row_in known (table, overwritten (slot_bytes layout slot) (bytes_at at p (width table))) ≡ Some (key, cell_of slot)
    slot_says at p = ap (λ (bs : List ℕ). row_in known (table, bs)) (slot_whole at p) ∙ written_row known table layout slot found rows fits.mark (read_again layout slot rows kinds fits numbers)

    slot_reads : (at : Area) (p : ℕ) → IsReadableSlot known (table, bytes_at at p (width table)) → PutsReadable change → IsReadableSlot known (table, overwritten (slot_bytes layout slot) (bytes_at at p (width table)))
    slot_reads at p r puts = subst (λ (bs : List ℕ). IsReadableSlot known (table, bs)) (sym (slot_whole at p)) (readable_by known table layout (slot_bytes layout slot) found (is_slot layout slot rows kinds fits numbers))

    put_over : (new : GroupState) → WritesOver (finite.get old.places.rows key) (slot_bytes layout slot) old new → IsGroup known count area start (changes ++ change ∷ []) new
    put_over new w =
        let p = w.position in
        let stands = row_rewritten known count total area changes change old s key layout found rows p (cell_of slot) (slot_bytes layout slot) w.stands (let l = slot_long in omega (arith, l)) (slot_says before p)
        (refl, refl, λ t. none_new (applied changes (rows_of known area)) key (s.rows.held key p w.stands).0 (nat_eq table t) (row_there key p w.stands)) (slot_reads before p) in
        subst (IsGroup known count area start (changes ++ change ∷ [])) (sym w.written)
        (group_of_parts known count area start (changes ++ change ∷ []) (with_write p (slot_bytes layout slot) old) stands (over_numbers change p (slot_bytes layout slot) slot_short))

    -- the slot is written where one is free, before or behind a page that was made
    fresh : (h : GroupState) → Stands known count (count + length h.added) area changes h → finite.get h.places.rows key ≡ Some None → finite.get (applied changes (rows_of known area)) key ≡ None
        → (p : ℕ) (behind : List ℕ) → h.places.free table ≡ p ∷ behind
        → Stands known count (count + length h.added) area (changes ++ change ∷ []) (one_taken table (with_write p (slot_bytes layout slot) (with_row key (Some p) (with_free (without_first table h.places.free) h))))
    fresh h sh nowhere none p behind first =
        row_taken known count (count + length h.added) area changes change h sh key layout found rows p behind (cell_of slot) (slot_bytes layout slot) first nowhere (let l = slot_long in omega (arith, l)) (slot_says (with_ranges h.ranges area) p)
        (refl, refl, λ t. one_new (applied changes (rows_of known area)) key (nat_eq table t) none) (slot_reads (with_ranges h.ranges area) p)

    put_free : table ≤ 31 → (new : GroupState) → WritesFree layout table count (finite.get old.places.rows key) (slot_bytes layout slot) (with_row key) old new → IsGroup known count area start (changes ++ change ∷ []) new
    put_free small new w = by w.found
      where
        by : FindsFree layout table count w.position old w.between → IsGroup known count area start (changes ++ change ∷ []) new
        by (inl first) =
            let group : GroupState = one_taken table (with_write w.position (slot_bytes layout slot) (with_row key (Some w.position) (with_free (without_first table old.places.free) old))) in
            let stands = fresh old s w.nowhere (row_nowhere key w.nowhere) w.position first.behind first.first in
            let numbers = free_numbers change table w.position first.behind (slot_bytes layout slot) group first.first slot_short refl refl refl refl in
            subst (IsGroup known count area start (changes ++ change ∷ []))
            (sym (w.written ∙ ap (λ (h : GroupState). one_taken table (with_write w.position (slot_bytes layout slot) (with_row key (Some w.position) h))) first.rest))
            (group_of_parts known count area start (changes ++ change ∷ []) group stands numbers)
        by (inr (mid, made, first)) =
            let page : GroupState = page_made layout table count old in
            let group : GroupState = one_taken table (with_write w.position (slot_bytes layout slot) (with_row key (Some w.position) (with_free (without_first table page.places.free) page))) in
            let there : page.places.free table ≡ w.position ∷ first.behind = ap (λ (h : GroupState). h.places.free table) (sym made.page) ∙ first.first in
            let stands = fresh page (page_then layout table found made.some made.few small) w.nowhere (row_nowhere key w.nowhere) w.position first.behind there in
            let numbers = page_numbers change layout table w.position first.behind (slot_bytes layout slot) group found small made.few made.none_left there slot_short refl refl refl refl in
            subst (IsGroup known count area start (changes ++ change ∷ []))
            (sym (w.written ∙ ap (λ (h : GroupState). one_taken table (with_write w.position (slot_bytes layout slot) (with_row key (Some w.position) h))) first.rest
            ∙ ap (λ (h : GroupState). one_taken table (with_write w.position (slot_bytes layout slot) (with_row key (Some w.position) (with_free (without_first table h.places.free) h)))) made.page))
            (group_of_parts known count area start (changes ++ change ∷ []) group stands numbers)

    pub put_keeps : table ≤ 31 → (new : GroupState) → PutsSlot layout table count (finite.get old.places.rows key) (slot_bytes layout slot) (with_row key) old new → IsGroup known count area start (changes ++ change ∷ []) new
    put_keeps small new (inl over) = put_over new over
    put_keeps small new (inr free) = put_free small new free

  module _ (layout : Layout) (table : ℕ) (body : List ℕ) (found : layout_of known table ≡ Some layout) (sound : IsLayout layout) (head : layout.head ≡ Catalogue table) (size : length body ≡ body_width table) where
    abbrev body_name : ℕ × List ℕ
    body_name = (table, body)

    abbrev put_it : Change
    put_it = PutCat table body

    pub body_long : length (1 ∷ body) ≡ width table
    body_long = let w = width_is known table layout found in let c = catalogue_width layout table sound head in omega (arith, w, c, size)

    body_short : length (1 ∷ body) ≤ 4096
    body_short = let b = body_small table in omega (arith, size, b)

    body_whole : (at : Area) (p : ℕ) → overwritten (1 ∷ body) (bytes_at at p (width table)) ≡ 1 ∷ body
    body_whole at p = overwrites_all at p (width table) (1 ∷ body) body_long

    body_says : (at : Area) (p : ℕ) → body_in (table, overwritten (1 ∷ body) (bytes_at at p (width table))) ≡ Some (body_name, tt)
    body_says at p = ap (λ (bs : List ℕ). body_in (table, bs)) (body_whole at p) ∙ used_body table (1 ∷ body) (catalogue_there table layout sound head) refl

    body_reads : (at : Area) (p : ℕ) → IsReadableSlot known (table, bytes_at at p (width table)) → PutsReadable put_it → IsReadableSlot known (table, overwritten (1 ∷ body) (bytes_at at p (width table)))
    body_reads at p r puts = subst (λ (bs : List ℕ). IsReadableSlot known (table, bs)) (sym (body_whole at p)) (readable_by known table layout (1 ∷ body) found (body_readable layout table body sound head size puts))

    body_over : (new : GroupState) → WritesOver (finite.get old.places.bodies body_name) (1 ∷ body) old new → IsGroup known count area start (changes ++ put_it ∷ []) new
    body_over new w =
        let p = w.position in
        let stands = body_rewritten known count total area changes put_it old s body_name layout table found head (catalogue_there table layout sound head) p (1 ∷ body) w.stands (let l = body_long in omega (arith, l)) (body_says before p)
        (refl, refl, λ t. none_new (catalogue_applied changes (catalogue_of known area)) body_name (s.bodies.held body_name p w.stands).0 (nat_eq table t) (body_there body_name p w.stands)) (body_reads before p) in
        subst (IsGroup known count area start (changes ++ put_it ∷ [])) (sym w.written)
        (group_of_parts known count area start (changes ++ put_it ∷ []) (with_write p (1 ∷ body) old) stands (over_numbers put_it p (1 ∷ body) body_short))

    body_fresh : (h : GroupState) → Stands known count (count + length h.added) area changes h → finite.get h.places.bodies body_name ≡ Some None → finite.get (catalogue_applied changes (catalogue_of known area)) body_name ≡ None
        → (p : ℕ) (behind : List ℕ) → h.places.free table ≡ p ∷ behind
        → Stands known count (count + length h.added) area (changes ++ put_it ∷ []) (one_taken table (with_write p (1 ∷ body) (with_body body_name (Some p) (with_free (without_first table h.places.free) h))))
    body_fresh h sh nowhere none p behind first =
        body_taken known count (count + length h.added) area changes put_it h sh body_name layout table found head (catalogue_there table layout sound head) p behind (1 ∷ body) first nowhere (let l = body_long in omega (arith, l)) (body_says (with_ranges h.ranges area) p)
        (refl, refl, λ t. one_new (catalogue_applied changes (catalogue_of known area)) body_name (nat_eq table t) none) (body_reads (with_ranges h.ranges area) p)

    body_free : table ≤ 31 → (new : GroupState) → WritesFree layout table count (finite.get old.places.bodies body_name) (1 ∷ body) (with_body body_name) old new → IsGroup known count area start (changes ++ put_it ∷ []) new
    body_free small new w = by w.found
      where
        by : FindsFree layout table count w.position old w.between → IsGroup known count area start (changes ++ put_it ∷ []) new
        by (inl first) =
            let group : GroupState = one_taken table (with_write w.position (1 ∷ body) (with_body body_name (Some w.position) (with_free (without_first table old.places.free) old))) in
            let stands = body_fresh old s w.nowhere (body_nowhere body_name w.nowhere) w.position first.behind first.first in
            let numbers = free_numbers put_it table w.position first.behind (1 ∷ body) group first.first body_short refl refl refl refl in
            subst (IsGroup known count area start (changes ++ put_it ∷ []))
            (sym (w.written ∙ ap (λ (h : GroupState). one_taken table (with_write w.position (1 ∷ body) (with_body body_name (Some w.position) h))) first.rest))
            (group_of_parts known count area start (changes ++ put_it ∷ []) group stands numbers)
        by (inr (mid, made, first)) =
            let page : GroupState = page_made layout table count old in
            let group : GroupState = one_taken table (with_write w.position (1 ∷ body) (with_body body_name (Some w.position) (with_free (without_first table page.places.free) page))) in
            let there : page.places.free table ≡ w.position ∷ first.behind = ap (λ (h : GroupState). h.places.free table) (sym made.page) ∙ first.first in
            let stands = body_fresh page (page_then layout table found made.some made.few small) w.nowhere (body_nowhere body_name w.nowhere) w.position first.behind there in
            let numbers = page_numbers put_it layout table w.position first.behind (1 ∷ body) group found small made.few made.none_left there body_short refl refl refl refl in
            subst (IsGroup known count area start (changes ++ put_it ∷ []))
            (sym (w.written ∙ ap (λ (h : GroupState). one_taken table (with_write w.position (1 ∷ body) (with_body body_name (Some w.position) h))) first.rest
            ∙ ap (λ (h : GroupState). one_taken table (with_write w.position (1 ∷ body) (with_body body_name (Some w.position) (with_free (without_first table h.places.free) h)))) made.page))
            (group_of_parts known count area start (changes ++ put_it ∷ []) group stands numbers)

    pub put_body_keeps : table ≤ 31 → (new : GroupState) → PutsSlot layout table count (finite.get old.places.bodies body_name) (1 ∷ body) (with_body body_name) old new → IsGroup known count area start (changes ++ put_it ∷ []) new
    put_body_keeps small new (inl over) = body_over new over
    put_body_keeps small new (inr free) = body_free small new free
