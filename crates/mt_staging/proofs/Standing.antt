-- What stands once the ranges of a group are written, and what one range more does to it.
use Rattle.std.proofs.Common.{◌≡◌, ℕ, ◌+◌, ◌*◌, ◌<◌, ◌≤◌, ◌&&◌, Bool, not, nat_eq, List, [], ◌∷◌, ◌++◌, length, get_or, set, slice_index, count_by, All, Option, sym, ap, ◌∙◌, arith, subst}
use Rattle.std.proofs.lemmas.List.Elements.{All-cons, All-get_or, All-head, All-nil, All-set, All-tail}
use Rattle.mt_journal.specs.Layout.{Area, Range}
use Rattle.mt_journal.specs.Replay.{with_ranges}
use Rattle.mt_rowfile.specs.Pages.{is_free}
use Rattle.mt_physplan.specs.declared.change.Change.{Change}
use Rattle.mt_physplan.specs.declared.key.Cell.{Cell}
use Rattle.mt_physplan.specs.declared.key.Key.{Key}
use Rattle.mt_physplan.specs.Applied.{applied, applied_by, body_cmp, catalogue_applied, catalogue_applied_by}
use Rattle.mt_physplan.specs.Keys.{key_cmp}
use Rattle.mt_pages.specs.Control.{IsPageZero}
use Rattle.mt_tables.specs.Commit.{with_values}
use Rattle.mt_tables.specs.Pages.{SlotPlace, page_count, table_at}
use Rattle.mt_tables.specs.Plan.{IsPlan, Says}
use Rattle.mt_tables.specs.Rows.{IsReadableSlot, KnownLayouts, body_in, catalogue_of, row_in, rows_of, sizes_of}
use Rattle.mt_tables.specs.Tables.{TableSlot, overwritten, slot_at, slots_below}
use Rattle.mt_tables.proofs.Bytes.{put_at}
use Rattle.mt_tables.proofs.Places.{IsInPage}
use Rattle.mt_tables.proofs.Plans.{among_slots, at_of}
use Rattle.mt_tables.proofs.Sizes.{sizes_sound}
use Rattle.mt_tables.proofs.Steps.{StandsAt, slot_after, with_ranges-last, written}
use Rattle.mt_staging.specs.Group.{GroupState, PutsReadable, new_keys, used_in}
use Rattle.mt_staging.proofs.Lists.{count_by-set, once}
use Rattle.mt_staging.proofs.NewKeys.{applied-last, catalogue_applied-last, new_keys-last, newly}
use Rattle.mt_staging.proofs.Outside.{count_stands, head_stands, same_table, zero_stands, zero_still}
use Rattle.mt_staging.proofs.Pairs.{slot_there}

-- The part of a group that speaks of its ranges, where so many pages count in all.
pub record Stands (known : KnownLayouts) (count total : ℕ) (area : Area) (changes : List Change) (group : GroupState) : Type 0 where
  pub row_values : List (Key × Option Cell)
  pub row_changes : with_values row_values (rows_of known area) ≡ applied changes (rows_of known area)
  pub rows : IsPlan (sizes_of known) (row_in known) key_cmp (λ key. key.table) total area row_values group.ranges group.places.rows group.places.free
  pub body_values : List ((ℕ × List ℕ) × Option (Unit {0}))
  pub body_changes : with_values body_values (catalogue_of known area) ≡ catalogue_applied changes (catalogue_of known area)
  pub bodies : IsPlan (sizes_of known) body_in body_cmp (λ key. key.0) total area body_values group.ranges group.places.bodies group.places.free
  pub counted : page_count (with_ranges group.ranges area) ≡ total
  pub tables_added : (i : ℕ) → i < length group.added → table_at (with_ranges group.ranges area) (count + i) ≡ slice_index group.added i
  pub heads_stand : (page k : ℕ) → 1 ≤ page → page < count → k < 8 → with_ranges group.ranges area (4096 * page + k) ≡ area (4096 * page + k)
  pub heads_blank : (i k : ℕ) → i < length group.added → 4 ≤ k → k < 8 → with_ranges group.ranges area (4096 * (count + i) + k) ≡ 0
  pub taken : (t : ℕ) → group.taken t ≡ new_keys t changes (rows_of known area) (catalogue_of known area)
  pub used : (t : ℕ) → used_in (sizes_of known) t total (with_ranges group.ranges area) + group.freed t ≡ used_in (sizes_of known) t count area + group.taken t
  pub page_zero : IsPageZero area → IsPageZero (with_ranges group.ranges area)
  pub readable : All (IsReadableSlot known) (slots_below (sizes_of known) count area) → All PutsReadable changes → All (IsReadableSlot known) (slots_below (sizes_of known) total (with_ranges group.ranges area))

-- what holds of all holds of those in front, and of those behind
pub all_front : {X : Type 0} (P : X → Type 0) (xs ys : List X) → All P (xs ++ ys) → All P xs
all_front P [] ys all = All-nil P
all_front P (x ∷ xs) ys all = All-cons P x xs (All-head P x (xs ++ ys) all) (all_front P xs ys (All-tail P x (xs ++ ys) all))

pub all_behind : {X : Type 0} (P : X → Type 0) (xs ys : List X) → All P (xs ++ ys) → All P ys
all_behind P [] ys all = all
all_behind P (x ∷ xs) ys all = all_behind P xs ys (All-tail P x (xs ++ ys) all)

-- whether a slot of a table is in use
abbrev pub uses : ℕ → ℕ → List ℕ → Bool
uses t table bytes = nat_eq table t && not (is_free bytes)

module _ (known : KnownLayouts) (total : ℕ) (old : Area) (i : ℕ) (place : SlotPlace) (bytes : List ℕ) (at : StandsAt (sizes_of known) (sizes_sound known) total old i place) (short : length bytes ≤ (sizes_of known).width place.table) where
  inside : IsInPage (sizes_of known) at.page place.position (length bytes)
  inside = record { low = at.inside.low; high = (let h = at.inside.high in omega arith); real = at.inside.real }

  -- a write into a slot leaves what the pages say of themselves
  pub pages_then : page_count (put_at place.position bytes old) ≡ page_count old
  pages_then = count_stands (sizes_of known) old at.page place.position bytes inside

  pub heads_then : (m k : ℕ) → k < 8 → put_at place.position bytes old (4096 * m + k) ≡ old (4096 * m + k)
  heads_then = head_stands (sizes_of known) old at.page place.position bytes inside

  pub zero_then : IsPageZero old → IsPageZero (put_at place.position bytes old)
  zero_then sound = zero_still old (put_at place.position bytes old) (zero_stands (sizes_of known) old at.page place.position bytes inside) sound

  -- and changes the count of those in use by its own use
  pub used_then : ((d : TableSlot) → get_or (slots_below (sizes_of known) total old) i d ≡ slot_at (sizes_of known) old place) → i < length (slots_below (sizes_of known) total old) → (t : ℕ)
      → used_in (sizes_of known) t total (put_at place.position bytes old) + once (uses t place.table (slot_at (sizes_of known) old place).1)
      ≡ used_in (sizes_of known) t total old + once (uses t place.table (overwritten bytes (slot_at (sizes_of known) old place).1))
  used_then stands within t =
      let p : TableSlot → Bool = λ slot. nat_eq slot.0 t && not (is_free slot.1) in
      let d : TableSlot = (0, []) in
      let slots = slots_below (sizes_of known) total old in
      let new = slot_after (sizes_of known) (sizes_sound known) total old place bytes in
      ap (λ (ss : List TableSlot). count_by p ss + once (p (slot_at (sizes_of known) old place))) (written (sizes_of known) (sizes_sound known) total old i place bytes at short)
      ∙ ap (λ (s : TableSlot). count_by p (set slots i new) + once (p s)) (sym (stands d))
      ∙ count_by-set p slots i new d within

-- a place is that of a slot of the pages
pub record IsHere (known : KnownLayouts) (total : ℕ) (area : Area) (place : SlotPlace) : Type 0 where
  pub number : ℕ
  pub stands : StandsAt (sizes_of known) (sizes_sound known) total area number place
  pub slot : (d : TableSlot) → get_or (slots_below (sizes_of known) total area) number d ≡ slot_at (sizes_of known) area place
  pub among : number < length (slots_below (sizes_of known) total area)

pub here_where : {K V : Type 0} (known : KnownLayouts) (total : ℕ) (area : Area) (read : TableSlot → Option (K × V)) (place : SlotPlace) (entry : Option (K × V)) → Says (sizes_of known) read total area place entry → IsHere known total area place
here_where known total area read place entry s =
    let at = at_of (sizes_of known) (sizes_sound known) read total area place entry s in
    record {
      number = s.number;
      stands = at;
      slot = λ d. slot_there (sizes_of known) read total area place entry d s;
      among = among_slots (sizes_of known) (sizes_sound known) read total area s.number place at;
    }

-- One change more by one range more, whose two plans are known.
pub record IsOneMore (known : KnownLayouts) (total : ℕ) (area : Area) (changes : List Change) (change : Change) (old new : GroupState) (was is : ℕ → Bool) : Type 0 where
  pub place : SlotPlace
  pub bytes : List ℕ
  pub here : IsHere known total (with_ranges old.ranges area) place
  pub short : length bytes ≤ (sizes_of known).width place.table
  pub ranges : new.ranges ≡ old.ranges ++ record { position = place.position; bytes = bytes } ∷ []
  pub added : new.added ≡ old.added
  pub row_values : List (Key × Option Cell)
  pub row_changes : with_values row_values (rows_of known area) ≡ applied_by change (applied changes (rows_of known area))
  pub rows : IsPlan (sizes_of known) (row_in known) key_cmp (λ key. key.table) total area row_values new.ranges new.places.rows new.places.free
  pub body_values : List ((ℕ × List ℕ) × Option (Unit {0}))
  pub body_changes : with_values body_values (catalogue_of known area) ≡ catalogue_applied_by change (catalogue_applied changes (catalogue_of known area))
  pub bodies : IsPlan (sizes_of known) body_in body_cmp (λ key. key.0) total area body_values new.ranges new.places.bodies new.places.free
  pub was_used : (t : ℕ) → uses t place.table (slot_at (sizes_of known) (with_ranges old.ranges area) place).1 ≡ was t
  pub is_used : (t : ℕ) → uses t place.table (overwritten bytes (slot_at (sizes_of known) (with_ranges old.ranges area) place).1) ≡ is t
  pub takes : (t : ℕ) → new.taken t ≡ old.taken t + newly t change (applied changes (rows_of known area)) (catalogue_applied changes (catalogue_of known area))
  pub reads : IsReadableSlot known (slot_at (sizes_of known) (with_ranges old.ranges area) place) → PutsReadable change
      → IsReadableSlot known (place.table, overwritten bytes (slot_at (sizes_of known) (with_ranges old.ranges area) place).1)
  pub balance : (t : ℕ) → new.freed t + once (is t) + old.taken t ≡ old.freed t + once (was t) + new.taken t

balanced : (used0 used1 used2 taken1 taken2 freed1 freed2 was is : ℕ) → used2 + was ≡ used1 + is → used1 + freed1 ≡ used0 + taken1 → freed2 + is + taken1 ≡ freed1 + was + taken2 → used2 + freed2 ≡ used0 + taken2
balanced used0 used1 used2 taken1 taken2 freed1 freed2 was is a b c = omega arith

pub one_more_stands : (known : KnownLayouts) (count total : ℕ) (area : Area) (changes : List Change) (change : Change) (old new : GroupState) (was is : ℕ → Bool)
    → Stands known count total area changes old → IsOneMore known total area changes change old new was is → Stands known count total area (changes ++ change ∷ []) new
one_more_stands known count total area changes change old new was is s more =
    let before = with_ranges old.ranges area in
    let last : with_ranges new.ranges area ≡ put_at more.place.position more.bytes before =
    ap (λ (rs : List Range). with_ranges rs area) more.ranges ∙ with_ranges-last old.ranges (record { position = more.place.position; bytes = more.bytes }) area in
    let heads = heads_then known total before more.here.number more.place more.bytes more.here.stands more.short in
    record {
      row_values = more.row_values;
      row_changes = more.row_changes ∙ sym (applied-last changes change (rows_of known area));
      rows = more.rows;
      body_values = more.body_values;
      body_changes = more.body_changes ∙ sym (catalogue_applied-last changes change (catalogue_of known area));
      bodies = more.bodies;
      counted = ap page_count last ∙ pages_then known total before more.here.number more.place more.bytes more.here.stands more.short ∙ s.counted;
      tables_added = λ i within. ap (λ (a : Area). table_at a (count + i)) last ∙ same_table before (put_at more.place.position more.bytes before) (count + i) (heads (count + i))
          ∙ s.tables_added i (subst (λ (ts : List ℕ). i < length ts) more.added within) ∙ ap (λ (ts : List ℕ). slice_index ts i) (sym more.added);
      heads_stand = λ page k some low within. ap (λ (a : Area). a (4096 * page + k)) last ∙ heads page k within ∙ s.heads_stand page k some low within;
      heads_blank = λ i k within low high. ap (λ (a : Area). a (4096 * (count + i) + k)) last ∙ heads (count + i) k high
          ∙ s.heads_blank i k (subst (λ (ts : List ℕ). i < length ts) more.added within) low high;
      taken = λ t. more.takes t ∙ ap (λ n. n + newly t change (applied changes (rows_of known area)) (catalogue_applied changes (catalogue_of known area))) (s.taken t)
          ∙ sym (new_keys-last t changes change (rows_of known area) (catalogue_of known area));
      used = λ t.
          let then = used_then known total before more.here.number more.place more.bytes more.here.stands more.short more.here.slot more.here.among t in
          let uses_then : used_in (sizes_of known) t total (put_at more.place.position more.bytes before) + once (was t) ≡ used_in (sizes_of known) t total before + once (is t) =
          ap (λ b. used_in (sizes_of known) t total (put_at more.place.position more.bytes before) + once b) (sym (more.was_used t)) ∙ then ∙ ap (λ b. used_in (sizes_of known) t total before + once b) (more.is_used t) in
          ap (λ (a : Area). used_in (sizes_of known) t total a + new.freed t) last
          ∙ balanced (used_in (sizes_of known) t count area) (used_in (sizes_of known) t total before) (used_in (sizes_of known) t total (put_at more.place.position more.bytes before))
          (old.taken t) (new.taken t) (old.freed t) (new.freed t) (once (was t)) (once (is t)) uses_then (s.used t) (more.balance t);
      page_zero = λ sound. subst IsPageZero (sym last) (zero_then known total before more.here.number more.place more.bytes more.here.stands more.short (s.page_zero sound));
      readable = λ good puts.
          let slots = slots_below (sizes_of known) total before in
          let d : TableSlot = (0, []) in
          let each = s.readable good (all_front PutsReadable changes (change ∷ []) puts) in
          let here : IsReadableSlot known (slot_at (sizes_of known) before more.place) = subst (IsReadableSlot known) (more.here.slot d) (All-get_or (IsReadableSlot known) slots more.here.number d more.here.among each) in
          let puts_it : PutsReadable change = All-head PutsReadable change [] (all_behind PutsReadable changes (change ∷ []) puts) in
          subst (All (IsReadableSlot known)) (sym (ap (λ (a : Area). slots_below (sizes_of known) total a) last ∙ written (sizes_of known) (sizes_sound known) total before more.here.number more.place more.bytes more.here.stands more.short))
          (All-set (IsReadableSlot known) slots more.here.number (slot_after (sizes_of known) (sizes_sound known) total before more.place more.bytes) (more.reads here puts_it) each);
    }
