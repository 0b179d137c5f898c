-- The slots of pages that hold a catalogue can be read by its layouts, and no two have one key.
use Rattle.std.proofs.Common.{◌≡◌, ◌⊎◌, inl, inr, ℕ, zero, suc, ◌+◌, ◌-◌, ◌<◌, ◌≤◌, Bool, true, false, nat_le, ◌&&◌, ◌==◌, slice_index, Option, Some, None, List, [], ◌∷◌, ◌++◌, drop, map, filter_map, refl, sym, ap, ◌∙◌, subst, arith}
use Rattle.std.proofs.lemmas.List.{map-append}
use Rattle.std.proofs.lemmas.Bool.{le-leb}
use Rattle.std.proofs.lemmas.List.Elements.{All-nil, All-cons, All-head, All-tail, All-append, All-map, filter_map-append}
use Rattle.std.specs.Prelude.{IfSome, if◌then◌else◌, flat_map}
use Rattle.std.specs.List.{All, cons_option, range_with_len}
use Rattle.std.specs.Ordering.{eq_by_cmp, is_eq}
use Rattle.std.specs.declared.cmp.Ordering.{Ordering}
use Rattle.std.specs.declared.cmp.Ordering.TheVariants.{Less, Equal, Greater}
use Rattle.mt_journal.specs.Layout.{Area}
use Rattle.mt_rowfile.specs.declared.layout.Layout.{Layout}
use Rattle.mt_rowfile.specs.Layouts.{chunk_layout}
use Rattle.mt_rowfile.specs.Slots.{IsSlot}
use Rattle.mt_physplan.specs.Applied.{body_cmp}
use Rattle.mt_tables.specs.Pages.{bytes_at, page_count, page_places, place_in, slot_position, table_at}
use Rattle.mt_tables.specs.Rows.{ArePages, IsReadableSlot, KnownLayouts, body_in, catalogue_layout, is_of_catalogue, layout_of, sizes_of, slot_count_by, width_by}
use Rattle.mt_tables.specs.Tables.{TableSlot, slot_at, slots_below}
use Rattle.mt_tables.specs.Unique.{AreUnique, Misses, NoneSays, NoneSaysIts}
use Rattle.mt_tables.proofs.Bodies.{bodies_exact}
use Rattle.mt_catslot.specs.declared.slot.CatSlot.{CatSlot}
use Rattle.mt_catslot.specs.Bytes.{says}
use Rattle.mt_catalog.specs.Reading.{In, NoRepeat}
use Rattle.mt_catalog.specs.State.{State}
use Rattle.mt_image.specs.Fits.{FitsBase, FitsPage, slots_on}
use Rattle.mt_image.specs.Image.{Holds}
use Rattle.mt_image.specs.Layouts.{known_of, none_known}

-- what holds of what a list is made into holds of its members so
All-made : {X Y : Type 0} (P : X → Type 0) (f : Y → X) (ys : List Y) → All P (map f ys) → All (λ y. P (f y)) ys
All-made P f [] h = All-nil (λ y. P (f y))
All-made P f (y ∷ ys) h = All-cons (λ y. P (f y)) y ys (All-head P (f y) (map f ys) h) (All-made P f ys (All-tail P (f y) (map f ys) h))

both_true : (a b : Bool) → a ≡ true → b ≡ true → (a && b) ≡ true
both_true true true e f = refl
both_true true false e f = cc
both_true false b e f = cc

-- the layout of a table that is not conventional does not depend on what is known
same_by : (a b : Bool) (x y k l : Option Layout) → (a ≡ true) ⊎ (b ≡ true) → (if a then x else (if b then y else k)) ≡ (if a then x else (if b then y else l))
same_by true b x y k l is = refl
same_by false true x y k l is = refl
same_by false false x y k l (inl e) = cc
same_by false false x y k l (inr e) = cc

abbrev IsLow : ℕ → Type 0
IsLow table = ((1 ≤ table) × (table ≤ 6)) ⊎ ((8 ≤ table) × (table ≤ 13))

low_layout : (known other : KnownLayouts) (table : ℕ) → IsLow table → layout_of known table ≡ layout_of other table
low_layout known other table is =
    same_by (nat_le 1 table && nat_le table 6) (nat_le 8 table && nat_le table 13) (Some (chunk_layout table)) (Some (catalogue_layout table))
    (if nat_le 16 table && nat_le table 31 then known table else None) (if nat_le 16 table && nat_le table 31 then other table else None) (by is)
  where
    by : IsLow table → ((nat_le 1 table && nat_le table 6) ≡ true) ⊎ ((nat_le 8 table && nat_le table 13) ≡ true)
    by (inl (from, upto)) = inl (both_true (nat_le 1 table) (nat_le table 6) (le-leb 1 table from) (le-leb table 6 upto))
    by (inr (from, upto)) = inr (both_true (nat_le 8 table) (nat_le table 13) (le-leb 8 table from) (le-leb table 13 upto))

-- a slot of a page by the layout of its table
abbrev Readable : Area → ℕ → Option Layout → ℕ → Type 0
Readable pages page found number = IfSome found (λ layout. IsSlot layout (bytes_at pages (slot_position (width_by found) page number) (width_by found)))

module _ (pages : Area) (page : ℕ) where
  abbrev table : ℕ
  table = table_at pages page

  abbrev numbers : Option Layout → List ℕ
  numbers found = range_with_len 0 (slot_count_by found)

  readable_on : (known : KnownLayouts) → All (Readable pages page (layout_of known table)) (numbers (layout_of known table)) → All (IsReadableSlot known) (slots_on known pages page)
  readable_on known h =
      All-map (IsReadableSlot known) (slot_at (sizes_of known) pages) (page_places (sizes_of known) pages page)
      (All-map (λ place. IsReadableSlot known (slot_at (sizes_of known) pages place)) (place_in (sizes_of known) table page) (numbers (layout_of known table)) h)

  on_readable : (known : KnownLayouts) → All (IsReadableSlot known) (slots_on known pages page) → All (Readable pages page (layout_of known table)) (numbers (layout_of known table))
  on_readable known h =
      All-made (λ place. IsReadableSlot known (slot_at (sizes_of known) pages place)) (place_in (sizes_of known) table page) (numbers (layout_of known table))
      (All-made (IsReadableSlot known) (slot_at (sizes_of known) pages) (page_places (sizes_of known) pages page) h)

  low_readable : (known other : KnownLayouts) → IsLow table → All (IsReadableSlot known) (slots_on known pages page) → All (IsReadableSlot other) (slots_on other pages page)
  low_readable known other low h =
      readable_on other (subst (λ (found : Option Layout). All (Readable pages page found) (numbers found)) (low_layout known other table low) (on_readable known h))

  fit_readable : (state : State) → FitsPage pages page → FitsBase state pages page → All (IsReadableSlot (known_of state)) (slots_on (known_of state) pages page)
  fit_readable state fits base = by fits.table
    where
      by : ((1 ≤ table) × (table ≤ 6)) ⊎ ((8 ≤ table) × (table ≤ 13)) ⊎ ((16 ≤ table) × (table ≤ 31)) → All (IsReadableSlot (known_of state)) (slots_on (known_of state) pages page)
      by (inl chunk) = low_readable none_known (known_of state) (inl chunk) fits.slots
      by (inr (inl catalogue)) = low_readable none_known (known_of state) (inr catalogue) fits.slots
      by (inr (inr conventional)) = base.slots conventional.0

-- what holds of the slots of each page holds of all
all_below : (P : TableSlot → Type 0) (known : KnownLayouts) (pages : Area) (from count : ℕ)
    → ((page : ℕ) → from ≤ page → page < from + count → All P (slots_on known pages page))
    → All P (map (slot_at (sizes_of known) pages) (flat_map (page_places (sizes_of known) pages) (range_with_len from count)))
all_below P known pages from zero each = All-nil P
all_below P known pages from (suc count) each =
    let here = each from (omega arith) (omega arith) in
    let rest = all_below P known pages (from + 1) count (λ page low high. each page (omega (arith, low)) (omega (arith, high))) in
    subst (All P) (sym (map-append (slot_at (sizes_of known) pages) (page_places (sizes_of known) pages from) (flat_map (page_places (sizes_of known) pages) (range_with_len (from + 1) count))))
    (All-append P (slots_on known pages from) (map (slot_at (sizes_of known) pages) (flat_map (page_places (sizes_of known) pages) (range_with_len (from + 1) count))) here rest)

pub held_readable : (pages : Area) (state : State) → Holds pages state → All (IsReadableSlot (known_of state)) (slots_below (sizes_of (known_of state)) (page_count pages) pages)
held_readable pages state holds =
    all_below (IsReadableSlot (known_of state)) (known_of state) pages 1 (page_count pages - 1)
    (λ page low high. fit_readable pages page state (holds.pages_fit page low (omega (arith, low, high))) (holds.bases_fit page low (omega (arith, low, high))))

-- the slots of the catalogue do not depend on what conventional tables are known
silent_by : (a b : Bool) (x : (ℕ × List ℕ) × Unit {0}) → b ≡ false → (if a then None else (if b then Some x else None)) ≡ None
silent_by true b x e = refl
silent_by false true x e = cc
silent_by false false x e = refl

none_found : (slots : List TableSlot) → All (λ slot. body_in slot ≡ None) slots → filter_map body_in slots ≡ []
none_found [] h = refl
none_found (slot ∷ slots) h =
    rw (All-head (λ slot. body_in slot ≡ None) slot slots h) (none_found slots (All-tail (λ slot. body_in slot ≡ None) slot slots h))

map_of_map : {X Y Z : Type 0} (f : Y → Z) (g : X → Y) (xs : List X) → map f (map g xs) ≡ map (λ x. f (g x)) xs
map_of_map f g [] = refl
map_of_map f g (x ∷ xs) = ap (λ rest. f (g x) ∷ rest) (map_of_map f g xs)

module _ (pages : Area) (page : ℕ) (known other : KnownLayouts) where
  abbrev slots_by : Option Layout → List TableSlot
  slots_by found = map (λ number. (table_at pages page, bytes_at pages (slot_position (width_by found) page number) (width_by found))) (range_with_len 0 (slot_count_by found))

  slots_by_layout : (k : KnownLayouts) → slots_on k pages page ≡ slots_by (layout_of k (table_at pages page))
  slots_by_layout k = map_of_map (slot_at (sizes_of k) pages) (place_in (sizes_of k) (table_at pages page) page) (range_with_len 0 (slot_count_by (layout_of k (table_at pages page))))

  silent : (k : KnownLayouts) → is_of_catalogue (table_at pages page) ≡ false → filter_map body_in (slots_on k pages page) ≡ []
  silent k e =
      none_found (slots_on k pages page)
      (All-map (λ slot. body_in slot ≡ None) (slot_at (sizes_of k) pages) (page_places (sizes_of k) pages page)
      (All-map (λ place. body_in (slot_at (sizes_of k) pages place) ≡ None) (place_in (sizes_of k) (table_at pages page) page) (range_with_len 0 (slot_count_by (layout_of k (table_at pages page))))
      (all_silent (range_with_len 0 (slot_count_by (layout_of k (table_at pages page)))))))
    where
      bytes : ℕ → List ℕ
      bytes number = bytes_at pages (slot_position (width_by (layout_of k (table_at pages page))) page number) (width_by (layout_of k (table_at pages page)))

      all_silent : (numbers : List ℕ) → All (λ number. body_in (table_at pages page, bytes number) ≡ None) numbers
      all_silent [] = All-nil (λ number. body_in (table_at pages page, bytes number) ≡ None)
      all_silent (number ∷ numbers) =
          All-cons (λ number. body_in (table_at pages page, bytes number) ≡ None) number numbers
          (silent_by (slice_index (bytes number) 0 == 0) (is_of_catalogue (table_at pages page)) ((table_at pages page, drop 1 (bytes number)), tt) e) (all_silent numbers)

  same_bodies_on : filter_map body_in (slots_on known pages page) ≡ filter_map body_in (slots_on other pages page)
  same_bodies_on = by (is_of_catalogue (table_at pages page)) refl
    where
      by : (b : Bool) → is_of_catalogue (table_at pages page) ≡ b → filter_map body_in (slots_on known pages page) ≡ filter_map body_in (slots_on other pages page)
      by false e = silent known e ∙ sym (silent other e)
      by true e =
          let layout : layout_of known (table_at pages page) ≡ layout_of other (table_at pages page) =
          same_by (nat_le 1 (table_at pages page) && nat_le (table_at pages page) 6) (nat_le 8 (table_at pages page) && nat_le (table_at pages page) 13) (Some (chunk_layout (table_at pages page))) (Some (catalogue_layout (table_at pages page)))
          (if nat_le 16 (table_at pages page) && nat_le (table_at pages page) 31 then known (table_at pages page) else None) (if nat_le 16 (table_at pages page) && nat_le (table_at pages page) 31 then other (table_at pages page) else None) (inr e) in
          ap (filter_map body_in) (slots_by_layout known ∙ ap slots_by layout ∙ sym (slots_by_layout other))

same_bodies_below : (pages : Area) (known other : KnownLayouts) (from count : ℕ)
    → filter_map body_in (map (slot_at (sizes_of known) pages) (flat_map (page_places (sizes_of known) pages) (range_with_len from count)))
    ≡ filter_map body_in (map (slot_at (sizes_of other) pages) (flat_map (page_places (sizes_of other) pages) (range_with_len from count)))
same_bodies_below pages known other from zero = refl
same_bodies_below pages known other from (suc count) =
    parted known ∙ ap (λ front. front ++ behind known) (same_bodies_on pages from known other) ∙ ap (λ back. filter_map body_in (slots_on other pages from) ++ back) (same_bodies_below pages known other (from + 1) count) ∙ sym (parted other)
  where
    behind : KnownLayouts → List ((ℕ × List ℕ) × Unit {0})
    behind k = filter_map body_in (map (slot_at (sizes_of k) pages) (flat_map (page_places (sizes_of k) pages) (range_with_len (from + 1) count)))

    parted : (k : KnownLayouts) → filter_map body_in (map (slot_at (sizes_of k) pages) (flat_map (page_places (sizes_of k) pages) (range_with_len from (suc count)))) ≡ filter_map body_in (slots_on k pages from) ++ behind k
    parted k =
        ap (filter_map body_in) (map-append (slot_at (sizes_of k) pages) (page_places (sizes_of k) pages from) (flat_map (page_places (sizes_of k) pages) (range_with_len (from + 1) count)))
        ∙ filter_map-append body_in (slots_on k pages from) (map (slot_at (sizes_of k) pages) (flat_map (page_places (sizes_of k) pages) (range_with_len (from + 1) count)))

pub same_bodies : (pages : Area) (known other : KnownLayouts) (count : ℕ) → filter_map body_in (slots_below (sizes_of known) count pages) ≡ filter_map body_in (slots_below (sizes_of other) count pages)
same_bodies pages known other count = same_bodies_below pages known other 1 (count - 1)

-- no two of the entries have one key
abbrev KeysApart : {K V : Type 0} → (K → K → Ordering) → List (K × V) → Type 0
KeysApart R [] = Unit {0}
KeysApart R (entry ∷ entries) = All (λ other. eq_by_cmp R entry.0 other.0 ≡ false) entries × KeysApart R entries

module _ {S K V : Type 0} (R : K → K → Ordering) (read : S → Option (K × V)) where
  none_says : (key : K) (slots : List S) → All (λ other. eq_by_cmp R key other.0 ≡ false) (filter_map read slots) → NoneSays R read key slots
  none_says key [] h = tt
  none_says key (slot ∷ slots) h = by (read slot) (none_says key slots) h
    where
      by : (found : Option (K × V)) → (All (λ other. eq_by_cmp R key other.0 ≡ false) (filter_map read slots) → NoneSays R read key slots)
          → All (λ other. eq_by_cmp R key other.0 ≡ false) (cons_option found (filter_map read slots)) → Misses R key found × NoneSays R read key slots
      by None rest all = (tt, rest all)
      by (Some entry) rest all =
          (All-head (λ other. eq_by_cmp R key other.0 ≡ false) entry (filter_map read slots) all, rest (All-tail (λ other. eq_by_cmp R key other.0 ≡ false) entry (filter_map read slots) all))

  unique_of_apart : (slots : List S) → KeysApart R (filter_map read slots) → AreUnique R read slots
  unique_of_apart [] h = tt
  unique_of_apart (slot ∷ slots) h = by (read slot) (unique_of_apart slots) h
    where
      by : (found : Option (K × V)) → (KeysApart R (filter_map read slots) → AreUnique R read slots) → KeysApart R (cons_option found (filter_map read slots)) → NoneSaysIts R read found slots × AreUnique R read slots
      by None rest apart = (tt, rest apart)
      by (Some entry) rest apart = (none_says entry.0 slots apart.0, rest apart.1)

equal_by : (o : Ordering) → is_eq o ≡ true → o ≡ Equal
equal_by Less e = cc
equal_by Equal e = refl
equal_by Greater e = cc

-- bodies that say slots of which none stands twice are apart
abbrev Body : Type 0
Body = (ℕ × List ℕ) × Unit {0}

abbrev said_of : Body → Option CatSlot
said_of body = says body.0.0 body.0.1

others_apart : (body : Body) (slot : CatSlot) (bodies : List Body) (slots : List CatSlot) → said_of body ≡ Some slot → map said_of bodies ≡ map (λ slot. Some slot) slots → (In slot slots → ⊥)
    → All (λ other. eq_by_cmp body_cmp body.0 other.0 ≡ false) bodies
others_apart body slot [] slots e said none = All-nil (λ (other : Body). eq_by_cmp body_cmp body.0 other.0 ≡ false)
others_apart body slot (other ∷ bodies) [] e said none = cc
others_apart body slot (other ∷ bodies) (next ∷ slots) e said none =
    let first : said_of other ≡ Some next = cc in
    let rest : map said_of bodies ≡ map (λ slot. Some slot) slots = cc in
    All-cons (λ (other : Body). eq_by_cmp body_cmp body.0 other.0 ≡ false) other bodies (by (eq_by_cmp body_cmp body.0 other.0) refl first)
    (others_apart body slot bodies slots e rest (λ among. none (inr among)))
  where
    by : (b : Bool) → eq_by_cmp body_cmp body.0 other.0 ≡ b → said_of other ≡ Some next → eq_by_cmp body_cmp body.0 other.0 ≡ false
    by false f first = f
    by true f first =
        let same : body.0 ≡ other.0 = bodies_exact body.0 other.0 (equal_by (body_cmp body.0 other.0) f) in
        let both : Some slot ≡ Some next = sym e ∙ ap (λ (b : ℕ × List ℕ). says b.0 b.1) same ∙ first in
        let one : slot ≡ next = cc in
        absurd (none (inl one))

bodies_apart : (bodies : List Body) (slots : List CatSlot) → map said_of bodies ≡ map (λ slot. Some slot) slots → NoRepeat slots → KeysApart body_cmp bodies
bodies_apart [] slots said once = tt
bodies_apart (body ∷ bodies) [] said once = cc
bodies_apart (body ∷ bodies) (slot ∷ slots) said once =
    let first : said_of body ≡ Some slot = cc in
    let rest : map said_of bodies ≡ map (λ slot. Some slot) slots = cc in
    (others_apart body slot bodies slots first rest once.0, bodies_apart bodies slots rest once.1)

pub held_bodies : (pages : Area) (state : State) → Holds pages state → AreUnique body_cmp body_in (slots_below (sizes_of (known_of state)) (page_count pages) pages)
held_bodies pages state holds =
    let found : List Body = filter_map body_in (slots_below (sizes_of none_known) (page_count pages) pages) in
    let said = sym (map_of_map (λ (body : ℕ × List ℕ). says body.0 body.1) (λ (f : Body). f.0) found) ∙ holds.catalogue.said.said in
    unique_of_apart body_cmp body_in (slots_below (sizes_of (known_of state)) (page_count pages) pages)
    (subst (KeysApart body_cmp) (same_bodies pages none_known (known_of state) (page_count pages)) (bodies_apart found holds.catalogue.said.slots said holds.catalogue.said.read.once))

pub held_are_pages : (pages : Area) (state : State) → Holds pages state → ArePages (known_of state) pages
held_are_pages pages state holds = record { readable = held_readable pages state holds; rows_once = holds.rows.once; bodies_once = held_bodies pages state holds }
