-- The slots of a series, Row by Row.
use Rattle.std.proofs.Common.{◌≡◌, ℕ, zero, suc, ◌+◌, ◌<◌, ◌≤◌, ⊎_elim, ◌&&◌, ◌||◌, Bool, true, false, cond, List, map, filter_map, [], ◌∷◌, nat_eq, Option, Some, None, option_map, refl, sym, ap, ◌∙◌, arith, lt-ltb}
use Rattle.std.proofs.lemmas.Bool.{cases_eq, false_from_ne_true, or_cases, or_left, or_right}
use lib.Dec.{T}
use Rattle.std.specs.declared.cmp.Ordering.{Ordering}
use Rattle.std.specs.declared.cmp.Ordering.TheVariants.{Less, Equal, Greater}
use Rattle.std.specs.Ordering.{eq_by_cmp, nat_cmp, ordering_then}
use Rattle.std.specs.Cmp.{both_ways, nat_cmp_total, tied_itself}
use Rattle.std.specs.List.{cons_option, range_with_len}
use Rattle.std.specs.FinMap as finite
use Rattle.std.specs.FinMap.Entries.{below_all, find, is_sorted, same_entries}
use Rattle.mt_rowfile.specs.declared.slot.SlotRow.{SlotRow}
use Rattle.mt_physplan.specs.declared.key.Key.{Key}
use Rattle.mt_physplan.specs.declared.key.Cell.{Cell}
use Rattle.mt_physplan.specs.Content.{Content, in_scan, scanned, slots_in_order}
use Rattle.mt_physplan.specs.Keys.{key_cmp, slot_in}
use Rattle.mt_physplan.proofs.Keys.{keys_exact, keys_total}
use Rattle.mt_rows.specs.Series.{Series, in_series, key_at, scan_of, slot_at, slots_of}
use Rattle.mt_rows.proofs.Places.{key_in_scan, key_in_series, row_in_scan, row_in_series, tied_are_one, tied_with_itself}

-- a list of what is there, changed item by item
pub map_of_filter_map : {A B C : Type 0} (g : B → C) (f : A → Option B) (items : List A) → map g (filter_map f items) ≡ filter_map (λ item. option_map g (f item)) items
map_of_filter_map g f [] = refl
map_of_filter_map {B = B} g f (item ∷ items) = by (f item) ∙ ap (cons_option (option_map g (f item))) (map_of_filter_map g f items)
  where
    by : (found : Option B) → map g (cons_option found (filter_map f items)) ≡ cons_option (option_map g found) (map g (filter_map f items))
    by None = refl
    by (Some b) = refl

-- a later Row has a later key
key_before : (series : Series) (row later : ℕ) → row < later → key_cmp (key_at series row) (key_at series later) ≡ Less
key_before series row later low = same series.table ∙ same series.tenant ∙ same series.base ∙ same series.chunk ∙ ap (λ b. cond b Less (cond (nat_eq row later) Equal Greater)) (lt-ltb row later low)
  where
    same : (n : ℕ) {rest : Ordering} → ordering_then (nat_cmp n n) rest ≡ rest
    same n {rest} = ap (λ order. ordering_then order rest) (tied_itself nat_cmp_total n)

module _ (content : Content) (series : Series) where
  -- what stands at a Row, with its key
  abbrev entry_at : ℕ → Option (Key × Cell)
  entry_at row = option_map (λ cell. (key_at series row, cell)) (finite.get content (key_at series row))

  abbrev entries_from : ℕ → ℕ → List (Key × Cell)
  entries_from from count = filter_map entry_at (range_with_len from count)

  both : (a b : Bool) → T a → T b → T (a && b)
  both true b p q = q
  both false b p q = absurd p

  rising_above : (row from count : ℕ) → row < from → T (below_all key_cmp (key_at series row) (entries_from from count))
  rising_above row from zero low = tt
  rising_above row from (suc count) low = by (finite.get content (key_at series from)) (rising_above row (from + 1) count (omega arith))
    where
      by : (found : Option Cell) → T (below_all key_cmp (key_at series row) (entries_from (from + 1) count))
          → T (below_all key_cmp (key_at series row) (cons_option (option_map (λ cell. (key_at series from, cell)) found) (entries_from (from + 1) count)))
      by None rest = rest
      by (Some cell) rest = rw (key_before series row from low) rest

  rising : (from count : ℕ) → T (is_sorted key_cmp (entries_from from count))
  rising from zero = tt
  rising from (suc count) = by (finite.get content (key_at series from)) (rising_above from (from + 1) count (omega arith)) (rising (from + 1) count)
    where
      by : (found : Option Cell) → T (below_all key_cmp (key_at series from) (entries_from (from + 1) count)) → T (is_sorted key_cmp (entries_from (from + 1) count))
          → T (is_sorted key_cmp (cons_option (option_map (λ cell. (key_at series from, cell)) found) (entries_from (from + 1) count)))
      by None above rest = rest
      by (Some cell) above rest = both _ _ above rest

  -- a key that a scan asks for is its first, or the scan of the Rows behind that asks for it
  first_or_later : (from count : ℕ) (key : Key)
      → (eq_by_cmp key_cmp key (key_at series from) || in_scan (scan_of series (from + 1) (from + 1 + count)) key) ≡ in_scan (scan_of series from (from + suc count)) key
  first_or_later from count key = both_ways (first || later) asked into out
    where
      first : Bool
      first = eq_by_cmp key_cmp key (key_at series from)

      later : Bool
      later = in_scan (scan_of series (from + 1) (from + 1 + count)) key

      asked : Bool
      asked = in_scan (scan_of series from (from + suc count)) key

      asks : (row : ℕ) → key ≡ key_at series row → from ≤ row → row < from + suc count → asked ≡ true
      asks row is low high = ap (in_scan (scan_of series from (from + suc count))) is ∙ row_in_scan series from (from + suc count) row low high

      into : (first || later) ≡ true → asked ≡ true
      into either = ⊎_elim (λ tied. asks from (tied_are_one key (key_at series from) tied) (omega arith) (omega arith))
          (λ passes. let it = key_in_scan series (from + 1) (from + 1 + count) key passes in asks key.row it.0 (omega (arith, it.1)) (omega (arith, it.2)))
          (or_cases first later either)

      out : asked ≡ true → (first || later) ≡ true
      out passes =
          let it = key_in_scan series from (from + suc count) key passes in
          ⊎_elim (λ same. or_left first later (ap (eq_by_cmp key_cmp key) (ap (key_at series) (sym same) ∙ sym it.0) ∙ tied_with_itself key))
          (λ apart. or_right first later (ap (in_scan (scan_of series (from + 1) (from + 1 + count))) it.0 ∙ row_in_scan series (from + 1) (from + 1 + count) key.row (omega (arith, it.1, apart)) (omega (arith, it.2))))
          (cases_eq key.row from)

  none_asked : (from : ℕ) (key : Key) → in_scan (scan_of series from (from + 0)) key ≡ false
  none_asked from key = false_from_ne_true _ (λ passes. let it = key_in_scan series from (from + 0) key passes in omega (arith, it.1, it.2))

  -- what is found in the entries of the Rows
  find_entry : (from count : ℕ) (key : Key) → find key_cmp key (entries_from from count) ≡ cond (in_scan (scan_of series from (from + count)) key) (finite.get content key) None
  find_entry from zero key = sym (ap (λ b. cond b (finite.get content key) None) (none_asked from key))
  find_entry from (suc count) key =
      step (find_entry (from + 1) count key) (finite.get content (key_at series from)) refl (eq_by_cmp key_cmp key (key_at series from)) refl
      ∙ ap (λ b. cond b (finite.get content key) None) (first_or_later from count key)
    where
      later : Bool
      later = in_scan (scan_of series (from + 1) (from + 1 + count)) key

      none : (b : Bool) (found : Option Cell) → found ≡ None → cond b found None ≡ found
      none true found is = refl
      none false found is = sym is

      step : find key_cmp key (entries_from (from + 1) count) ≡ cond later (finite.get content key) None
          → (found : Option Cell) → finite.get content (key_at series from) ≡ found → (first : Bool) → eq_by_cmp key_cmp key (key_at series from) ≡ first
          → find key_cmp key (cons_option (option_map (λ cell. (key_at series from, cell)) found) (entries_from (from + 1) count)) ≡ cond (first || later) (finite.get content key) None
      step rest None is true tied = rest ∙ none later (finite.get content key) (ap (finite.get content) (tied_are_one key (key_at series from) tied) ∙ is)
      step rest None is false tied = rest
      step rest (Some cell) is true tied = ap (λ b. cond b (Some cell) (find key_cmp key (entries_from (from + 1) count))) tied ∙ sym is ∙ sym (ap (finite.get content) (tied_are_one key (key_at series from) tied))
      step rest (Some cell) is false tied = ap (λ b. cond b (Some cell) (find key_cmp key (entries_from (from + 1) count))) tied ∙ rest

  kept_entries : (from count : ℕ) → finite.entries (finite.retain_keys content (in_scan (scan_of series from (from + count)))) ≡ entries_from from count
  kept_entries from count =
      same_entries key_cmp keys_total keys_exact (finite.entries kept) (entries_from from count) (finite.entries_sorted kept) (rising from count)
      (λ key. sym (finite.get-entries kept key) ∙ finite.get-retain_keys content asked key (λ other tied. ap asked (sym (keys_exact key other tied))) ∙ sym (find_entry from count key))
    where
      asked : Key → Bool
      asked = in_scan (scan_of series from (from + count))

      kept : Content
      kept = finite.retain_keys content asked

  pub scan_by_row : (from count : ℕ) → scanned content (scan_of series from (from + count)) ≡ filter_map (slot_at content series) (range_with_len from count)
  scan_by_row from count =
      ap (map (λ e. slot_in e.0 e.1)) (kept_entries from count) ∙ map_of_filter_map (λ e. slot_in e.0 e.1) entry_at (range_with_len from count)
      ∙ (λ i. filter_map (λ row. slot_of_entry row (finite.get content (key_at series row)) i) (range_with_len from count))
    where
      slot_of_entry : (row : ℕ) (found : Option Cell) → option_map (λ (e : Key × Cell). slot_in e.0 e.1) (option_map (λ cell. (key_at series row, cell)) found) ≡ option_map (slot_in (key_at series row)) found
      slot_of_entry row None = refl
      slot_of_entry row (Some cell) = refl

  -- all slots are those of a scan of all Rows
  all_asked : (made : ℕ) → ((row : ℕ) (slot : SlotRow) → slot_at content series row ≡ Some slot → row < made) → finite.retain_keys content (in_series series) ≡ finite.retain_keys content (in_scan (scan_of series 0 (0 + made)))
  all_asked made below =
      finite.same_map keys_total keys_exact (finite.retain_keys content (in_series series)) (finite.retain_keys content asked) (λ key.
      retained (in_series series) key ∙ by key (finite.get content key) refl ∙ sym (retained asked key))
    where
      asked : Key → Bool
      asked = in_scan (scan_of series 0 (0 + made))

      retained : (test : Key → Bool) (key : Key) → finite.get (finite.retain_keys content test) key ≡ cond (test key) (finite.get content key) None
      retained test key = finite.get-retain_keys content test key (λ other tied. ap test (sym (keys_exact key other tied)))

      none : (b : Bool) → cond {A = Option Cell} b None None ≡ None
      none true = refl
      none false = refl

      by : (key : Key) (found : Option Cell) → finite.get content key ≡ found → cond (in_series series key) (finite.get content key) None ≡ cond (asked key) (finite.get content key) None
      by key None is = ap (λ o. cond (in_series series key) o None) is ∙ none (in_series series key) ∙ sym (ap (λ o. cond (asked key) o None) is ∙ none (asked key))
      by key (Some cell) is = ap (λ b. cond b (finite.get content key) None) (both_ways (in_series series key) (asked key) into out)
        where
          into : in_series series key ≡ true → asked key ≡ true
          into passes =
              let at = key_in_series series key passes in
              let found : slot_at content series key.row ≡ Some (slot_in (key_at series key.row) cell) = ap (option_map (slot_in (key_at series key.row))) (ap (finite.get content) (sym at) ∙ is) in
              ap asked at ∙ row_in_scan series 0 (0 + made) key.row (omega arith) (let low = below key.row (slot_in (key_at series key.row) cell) found in omega (arith, low))

          out : asked key ≡ true → in_series series key ≡ true
          out passes = ap (in_series series) (key_in_scan series 0 (0 + made) key passes).0 ∙ row_in_series series key.row

  pub slots_by_row : (made : ℕ) → ((row : ℕ) (slot : SlotRow) → slot_at content series row ≡ Some slot → row < made) → slots_of content series ≡ filter_map (slot_at content series) (range_with_len 0 made)
  slots_by_row made below = ap slots_in_order (all_asked made below) ∙ scan_by_row 0 made
