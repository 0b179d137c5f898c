-- What changes do to the slot at each place, and that contents with one slot at each place are one.
use Rattle.std.proofs.Common.{◌≡◌, ℕ, Bool, true, false, cond, List, [], ◌∷◌, Option, Some, None, option_map, refl, sym, ap, ◌∙◌}
use Rattle.std.specs.FinMap as finite
use Rattle.mt_rowfile.specs.declared.slot.SlotRow.{SlotRow}
use Rattle.mt_physplan.specs.declared.change.Change.{Change}
use Rattle.mt_physplan.specs.declared.change.Change.TheVariants.{Put, Mark, Remove, PutCat, RemoveCat}
use Rattle.mt_physplan.specs.declared.key.Key.{Key}
use Rattle.mt_physplan.specs.declared.key.Cell.{Cell}
use Rattle.mt_physplan.specs.Applied.{applied, applied_by, with_mark}
use Rattle.mt_physplan.specs.Content.{Content}
use Rattle.mt_physplan.specs.Keys.{cell_of, conventional_key, key_in, slot_in}
use Rattle.mt_physplan.proofs.Keys.{keys_exact, keys_total}
use Rattle.mt_rows.specs.Changes.{AreApplied, after_change, after_changes, is_at, marked}
use Rattle.mt_rows.specs.Series.{Series, key_at, slot_at}
use Rattle.mt_rows.proofs.Places.{key_at_place, tied_at}

module _ (content : Content) (series : Series) (row : ℕ) where
  abbrev here : Key
  here = key_at series row

  abbrev before : Option SlotRow
  before = slot_at content series row

  -- what is found at the place where something is put
  put_at : (key : Key) (cell : Cell) → slot_at (finite.insert content key cell) series row ≡ cond (is_at series row key) (Some (slot_in key cell)) before
  put_at key cell =
      ap (option_map (slot_in here)) (finite.get-insert keys_total content key cell here ∙ ap (λ b. cond b (Some cell) (finite.get content here)) (tied_at series row key))
      ∙ by (is_at series row key) refl
    where
      by : (b : Bool) → is_at series row key ≡ b → option_map (slot_in here) (cond b (Some cell) (finite.get content here)) ≡ cond b (Some (slot_in key cell)) before
      by true e = ap (λ k. Some (slot_in k cell)) (sym (key_at_place series row key e))
      by false e = refl

  remove_at : (key : Key) → slot_at (finite.remove content key) series row ≡ cond (is_at series row key) None before
  remove_at key =
      ap (option_map (slot_in here)) (finite.get-remove keys_total content key here ∙ ap (λ b. cond b None (finite.get content here)) (tied_at series row key))
      ∙ by (is_at series row key)
    where
      by : (b : Bool) → option_map (slot_in here) (cond b None (finite.get content here)) ≡ cond b None before
      by true = refl
      by false = refl

  -- what stands at the place of a key that was looked up
  found_at : (key : Key) (found : Option Cell) → finite.get content key ≡ found → is_at series row key ≡ true → before ≡ option_map (slot_in here) found
  found_at key found is at = ap (option_map (slot_in here)) (ap (finite.get content) (sym (key_at_place series row key at)) ∙ is)

  mark_at : (mark : ℕ) (key : Key) (found : Option Cell) → finite.get content key ≡ found
      → slot_at (with_mark mark key found content) series row ≡ cond (is_at series row key) (option_map (marked mark) before) before
  mark_at mark key None is = by (is_at series row key) refl
    where
      by : (b : Bool) → is_at series row key ≡ b → before ≡ cond b (option_map (marked mark) before) before
      by true e = let none = found_at key None is e in none ∙ sym (ap (option_map (marked mark)) none)
      by false e = refl
  mark_at mark key (Some cell) is =
      put_at key (record { mark = mark; values = cell.values }) ∙ by (is_at series row key) refl
    where
      by : (b : Bool) → is_at series row key ≡ b → cond b (Some (slot_in key (record { mark = mark; values = cell.values }))) before ≡ cond b (option_map (marked mark) before) before
      by true e =
          ap (λ k. Some (slot_in k (record { mark = mark; values = cell.values }))) (key_at_place series row key e)
          ∙ sym (ap (option_map (marked mark)) (found_at key (Some cell) is e))
      by false e = refl

  pub change_at : (change : Change) → slot_at (applied_by change content) series row ≡ after_change change series row before
  change_at (Put table slot) = put_at (key_in table slot) (cell_of slot)
  change_at (Mark table tenant other mark) = mark_at mark (conventional_key table tenant other) (finite.get content (conventional_key table tenant other)) refl
  change_at (Remove table tenant base chunk other) = remove_at (record { table = table; tenant = tenant; base = base; chunk = chunk; row = other })
  change_at (PutCat table body) = refl
  change_at (RemoveCat table body) = refl

pub changes_at : (changes : List Change) (content : Content) (series : Series) (row : ℕ) → slot_at (applied changes content) series row ≡ after_changes changes series row (slot_at content series row)
changes_at [] content series row = refl
changes_at (change ∷ changes) content series row = changes_at changes (applied_by change content) series row ∙ ap (after_changes changes series row) (change_at content series row change)

-- the place of a key
abbrev series_in : Key → Series
series_in key = record { table = key.table; tenant = key.tenant; base = key.base; chunk = key.chunk }

cell_at : (content : Content) (key : Key) → finite.get content key ≡ option_map cell_of (slot_at content (series_in key) key.row)
cell_at content key = by (finite.get content key)
  where
    by : (found : Option Cell) → found ≡ option_map cell_of (option_map (slot_in key) found)
    by None = refl
    by (Some cell) = refl

pub same_slots : (content other : Content) → ((series : Series) (row : ℕ) → slot_at content series row ≡ slot_at other series row) → content ≡ other
same_slots content other same = finite.same_map keys_total keys_exact content other (λ key. cell_at content key ∙ ap (option_map cell_of) (same (series_in key) key.row) ∙ sym (cell_at other key))

pub applied_is_all : (changes : List Change) (before after : Content) → AreApplied changes before after → after ≡ applied changes before
applied_is_all changes before after are = same_slots after (applied changes before) (λ series row. are.at series row ∙ sym (changes_at changes before series row))
