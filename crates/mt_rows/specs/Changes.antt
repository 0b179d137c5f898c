-- What changes do to the slot at one place.
use Rattle.std.specs.Prelude.{◌≡◌, ℕ, ◌&&◌, nat_eq, Bool, if◌then◌else◌, List, [], ◌∷◌, Option, Some, None, option_map}
use Rattle.mt_rowfile.specs.declared.slot.SlotRow.{SlotRow}
use Rattle.mt_physplan.specs.declared.change.Change.{Change}
use Rattle.mt_physplan.specs.declared.change.Change.TheVariants.{Put, Mark, Remove, PutCat, RemoveCat}
use Rattle.mt_physplan.specs.declared.key.Key.{Key}
use Rattle.mt_physplan.specs.Content.{Content}
use Rattle.mt_physplan.specs.Keys.{conventional_key, key_in}
use Rattle.mt_rows.specs.Series.{Series, in_series, slot_at}

-- whether a key is that of this place
abbrev pub is_at : Series → ℕ → Key → Bool
is_at series row key = in_series series key && nat_eq key.row row

-- the slot with this mark
abbrev pub marked : ℕ → SlotRow → SlotRow
marked mark slot = record { mark = mark; tenant = slot.tenant; base = slot.base; chunk = slot.chunk; row = slot.row; values = slot.values }

-- what one change makes of the slot at a place
abbrev pub after_change : Change → Series → ℕ → Option SlotRow → Option SlotRow
after_change (Put table slot) series row before = if is_at series row (key_in table slot) then Some slot else before
after_change (Mark table tenant other mark) series row before = if is_at series row (conventional_key table tenant other) then option_map (marked mark) before else before
after_change (Remove table tenant base chunk other) series row before =
    if is_at series row (record { table = table; tenant = tenant; base = base; chunk = chunk; row = other }) then None else before
after_change (PutCat table body) series row before = before
after_change (RemoveCat table body) series row before = before

-- what changes make of it, one after another
abbrev pub after_changes : List Change → Series → ℕ → Option SlotRow → Option SlotRow
after_changes [] series row before = before
after_changes (change ∷ changes) series row before = after_changes changes series row (after_change change series row before)

-- Each place holds what the changes make of what it held.
pub record AreApplied (changes : List Change) (before after : Content) : Type 0 where
  pub at : (series : Series) (row : ℕ) → slot_at after series row ≡ after_changes changes series row (slot_at before series row)
