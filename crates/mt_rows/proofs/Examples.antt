-- A worked example of the definitions.
use Rattle.std.proofs.Common.{◌≡◌, ℕ, true, false, List, [], ◌∷◌, Option, option_map, map, refl, sym, ap, ◌∙◌, pos}
use Rattle.std.specs.List.Sorted.{IsStrictlySortedBy}
use Rattle.std.specs.Map.{keys_of}
use Rattle.std.specs.FinMap as finite
use Rattle.mt_value.specs.declared.value.Value.TheVariants.{Int, Null}
use Rattle.mt_physplan.specs.declared.key.Key.{Key}
use Rattle.mt_physplan.specs.declared.key.Cell.{Cell}
use Rattle.mt_physplan.specs.Content.{Content}
use Rattle.mt_physplan.specs.Keys.{key_cmp, slot_in}
use Rattle.mt_physplan.proofs.Keys.{keys_exact, keys_total}
use Rattle.mt_physplan.proofs.Maps.{picked_entries}
use Rattle.mt_tree.specs.declared.row.MarkedRow.{MarkedRow}
use Rattle.mt_fold.specs.declared.fold.Fold.{Fold}
use Rattle.mt_fold.specs.declared.fold.Place.TheVariants.{Conv, Field}
use Rattle.mt_fold.specs.declared.fold.Placement.TheVariants.{Settled}
use Rattle.mt_fold.specs.declared.shape.Shape.TheVariants.{C4}
use Rattle.mt_rows.specs.Assembled.{Kept, assembled, field_value, row_of}
use Rattle.mt_rows.specs.Series.{anchors_of, chunk_of, in_series, key_at}

-- the first column lies in the conventional row, and two more in a chunk
abbrev fold : Fold
fold = record { shapes = C4 ∷ []; places = Conv ∷ Field 0 0 ∷ Field 0 1 ∷ [] }

-- the table of tenant 17 that stands on base table 3; the chunks of its generation begin at 16
abbrev kept : Kept
kept = record { tenant = 17; base = 3; placement = Settled 1 fold }

abbrev anchor_key : ℕ → Key
anchor_key row = key_at (anchors_of 17 3) row

abbrev chunk_key : ℕ → Key
chunk_key row = key_at (chunk_of 17 3 C4 16) row

-- Rows 0 and 5, the second of which is in the trashcan and has no row in the chunk
abbrev entries : List (Key × Cell)
entries =
    (chunk_key 0, record { mark = 1; values = Int (pos 20) ∷ Int (pos 30) ∷ Null ∷ Null ∷ [] })
    ∷ (anchor_key 0, record { mark = 1; values = Int (pos 10) ∷ [] }) ∷ (anchor_key 5, record { mark = 2; values = Int (pos 15) ∷ [] }) ∷ []

abbrev content : Content
content = finite.from_entries entries

rising : IsStrictlySortedBy key_cmp (keys_of entries)
unfolding IsStrictlySortedBy
rising = ((refl, (refl, tt)), ((refl, tt), (tt, tt)))

-- the rows, by what is found in the chunk
abbrev rows_with : Option Cell → Option Cell → List MarkedRow
rows_with first later =
    record { visible = true; values = Int (pos 10) ∷ field_value (option_map (slot_in (chunk_key 0)) first) 0 ∷ field_value (option_map (slot_in (chunk_key 0)) first) 1 ∷ [] }
    ∷ record { visible = false; values = Int (pos 15) ∷ field_value (option_map (slot_in (chunk_key 5)) later) 0 ∷ field_value (option_map (slot_in (chunk_key 5)) later) 1 ∷ [] } ∷ []

-- where the row of a chunk is absent, its columns read as NULL
absent-reads-null : assembled content kept
    ≡ record { visible = true; values = Int (pos 10) ∷ Int (pos 20) ∷ Int (pos 30) ∷ [] } ∷ record { visible = false; values = Int (pos 15) ∷ Null ∷ Null ∷ [] } ∷ []
absent-reads-null =
    ap (λ (found : List (Key × Cell)). map (row_of content kept) (map (λ e. slot_in e.0 e.1) found)) (sym (picked_entries key_cmp keys_total keys_exact (in_series (anchors_of 17 3)) entries rising))
    ∙ (λ i. rows_with (finite.get-from_entries keys_total entries (chunk_key 0) i) (finite.get-from_entries keys_total entries (chunk_key 5) i))
