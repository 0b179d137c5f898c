-- Columns whose chunks no slot names read as NULL.
use Rattle.std.proofs.Common.{◌≡◌, ℕ, ◌+◌, ◌-◌, ◌*◌, ◌<◌, ◌≤◌, ◌==◌, ◌⊎◌, inl, inr, Bool, true, false, if◌then◌else◌, List, [], ◌∷◌, ◌++◌, length, map, take, filter_map, count_by, zip, zero, suc, replicate, slice_get, slice_index_or, Option, Some, None, refl, sym, ap, ◌∙◌, arith, length-append}
use Rattle.std.proofs.lemmas.Bool.{cases_lt}
use Rattle.std.proofs.lemmas.List.{get_or-append-add, get_or-replicate, get_or_append_left, length-replicate}
use Rattle.std.proofs.lemmas.List.Elements.{All-append, All-cons, All-nil}
use Rattle.std.proofs.lemmas.List.FromFn.{fill_by_all, get_or-map-range_with_len, length-map-range_with_len}
use Rattle.std.proofs.lemmas.List.Sums.{count_by_more_yes, sum_by-take-le}
use Rattle.std.proofs.lemmas.Option.{slice_get_past}
use Rattle.std.specs.List.{All, cons_option, range_with_len}
use Rattle.mt_value.specs.declared.value.Value.{Value}
use Rattle.mt_value.specs.declared.value.Value.TheVariants.{Null}
use Rattle.mt_codec.specs.declared.field.FieldKind.{FieldKind}
use Rattle.mt_codec.specs.declared.field.FieldKind.TheVariants.{Int, Text}
use Rattle.mt_rowfile.specs.declared.slot.SlotRow.{SlotRow}
use Rattle.mt_physplan.specs.Content.{Content}
use Rattle.mt_tree.specs.declared.row.MarkedRow.{MarkedRow}
use Rattle.mt_tree.specs.declared.schema.Column.{Column}
use Rattle.mt_fold.specs.declared.fold.Fold.{Fold}
use Rattle.mt_fold.specs.declared.fold.Place.{Place}
use Rattle.mt_fold.specs.declared.fold.Place.TheVariants.{Conv, Field}
use Rattle.mt_fold.specs.declared.fold.Placement.TheVariants.{Settled}
use Rattle.mt_fold.specs.declared.shape.Shape.{Shape}
use Rattle.mt_fold.specs.declared.shape.Shape.TheVariants.{C1, C2, C3, C4, C5, C6}
use Rattle.mt_fold.specs.Extended.{FillShapes, extended_fold, place_taken, places_from, places_in, places_taken}
use Rattle.mt_fold.specs.Placements.{Folded}
use Rattle.mt_fold.specs.Shapes.{fields_of, same_sort, shape_table}
use Rattle.mt_rows.specs.Assembled.{Kept, assembled, chunk_value, column_value, field_value, row_of, value_at, values_of}
use Rattle.mt_rows.specs.Rules.{KeepsRules}
use Rattle.mt_rows.specs.Series.{Series, anchors_of, chunk_of, slot_at, slots_of}

-- a place in a chunk with at least this number
abbrev StandsBehind : ℕ → Place → Type 0
StandsBehind first Conv = ⊥
StandsBehind first (Field chunk field) = first ≤ chunk

-- the places that a chunk gives
module _ (kind : FieldKind) where
  abbrev place_of : ℕ → ℕ × FieldKind → Option Place
  place_of chunk f = if same_sort kind f.1 then Some (Field chunk f.0) else None

  found_behind : (first chunk : ℕ) → first ≤ chunk → (fields : List (ℕ × FieldKind)) → All (StandsBehind first) (filter_map (place_of chunk) fields)
  found_behind first chunk low [] = All-nil (StandsBehind first)
  found_behind first chunk low (f ∷ fields) = by (same_sort kind f.1) (found_behind first chunk low fields)
    where
      by : (b : Bool) → All (StandsBehind first) (filter_map (place_of chunk) fields) → All (StandsBehind first) (cons_option (if b then Some (Field chunk f.0) else None) (filter_map (place_of chunk) fields))
      by false rest = rest
      by true rest = All-cons (StandsBehind first) (Field chunk f.0) (filter_map (place_of chunk) fields) low rest

  -- the chunks of some shapes stand behind those before the first
  places_behind : (first chunk : ℕ) → first ≤ chunk → (shapes : List Shape) → All (StandsBehind first) (places_from kind chunk shapes)
  places_behind first chunk low [] = All-nil (StandsBehind first)
  places_behind first chunk low (shape ∷ shapes) =
      All-append (StandsBehind first) (places_in kind chunk shape) (places_from kind (chunk + 1) shapes)
      (found_behind first chunk low (zip (range_with_len 0 (length (fields_of shape))) (fields_of shape)))
      (places_behind first (chunk + 1) (omega arith) shapes)

  -- how many there are does not depend on the number of the first
  as_many_found : (chunk other : ℕ) (fields : List (ℕ × FieldKind)) → length (filter_map (place_of chunk) fields) ≡ length (filter_map (place_of other) fields)
  as_many_found chunk other [] = refl
  as_many_found chunk other (f ∷ fields) = by (same_sort kind f.1) (as_many_found chunk other fields)
    where
      by : (b : Bool) → length (filter_map (place_of chunk) fields) ≡ length (filter_map (place_of other) fields)
          → length (cons_option (if b then Some (Field chunk f.0) else None) (filter_map (place_of chunk) fields)) ≡ length (cons_option (if b then Some (Field other f.0) else None) (filter_map (place_of other) fields))
      by true same = ap suc same
      by false same = same

  as_many_places : (chunk other : ℕ) (shapes : List Shape) → length (places_from kind chunk shapes) ≡ length (places_from kind other shapes)
  as_many_places chunk other [] = refl
  as_many_places chunk other (shape ∷ shapes) =
      let here = as_many_found chunk other (zip (range_with_len 0 (length (fields_of shape))) (fields_of shape)) in
      let rest = as_many_places (chunk + 1) (other + 1) shapes in
      length-append (places_in kind chunk shape) (places_from kind (chunk + 1) shapes) ∙ (λ i. here i + rest i)
      ∙ sym (length-append (places_in kind other shape) (places_from kind (other + 1) shapes))

own_sort : (kind : FieldKind) → same_sort kind kind ≡ true
own_sort Int = refl
own_sort (Text size) = refl

-- each column that is put into a chunk has a place in one of the new chunks
pub taken_behind : (first column : ℕ) (shapes : List Shape) (kinds : List FieldKind) → FillShapes kinds shapes → column < length kinds → StandsBehind first (place_taken first shapes kinds column)
taken_behind first column shapes kinds fill low =
    places_behind kind first first (omega arith) shapes (count_by (same_sort kind) (take column kinds)) Conv within
  where
    kind : FieldKind
    kind = slice_index_or kinds column Int

    within : count_by (same_sort kind) (take column kinds) < length (places_from kind first shapes)
    within =
        let more = count_by_more_yes (same_sort kind) kinds column Int low (own_sort kind) in
        let some = sum_by-take-le (λ k. if same_sort kind k then 1 else 0) kinds (column + 1) in
        let room = fill.room kind in
        let same = as_many_places kind first 0 shapes in
        omega (arith, more, some, room, same)

get_in_front : {X : Type 0} (front back : List X) (i : ℕ) (x : X) → slice_get front i ≡ Some x → slice_get (front ++ back) i ≡ Some x
get_in_front [] back i x is = cc
get_in_front (y ∷ front) back zero x is = is
get_in_front (y ∷ front) back (suc i) x is = get_in_front front back i x is

chunk_tables : (shape : Shape) → (1 ≤ shape_table shape) × (shape_table shape ≤ 6)
chunk_tables C1 = (omega arith, omega arith)
chunk_tables C2 = (omega arith, omega arith)
chunk_tables C3 = (omega arith, omega arith)
chunk_tables C4 = (omega arith, omega arith)
chunk_tables C5 = (omega arith, omega arith)
chunk_tables C6 = (omega arith, omega arith)

module _ (content : Content) (tenant base generation : ℕ) (fold : Fold) (kinds : List FieldKind) (shapes : List Shape) where
  abbrev kept : Kept
  kept = record { tenant = tenant; base = base; placement = Settled generation fold }

  abbrev extended : Kept
  extended = record { tenant = tenant; base = base; placement = Settled generation (extended_fold fold kinds shapes) }

  abbrev before : Folded
  before = record { generation = generation; fold = fold }

  abbrev after : Folded
  after = record { generation = generation; fold = extended_fold fold kinds shapes }

  module _ (columns : List Column) (base_len made : ℕ) (rules : KeepsRules content kept columns base_len made) where
    -- no slot names a chunk that the fold does not have
    no_row : (shape : Shape) (chunk row : ℕ) → slice_get fold.shapes chunk ≡ None → slot_at content (chunk_of tenant base shape (16 * generation + chunk)) row ≡ None
    no_row shape chunk row none = by (slot_at content (chunk_of tenant base shape (16 * generation + chunk)) row) refl
      where
        by : (found : Option SlotRow) → slot_at content (chunk_of tenant base shape (16 * generation + chunk)) row ≡ found → slot_at content (chunk_of tenant base shape (16 * generation + chunk)) row ≡ None
        by None is = is
        by (Some slot) is =
            let table = chunk_tables shape in
            let it = rules.chunks (chunk_of tenant base shape (16 * generation + chunk)) row slot table.0 table.1 refl refl is in
            let numbers : 16 * generation + chunk ≡ 16 * generation + it.chunk = ap (λ (s : Series). s.chunk) it.series_is in
            let one : chunk ≡ it.chunk = omega (arith, numbers) in
            let has : slice_get fold.shapes chunk ≡ Some it.shape = ap (slice_get fold.shapes) one ∙ it.chunk_is in
            let no = sym none ∙ has in
            cc

    -- so a chunk that the fold does not have reads as NULL, as one that the extended fold does not have
    chunk_same : (chunk row field : ℕ) → chunk_value content tenant base (16 * generation + chunk) (slice_get (fold.shapes ++ shapes) chunk) row field ≡ chunk_value content tenant base (16 * generation + chunk) (slice_get fold.shapes chunk) row field
    chunk_same chunk row field = by (slice_get fold.shapes chunk) refl
      where
        value : Option Shape → Value
        value shape = chunk_value content tenant base (16 * generation + chunk) shape row field

        by : (found : Option Shape) → slice_get fold.shapes chunk ≡ found → value (slice_get (fold.shapes ++ shapes) chunk) ≡ value found
        by (Some shape) is = ap value (get_in_front fold.shapes shapes chunk shape is)
        by None is = absent (slice_get (fold.shapes ++ shapes) chunk)
          where
            absent : (found : Option Shape) → value found ≡ Null
            absent None = refl
            absent (Some shape) = ap (λ slot. field_value slot field) (no_row shape chunk row is)

    place_same : (anchor : SlotRow) (column : ℕ) (place : Place) → value_at content tenant base after anchor column place ≡ value_at content tenant base before anchor column place
    place_same anchor column Conv = refl
    place_same anchor column (Field chunk field) = chunk_same chunk anchor.row field

    null_behind : (anchor : SlotRow) (column : ℕ) (place : Place) → StandsBehind (length fold.shapes) place → value_at content tenant base before anchor column place ≡ Null
    null_behind anchor column Conv behind = absurd behind
    null_behind anchor column (Field chunk field) behind = ap (λ shape. chunk_value content tenant base (16 * generation + chunk) shape anchor.row field) (slice_get_past fold.shapes chunk behind)

    module _ (fill : FillShapes kinds shapes) (anchor : SlotRow) where
      abbrev value_of : ℕ → Value
      value_of = column_value content tenant base after anchor

      -- a column that was there lies where it lay
      old_value : (column : ℕ) → column < length fold.places → value_of column ≡ column_value content tenant base before anchor column
      old_value column low =
          ap (value_at content tenant base after anchor column) (get_or_append_left fold.places (places_taken (length fold.shapes) shapes kinds) Conv column low)
          ∙ place_same anchor column (slice_index_or fold.places column Conv)

      new_value : (column : ℕ) → column < length kinds → value_of (length fold.places + column) ≡ Null
      new_value column low =
          ap (value_at content tenant base after anchor (length fold.places + column))
          (get_or-append-add fold.places (places_taken (length fold.shapes) shapes kinds) column Conv
          ∙ get_or-map-range_with_len (place_taken (length fold.shapes) shapes kinds) 0 (length kinds) column column Conv low (omega arith))
          ∙ place_same anchor (length fold.places + column) (place_taken (length fold.shapes) shapes kinds column)
          ∙ null_behind anchor (length fold.places + column) (place_taken (length fold.shapes) shapes kinds column) (taken_behind (length fold.shapes) column shapes kinds fill low)

      values_extended : values_of content tenant base after anchor ≡ values_of content tenant base before anchor ++ replicate (length kinds) Null
      values_extended = sym (fill_by_all value_of (olds ++ nulls) (length (fold.places ++ places_taken (length fold.shapes) shapes kinds)) Null lengths (λ column low. at column (omega (arith, low, total)) (cases_lt column (length fold.places))))
        where
          olds : List Value
          olds = values_of content tenant base before anchor

          nulls : List Value
          nulls = replicate (length kinds) Null

          total : length (fold.places ++ places_taken (length fold.shapes) shapes kinds) ≡ length fold.places + length kinds
          total = length-append fold.places (places_taken (length fold.shapes) shapes kinds) ∙ ap (λ n. length fold.places + n) (length-map-range_with_len (place_taken (length fold.shapes) shapes kinds) 0 (length kinds))

          old_count : length olds ≡ length fold.places
          old_count = length-map-range_with_len (column_value content tenant base before anchor) 0 (length fold.places)

          lengths : length (olds ++ nulls) ≡ length (fold.places ++ places_taken (length fold.shapes) shapes kinds)
          lengths = length-append olds nulls ∙ (λ i. old_count i + length-replicate (length kinds) Null i) ∙ sym total

          at : (column : ℕ) → column < length fold.places + length kinds → (column < length fold.places) ⊎ (length fold.places ≤ column) → slice_index_or (olds ++ nulls) column Null ≡ value_of column
          at column low (inl old) =
              get_or_append_left olds nulls Null column (omega (arith, old, old_count))
              ∙ get_or-map-range_with_len (column_value content tenant base before anchor) 0 (length fold.places) column column Null old (omega arith)
              ∙ sym (old_value column old)
          at column low (inr new) =
              let added : column - length fold.places < length kinds = omega (arith, low, new) in
              let as_old : column ≡ length olds + (column - length fold.places) = omega (arith, new, old_count) in
              let as_new : length fold.places + (column - length fold.places) ≡ column = omega (arith, new) in
              ap (λ n. slice_index_or (olds ++ nulls) n Null) as_old
              ∙ get_or-append-add olds nulls (column - length fold.places) Null
              ∙ get_or-replicate (length kinds) (column - length fold.places) Null Null added
              ∙ sym (ap value_of (sym as_new) ∙ new_value (column - length fold.places) added)

    pub rows_extended : FillShapes kinds shapes → assembled content extended ≡ map (λ row. record { visible = row.visible; values = row.values ++ replicate (length kinds) Null }) (assembled content kept)
    rows_extended fill = by (slots_of content (anchors_of tenant base))
      where
        with_nulls : MarkedRow → MarkedRow
        with_nulls row = record { visible = row.visible; values = row.values ++ replicate (length kinds) Null }

        by : (anchors : List SlotRow) → map (row_of content extended) anchors ≡ map with_nulls (map (row_of content kept) anchors)
        by [] = refl
        by (anchor ∷ anchors) = λ i. record { visible = anchor.mark == 1; values = values_extended fill anchor i } ∷ by anchors i
