-- How parts with commas between are printed one after another.
use Rattle.std.proofs.Common.{◌≡◌, ℕ, ◌+◌, ◌<◌, ◌≤◌, Bool, true, false, ◌||◌, if◌then◌else◌, List, [], ◌∷◌, ◌++◌, length, map, take, codes, get_or, refl, sym, ap, ◌∙◌, arith}
use Rattle.std.proofs.lemmas.Bool.{false≢true}
use Rattle.std.proofs.lemmas.List.{append-nil, append_assoc, map-append, length-map, map-id, map_more, take-map, take_all}
use Rattle.std.proofs.lemmas.List.Concat.{flat_map-append}
use Rattle.std.proofs.lemmas.List.Elements.{filter_more}
use Rattle.std.proofs.lemmas.List.FromFn.{get_or-range_with_len, length-range_with_len, map-range_with_len_more}
use Rattle.std.proofs.lemmas.Slice.Zip.{get_or-zip, length-zip}
use Rattle.std.specs.List.{filter, flat_map, list_any, range_with_len, zip}
use Rattle.mt_tree.specs.declared.schema.Column.{Column}
use Rattle.mt_fold.specs.declared.fold.Fold.{Fold}
use Rattle.mt_fold.specs.declared.fold.Place.{Place}
use Rattle.mt_fold.specs.declared.fold.Place.TheVariants.{Conv, Field}
use Rattle.mt_fold.specs.declared.shape.Shape.{Shape}
use Rattle.mt_fold.specs.Parts.{first_behind, parts_text, separator}
use Rattle.mt_fold.specs.Texts.{chunk_names, chunk_parts, conv_part, group_text, is_place, names_at, shape_name}

-- parts behind parts
parts_text-append : (first : Bool) (parts more : List (List ℕ)) → parts_text first (parts ++ more) ≡ parts_text first parts ++ parts_text (first_behind first parts) more
parts_text-append first [] more = none first
  where
    none : (first : Bool) → parts_text first more ≡ parts_text first [] ++ parts_text first more
    none true = refl
    none false = refl
parts_text-append true (part ∷ parts) more = ap (λ text. part ++ text) (flat_map-append (λ p. codes ", " ++ p) parts more) ∙ sym (append_assoc part (flat_map (λ p. codes ", " ++ p) parts) (flat_map (λ p. codes ", " ++ p) more))
parts_text-append false (part ∷ parts) more = flat_map-append (λ p. codes ", " ++ p) (part ∷ parts) more

first_behind-append : (first : Bool) (parts more : List (List ℕ)) → first_behind first (parts ++ more) ≡ first_behind (first_behind first parts) more
first_behind-append first [] more = refl
first_behind-append first (part ∷ parts) [] = refl
first_behind-append first (part ∷ parts) (other ∷ more) = refl

parts_text-one : (first : Bool) (part : List ℕ) → parts_text first (part ∷ []) ≡ separator first ++ part
parts_text-one true part = append-nil part
parts_text-one false part = append-nil (codes ", " ++ part)

-- more parts behind those that stand there
pub parts_more : (first now : Bool) (old so_far after : List ℕ) (parts more : List (List ℕ)) → so_far ≡ old ++ parts_text first parts → now ≡ first_behind first parts → after ≡ so_far ++ parts_text now more
    → after ≡ old ++ parts_text first (parts ++ more)
parts_more first now old so_far after parts more stands behind push =
    push ∙ (λ i. stands i ++ parts_text (behind i) more) ∙ append_assoc old (parts_text first parts) (parts_text (first_behind first parts) more) ∙ ap (λ text. old ++ text) (sym (parts_text-append first parts more))

pub behind_more : (first now after : Bool) (parts more : List (List ℕ)) → now ≡ first_behind first parts → after ≡ first_behind now more → after ≡ first_behind first (parts ++ more)
behind_more first now after parts more behind last = last ∙ ap (λ b. first_behind b more) behind ∙ sym (first_behind-append first parts more)

-- and one more
pub part_more : (first now : Bool) (old so_far after part : List ℕ) (parts : List (List ℕ)) → so_far ≡ old ++ parts_text first parts → now ≡ first_behind first parts → after ≡ (so_far ++ separator now) ++ part
    → after ≡ old ++ parts_text first (parts ++ part ∷ [])
part_more first now old so_far after part parts stands behind push =
    parts_more first now old so_far after parts (part ∷ []) stands behind (push ∙ append_assoc so_far (separator now) part ∙ ap (λ text. so_far ++ text) (sym (parts_text-one now part)))

-- the names of the columns at a place among the first so many
abbrev pub names_among : List Place → List Column → Place → ℕ → List (List ℕ)
names_among places columns place count = map (λ c. c.1.name) (filter (λ c. is_place place c.0) (take count (zip places columns)))

module _ (places : List Place) (columns : List Column) (place at : Place) (column : Column) (count more : ℕ) (next : more ≡ count + 1) (low : count < length places) (below : count < length columns)
    (at_is : at ≡ get_or places count at) (column_is : column ≡ get_or columns count column) where
  names_next : (is : Bool) → is_place place at ≡ is
      → names_among places columns place more ≡ names_among places columns place count ++ map (λ (c : Place × Column). c.1.name) (filter (λ (c : Place × Column). is) ((at, column) ∷ []))
  names_next is same =
      ap (λ n. names_among places columns place n) next
      ∙ ap (map (λ c. c.1.name)) (filter_more (λ c. is_place place c.0) (zip places columns) count (at, column) (omega (arith, length-zip places columns)))
      ∙ map-append (λ c. c.1.name) (filter (λ c. is_place place c.0) (take count (zip places columns))) (filter (λ c. is_place place c.0) (get_or (zip places columns) count (at, column) ∷ []))
      ∙ ap (λ c. names_among places columns place count ++ map (λ (c : Place × Column). c.1.name) (filter (λ (c : Place × Column). is_place place c.0) (c ∷ []))) read
      ∙ ap (λ b. names_among places columns place count ++ map (λ (c : Place × Column). c.1.name) (filter (λ (c : Place × Column). b) ((at, column) ∷ []))) same
    where
      read : get_or (zip places columns) count (at, column) ≡ (at, column)
      read = get_or-zip places columns count (at, column) low below ∙ (λ i. (sym at_is i, sym column_is i))

  pub names_with : is_place place at ≡ true → names_among places columns place more ≡ names_among places columns place count ++ column.name ∷ []
  names_with is = names_next true is

  pub names_without : is_place place at ≡ false → names_among places columns place more ≡ names_among places columns place count
  names_without is = names_next false is ∙ append-nil (names_among places columns place count)

pub names_all : (fold : Fold) (columns : List Column) (place : Place) (count : ℕ) → length (zip fold.places columns) ≤ count → names_among fold.places columns place count ≡ names_at fold columns place
names_all fold columns place count past = ap (λ pairs. map (λ (c : Place × Column). c.1.name) (filter (λ (c : Place × Column). is_place place c.0) pairs)) (take_all count (zip fold.places columns) past)

-- the names of the columns in the first so many fields of a chunk
abbrev pub names_in : Fold → List Column → ℕ → ℕ → List (List ℕ)
names_in fold columns chunk count = flat_map (λ field. names_at fold columns (Field chunk field)) (range_with_len 0 count)

pub names_in_more : (fold : Fold) (columns : List Column) (chunk count : ℕ) → names_in fold columns chunk (count + 1) ≡ names_in fold columns chunk count ++ names_at fold columns (Field chunk count)
names_in_more fold columns chunk count =
    ap (flat_map names_of) range_more ∙ flat_map-append names_of (range_with_len 0 count) (count ∷ []) ∙ ap (λ names. names_in fold columns chunk count ++ names) (append-nil (names_of count))
  where
    names_of : ℕ → List (List ℕ)
    names_of field = names_at fold columns (Field chunk field)

    range_more : range_with_len 0 (count + 1) ≡ range_with_len 0 count ++ count ∷ []
    range_more = sym (map-id (range_with_len 0 (count + 1))) ∙ map-range_with_len_more (λ n. n) 0 count count (omega arith) ∙ ap (λ range. range ++ count ∷ []) (map-id (range_with_len 0 count))

-- the parts of the chunks, one more and all
pub chunk_parts_more : (fold : Fold) (columns : List Column) (chunk : ℕ) (shape default : Shape) → chunk < length fold.shapes → shape ≡ get_or fold.shapes chunk default
    → take (chunk + 1) (chunk_parts fold columns) ≡ take chunk (chunk_parts fold columns) ++ group_text (shape_name shape) (chunk_names fold columns chunk shape) ∷ []
chunk_parts_more fold columns chunk shape default low read =
    take-map part (chunk + 1) pairs ∙ map_more part pairs chunk (chunk, default) (omega (arith, low, length-zip numbers fold.shapes, size))
    ∙ (λ i. sym (take-map part chunk pairs) i ++ part (read_pair i) ∷ [])
  where
    part : ℕ × Shape → List ℕ
    part c = group_text (shape_name c.1) (chunk_names fold columns c.0 c.1)

    numbers : List ℕ
    numbers = range_with_len 0 (length fold.shapes)

    pairs : List (ℕ × Shape)
    pairs = zip numbers fold.shapes

    size : length numbers ≡ length fold.shapes
    size = length-range_with_len 0 (length fold.shapes)

    number : get_or numbers chunk chunk ≡ chunk
    number = get_or-range_with_len 0 (length fold.shapes) chunk chunk low ∙ omega arith

    read_pair : get_or pairs chunk (chunk, default) ≡ (chunk, shape)
    read_pair = get_or-zip numbers fold.shapes chunk (chunk, default) (omega (arith, low, size)) low ∙ (λ i. (number i, sym read i))

pub chunk_parts_all : (fold : Fold) (columns : List Column) (chunk : ℕ) → length fold.shapes ≤ chunk → take chunk (chunk_parts fold columns) ≡ chunk_parts fold columns
chunk_parts_all fold columns chunk past =
    take_all chunk (chunk_parts fold columns)
    (omega (arith, past, length-map (zip numbers fold.shapes) (λ c. group_text (shape_name c.1) (chunk_names fold columns c.0 c.1)), length-zip numbers fold.shapes))
  where
    numbers : List ℕ
    numbers = range_with_len 0 (length fold.shapes)

-- the columns at a place where none lies there, and where one does
nothing_passes : (places : List Place) (columns : List Column) (place : Place) → list_any (is_place place) places ≡ false → filter (λ (c : Place × Column). is_place place c.0) (zip places columns) ≡ []
nothing_passes [] columns place none = refl
nothing_passes (at ∷ places) [] place none = refl
nothing_passes (at ∷ places) (column ∷ columns) place none = by (is_place place at) none (nothing_passes places columns place)
  where
    rest : List (Place × Column)
    rest = filter (λ (c : Place × Column). is_place place c.0) (zip places columns)

    by : (is : Bool) → (is || list_any (is_place place) places) ≡ false → (list_any (is_place place) places ≡ false → rest ≡ []) → (if is then (at, column) ∷ rest else rest) ≡ []
    by true none nothing = cc
    by false none nothing = nothing none

abbrev names_of : List (Place × Column) → List (List ℕ)
names_of pairs = map (λ c. c.1.name) pairs

something_passes : (places : List Place) (columns : List Column) (place : Place) → length places ≡ length columns → list_any (is_place place) places ≡ true
    → (name : List ℕ) × (names : List (List ℕ)) × (names_of (filter (λ (c : Place × Column). is_place place c.0) (zip places columns)) ≡ name ∷ names)
something_passes [] columns place same some = absurd (false≢true some)
something_passes (at ∷ places) [] place same some = absurd (omega arith)
something_passes (at ∷ places) (column ∷ columns) place same some = by (is_place place at) some (something_passes places columns place (omega arith))
  where
    rest : List (Place × Column)
    rest = filter (λ (c : Place × Column). is_place place c.0) (zip places columns)

    by : (is : Bool) → (is || list_any (is_place place) places) ≡ true → (list_any (is_place place) places ≡ true → (name : List ℕ) × (names : List (List ℕ)) × (names_of rest ≡ name ∷ names))
        → (name : List ℕ) × (names : List (List ℕ)) × (names_of (if is then (at, column) ∷ rest else rest) ≡ name ∷ names)
    by true some found = (column.name, names_of rest, refl)
    by false some found = found some

-- the part of the conventional row
pub no_conv : (fold : Fold) (columns : List Column) → list_any (is_place Conv) fold.places ≡ false → conv_part (names_at fold columns Conv) ≡ []
no_conv fold columns none = ap (λ pairs. conv_part (names_of pairs)) (nothing_passes fold.places columns Conv none)

pub one_conv : (fold : Fold) (columns : List Column) → length fold.places ≡ length columns → list_any (is_place Conv) fold.places ≡ true
    → conv_part (names_at fold columns Conv) ≡ group_text (codes "CONV") (names_at fold columns Conv) ∷ []
one_conv fold columns same some =
    let it = something_passes fold.places columns Conv same some in
    ap conv_part it.2 ∙ ap (λ names. group_text (codes "CONV") names ∷ []) (sym it.2)

pub conv_more : (old after : List ℕ) (names : List (List ℕ)) → after ≡ ((old ++ codes "CONV (") ++ parts_text true names) ++ codes ")" → after ≡ old ++ parts_text true (group_text (codes "CONV") names ∷ [])
conv_more old after names push =
    push ∙ ap (λ text. text ++ codes ")") (append_assoc old (codes "CONV (") (parts_text true names)) ∙ append_assoc old (codes "CONV (" ++ parts_text true names) (codes ")")
    ∙ ap (λ text. old ++ text) (sym (append-nil ((codes "CONV (" ++ parts_text true names) ++ codes ")")))
