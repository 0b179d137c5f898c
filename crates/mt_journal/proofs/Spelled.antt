-- A payload that spells ranges reads back as them.
use Rattle.std.proofs.Common.{◌≡◌, ℕ, ◌+◌, ◌-◌, ◌^◌, ◌<◌, ◌≤◌, List, [], ◌∷◌, ◌++◌, length, get_or, take, drop, refl, sym, ap, ◌∙◌, subst, arith, append_assoc, length-append}
use Rattle.std.specs.Prelude.{All, flat_map, sum_by, slice_get, option_map, Some}
use Rattle.std.proofs.lemmas.List.Sums.{sum_by-cons}
use Rattle.std.proofs.lemmas.Option.{slice_get-map, slice_get-get_or}
use Rattle.std.proofs.lemmas.List.{append-nil, take_at, drop_at, length-map, map-append}
use Rattle.std.proofs.lemmas.List.Elements.{All-nil, All-cons, All-head, All-tail, All-push, All-get_or, All-take}
use Rattle.std.proofs.Math.Seq.{drop-append_seam, drop-append-add, take-append_seam}
use Rattle.byteorder.specs.Endian.{little_bytes, little_number}
use Rattle.byteorder.specs.Numbers.{little_number-reads_back, length-bytes_low_first}
use Rattle.mt_journal.specs.Layout.{Range, range_size}
use Rattle.mt_journal.specs.Commits.{payload_size}
use Rattle.mt_journal.specs.Spelling.{Fits, spelling_of_range, spelling_of, starts_from, range_from, HasRange, ranges_of, IsSpelled}

-- how long a range is spelled
pub length-spelling_of_range : (range : Range) → length (spelling_of_range range) ≡ range_size range
length-spelling_of_range range =
    let position = length-bytes_low_first 0 8 range.position in
    let size = length-bytes_low_first 0 4 (length range.bytes) in
    omega (arith, position, size, length-append (little_bytes 8 range.position ++ little_bytes 4 (length range.bytes)) range.bytes, length-append (little_bytes 8 range.position) (little_bytes 4 (length range.bytes)))

-- how long ranges are spelled one after another
pub length-spellings : (ranges : List Range) → length (flat_map spelling_of_range ranges) ≡ sum_by range_size ranges
length-spellings [] = refl
length-spellings (range ∷ ranges) =
    let head = length-spelling_of_range range in
    let rest = length-spellings ranges in
    let split : length (flat_map spelling_of_range (range ∷ ranges)) ≡ length (spelling_of_range range) + length (flat_map spelling_of_range ranges) = length-append (spelling_of_range range) (flat_map spelling_of_range ranges) in
    split ∙ ap (λ (n : ℕ). n + length (flat_map spelling_of_range ranges)) head ∙ ap (λ (n : ℕ). range_size range + n) rest ∙ sym (sum_by-cons range_size range ranges)

pub length-spelling_of : (ranges : List Range) → length (spelling_of ranges) ≡ payload_size ranges
length-spelling_of ranges =
    let count = length-bytes_low_first 0 4 (length ranges) in
    let rest = length-spellings ranges in
    omega (arith, count, rest, length-append (little_bytes 4 (length ranges)) (flat_map spelling_of_range ranges))

-- a range behind some bytes and before others
module _ (before rest : List ℕ) (range : Range) (fits : Fits range) where
  payload : List ℕ
  payload = before ++ (spelling_of_range range ++ rest)

  from_start : drop (length before) payload ≡ little_bytes 8 range.position ++ (little_bytes 4 (length range.bytes) ++ (range.bytes ++ rest))
  unfolding payload
  from_start =
      drop-append_seam before (spelling_of_range range ++ rest)
      ∙ append_assoc (little_bytes 8 range.position ++ little_bytes 4 (length range.bytes)) range.bytes rest
      ∙ append_assoc (little_bytes 8 range.position) (little_bytes 4 (length range.bytes)) (range.bytes ++ rest)

  from_size : drop (length before + 8) payload ≡ little_bytes 4 (length range.bytes) ++ (range.bytes ++ rest)
  unfolding payload
  from_size =
      drop-append-add before (spelling_of_range range ++ rest) 8
      ∙ ap (drop 8) (append_assoc (little_bytes 8 range.position ++ little_bytes 4 (length range.bytes)) range.bytes rest ∙ append_assoc (little_bytes 8 range.position) (little_bytes 4 (length range.bytes)) (range.bytes ++ rest))
      ∙ drop_at (little_bytes 8 range.position) (little_bytes 4 (length range.bytes) ++ (range.bytes ++ rest)) 8 (length-bytes_low_first 0 8 range.position)

  from_bytes : drop (length before + 12) payload ≡ range.bytes ++ rest
  unfolding payload
  from_bytes =
      let head = little_bytes 8 range.position ++ little_bytes 4 (length range.bytes) in
      let size : length head ≡ 12 = omega (arith, length-append (little_bytes 8 range.position) (little_bytes 4 (length range.bytes)), length-bytes_low_first 0 8 range.position, length-bytes_low_first 0 4 (length range.bytes)) in
      drop-append-add before (spelling_of_range range ++ rest) 12 ∙ ap (drop 12) (append_assoc head range.bytes rest) ∙ drop_at head (range.bytes ++ rest) 12 size

  size_back : little_number 4 (drop (length before + 8) payload) ≡ length range.bytes
  size_back = ap (little_number 4) from_size ∙ little_number-reads_back 4 (length range.bytes) (range.bytes ++ rest) (omega (arith, fits.short))

  pub range_back : range_from (before ++ (spelling_of_range range ++ rest)) (length before) ≡ range
  unfolding payload
  range_back =
      let position : little_number 8 (drop (length before) payload) ≡ range.position = ap (little_number 8) from_start
      ∙ little_number-reads_back 8 range.position (little_bytes 4 (length range.bytes) ++ (range.bytes ++ rest)) (omega (arith, fits.within)) in
      let bytes : take (little_number 4 (drop (length before + 8) payload)) (drop (length before + 12) payload) ≡ range.bytes =
      ap (λ (n : ℕ). take n (drop (length before + 12) payload)) size_back ∙ ap (take (length range.bytes)) from_bytes ∙ take_at range.bytes rest (length range.bytes) refl in
      λ i. record { position = position i; bytes = bytes i }

  pub range_within : length before + 12 + little_number 4 (drop (length before + 8) (before ++ (spelling_of_range range ++ rest))) ≤ length (before ++ (spelling_of_range range ++ rest))
  unfolding payload
  range_within =
      let size = size_back in
      let long = length-spelling_of_range range in
      omega (arith, size, long, length-append before (spelling_of_range range ++ rest), length-append (spelling_of_range range) rest)

-- the bytes of a range, and its start, whatever stands before
one_more : (before : List ℕ) (range : Range) (ranges : List Range) → before ++ flat_map spelling_of_range (range ∷ ranges) ≡ (before ++ spelling_of_range range) ++ flat_map spelling_of_range ranges
one_more before range ranges = sym (append_assoc before (spelling_of_range range) (flat_map spelling_of_range ranges))

next_start : (before : List ℕ) (range : Range) → length before + range_size range ≡ length (before ++ spelling_of_range range)
next_start before range = let long = length-spelling_of_range range in omega (arith, long, length-append before (spelling_of_range range))

-- ranges that are spelled one after another read back
pub ranges_back : (before : List ℕ) (ranges : List Range) → All Fits ranges → ranges_of (before ++ flat_map spelling_of_range ranges) (starts_from (length before) ranges) ≡ ranges
ranges_back before [] fit = refl
ranges_back before (range ∷ ranges) fit =
    let payload = before ++ (spelling_of_range range ++ flat_map spelling_of_range ranges) in
    let head : range_from payload (length before) ≡ range = range_back before (flat_map spelling_of_range ranges) range (All-head Fits range ranges fit) in
    let rest : ranges_of payload (starts_from (length before + range_size range) ranges) ≡ ranges =
    ap (λ (p : List ℕ). ranges_of p (starts_from (length before + range_size range) ranges)) (one_more before range ranges)
    ∙ ap (λ (n : ℕ). ranges_of ((before ++ spelling_of_range range) ++ flat_map spelling_of_range ranges) (starts_from n ranges)) (next_start before range)
    ∙ ranges_back (before ++ spelling_of_range range) ranges (All-tail Fits range ranges fit) in
    λ i. head i ∷ rest i

-- each start has its range in the payload
pub starts_within : (before : List ℕ) (ranges : List Range) → All Fits ranges → All (HasRange (before ++ flat_map spelling_of_range ranges)) (starts_from (length before) ranges)
starts_within before [] fit = All-nil (HasRange (before ++ []))
starts_within before (range ∷ ranges) fit =
    let payload = before ++ (spelling_of_range range ++ flat_map spelling_of_range ranges) in
    let rest : All (HasRange payload) (starts_from (length before + range_size range) ranges) =
    subst (λ (n : ℕ). All (HasRange payload) (starts_from n ranges)) (sym (next_start before range))
    (subst (λ (p : List ℕ). All (HasRange p) (starts_from (length (before ++ spelling_of_range range)) ranges)) (sym (one_more before range ranges))
    (starts_within (before ++ spelling_of_range range) ranges (All-tail Fits range ranges fit))) in
    All-cons (HasRange payload) (length before) (starts_from (length before + range_size range) ranges)
    (range_within before (flat_map spelling_of_range ranges) range (All-head Fits range ranges fit)) rest

-- what is spelled reads back
pub spelled_back : (ranges : List Range) → All Fits ranges → ranges_of (spelling_of ranges) (starts_from 4 ranges) ≡ ranges
spelled_back ranges fit =
    let size = length-bytes_low_first 0 4 (length ranges) in
    ap (λ (n : ℕ). ranges_of (spelling_of ranges) (starts_from n ranges)) (sym size) ∙ ranges_back (little_bytes 4 (length ranges)) ranges fit

pub is_spelled : (payload starts : List ℕ) (ranges : List Range) → payload ≡ spelling_of ranges → starts ≡ starts_from 4 ranges → All Fits ranges → length ranges < 2 ^ 32
    → IsSpelled payload starts × (ranges_of payload starts ≡ ranges)
is_spelled payload starts ranges payload_is starts_are fit few =
    let same : ranges_of payload starts ≡ ranges = ap (λ (p : List ℕ). ranges_of p starts) payload_is ∙ ap (ranges_of (spelling_of ranges)) starts_are ∙ spelled_back ranges fit in (
      record {
        payload_is = payload_is ∙ ap spelling_of (sym same);
        starts_are = starts_are ∙ ap (starts_from 4) (sym same);
        fit = subst (λ (r : List Range). All Fits r) (sym same) fit;
        few = subst (λ (r : List Range). length r < 2 ^ 32) (sym same) few;
      },
      same,
    )

-- a start of a payload that is spelled
pub start_within : (payload starts : List ℕ) (i d : ℕ) → IsSpelled payload starts → i < length starts → HasRange payload (get_or starts i d)
start_within payload starts i d spelled below =
    let ranges = ranges_of payload starts in
    let size = length-bytes_low_first 0 4 (length ranges) in
    let all : All (HasRange (spelling_of ranges)) (starts_from 4 ranges) = subst (λ (n : ℕ). All (HasRange (spelling_of ranges)) (starts_from n ranges)) size (starts_within (little_bytes 4 (length ranges)) ranges spelled.fit) in
    let here : All (HasRange payload) starts = subst (λ (p : List ℕ). All (HasRange p) starts) (sym spelled.payload_is) (subst (λ (s : List ℕ). All (HasRange (spelling_of ranges)) s) (sym spelled.starts_are) all) in
    All-get_or (HasRange payload) starts i d below here

-- one range more at the end
starts_push : (at : ℕ) (ranges : List Range) (range : Range) → starts_from at (ranges ++ range ∷ []) ≡ starts_from at ranges ++ (at + sum_by range_size ranges) ∷ []
starts_push at [] range = let e : at ≡ at + 0 = omega arith in ap (λ (n : ℕ). n ∷ []) e
starts_push at (first ∷ ranges) range =
    let e : at + range_size first + sum_by range_size ranges ≡ at + (range_size first + sum_by range_size ranges) = omega arith in
    ap (λ (l : List ℕ). at ∷ l) (starts_push (at + range_size first) ranges range ∙ ap (λ (n : ℕ). starts_from (at + range_size first) ranges ++ n ∷ []) (e ∙ ap (λ (n : ℕ). at + n) (sym (sum_by-cons range_size first ranges))))

spellings_push : (ranges : List Range) (range : Range) → flat_map spelling_of_range (ranges ++ range ∷ []) ≡ flat_map spelling_of_range ranges ++ spelling_of_range range
spellings_push [] range = append-nil (spelling_of_range range)
spellings_push (first ∷ ranges) range =
    ap (λ (l : List ℕ). spelling_of_range first ++ l) (spellings_push ranges range) ∙ sym (append_assoc (spelling_of_range first) (flat_map spelling_of_range ranges) (spelling_of_range range))

pub push_spelled : (payload starts new_payload new_starts : List ℕ) (range : Range) → IsSpelled payload starts → Fits range → length (ranges_of payload starts) < 2 ^ 32 - 1
    → new_payload ≡ little_bytes 4 (length starts + 1) ++ drop 4 (payload ++ spelling_of_range range) → new_starts ≡ starts ++ length payload ∷ []
    → IsSpelled new_payload new_starts × (ranges_of new_payload new_starts ≡ ranges_of payload starts ++ range ∷ [])
push_spelled payload starts new_payload new_starts range spelled fits room new_is new_are =
    let ranges = ranges_of payload starts in
    let count : length (ranges ++ range ∷ []) ≡ length starts + 1 = omega (arith, length-append ranges (range ∷ []), length-map starts (range_from payload)) in
    let size = length-bytes_low_first 0 4 (length ranges) in
    let behind : drop 4 (payload ++ spelling_of_range range) ≡ flat_map spelling_of_range (ranges ++ range ∷ []) =
    ap (λ (p : List ℕ). drop 4 (p ++ spelling_of_range range)) spelled.payload_is
    ∙ ap (drop 4) (append_assoc (little_bytes 4 (length ranges)) (flat_map spelling_of_range ranges) (spelling_of_range range))
    ∙ drop_at (little_bytes 4 (length ranges)) (flat_map spelling_of_range ranges ++ spelling_of_range range) 4 size
    ∙ sym (spellings_push ranges range) in
    let payload_is : new_payload ≡ spelling_of (ranges ++ range ∷ []) =
    new_is ∙ ap (λ (l : List ℕ). little_bytes 4 (length starts + 1) ++ l) behind ∙ ap (λ (n : ℕ). little_bytes 4 n ++ flat_map spelling_of_range (ranges ++ range ∷ [])) (sym count) in
    let last : length payload ≡ 4 + sum_by range_size ranges = ap length spelled.payload_is ∙ length-spelling_of ranges in
    let starts_are : new_starts ≡ starts_from 4 (ranges ++ range ∷ []) =
    new_are ∙ ap (λ (n : ℕ). starts ++ n ∷ []) last ∙ ap (λ (l : List ℕ). l ++ (4 + sum_by range_size ranges) ∷ []) spelled.starts_are ∙ sym (starts_push 4 ranges range) in
    is_spelled new_payload new_starts (ranges ++ range ∷ []) payload_is starts_are (All-push Fits ranges range spelled.fit fits) (omega (arith, room, length-append ranges (range ∷ [])))

-- lists that are one with a last member are one without it
same_front : (xs ys : List ℕ) (x y : ℕ) → xs ++ x ∷ [] ≡ ys ++ y ∷ [] → (xs ≡ ys) × (x ≡ y)
same_front [] [] x y e = (refl, cc)
same_front [] (b ∷ ys) x y e = let long = length-append ys (y ∷ []) in let l = ap length e in absurd (omega (arith, long, l))
same_front (a ∷ xs) [] x y e = let long = length-append xs (x ∷ []) in let l = ap length e in absurd (omega (arith, long, l))
same_front (a ∷ xs) (b ∷ ys) x y e =
    let rest = same_front xs ys x y (cc e) in
    let first : a ≡ b = cc e in
    (λ i. first i ∷ rest.0 i, rest.1)

-- a payload without its last range
module _ (payload starts front new_payload : List ℕ) (start : ℕ) (spelled : IsSpelled payload starts) (last : starts ≡ front ++ start ∷ []) where
  kept : List Range
  kept = ranges_of payload front

  range : Range
  range = range_from payload start

  ranges_are : ranges_of payload starts ≡ kept ++ range ∷ []
  unfolding kept range
  ranges_are = ap (ranges_of payload) last ∙ map-append (range_from payload) front (start ∷ [])

  places : (front ≡ starts_from 4 kept) × (start ≡ 4 + sum_by range_size kept)
  places = same_front front (starts_from 4 kept) start (4 + sum_by range_size kept) (sym last ∙ spelled.starts_are ∙ ap (starts_from 4) ranges_are ∙ starts_push 4 kept range)

  payload_of : payload ≡ little_bytes 4 (length (kept ++ range ∷ [])) ++ (flat_map spelling_of_range kept ++ spelling_of_range range)
  payload_of = spelled.payload_is ∙ ap spelling_of ranges_are ∙ ap (λ (l : List ℕ). little_bytes 4 (length (kept ++ range ∷ [])) ++ l) (spellings_push kept range)

  -- it starts behind the count, and within the payload
  pub start_bounds : (4 ≤ start) × (start ≤ length payload)
  start_bounds =
      let place = places.1 in
      let size = length-bytes_low_first 0 4 (length (kept ++ range ∷ [])) in
      let long = length-spellings kept in
      let whole = ap length payload_of in
      (omega (arith, place), omega (arith, place, size, long, whole, length-append (little_bytes 4 (length (kept ++ range ∷ []))) (flat_map spelling_of_range kept ++ spelling_of_range range), length-append (flat_map spelling_of_range kept) (spelling_of_range range)))

  front_of : drop 4 (take start payload) ≡ flat_map spelling_of_range kept
  front_of =
      let head = little_bytes 4 (length (kept ++ range ∷ [])) in
      let size = length-bytes_low_first 0 4 (length (kept ++ range ∷ [])) in
      let long = length-spellings kept in
      let place = places.1 in
      let whole : length (head ++ flat_map spelling_of_range kept) ≡ start = omega (arith, size, long, place, length-append head (flat_map spelling_of_range kept)) in
      ap (λ (p : List ℕ). drop 4 (take start p)) (payload_of ∙ sym (append_assoc head (flat_map spelling_of_range kept) (spelling_of_range range)))
      ∙ ap (drop 4) (take_at (head ++ flat_map spelling_of_range kept) (spelling_of_range range) start whole)
      ∙ drop_at head (flat_map spelling_of_range kept) 4 size

  fit_front : All Fits kept
  fit_front = subst (All Fits) (take-append_seam kept (range ∷ [])) (All-take Fits (length kept) (kept ++ range ∷ []) (subst (All Fits) ranges_are spelled.fit))

  pub pop_spelled : new_payload ≡ little_bytes 4 (length front) ++ drop 4 (take start payload) → IsSpelled new_payload front × (ranges_of payload starts ≡ ranges_of new_payload front ++ range_from payload start ∷ [])
  unfolding kept range
  pop_spelled new_is =
      let count : length front ≡ length kept = sym (length-map front (range_from payload)) in
      let payload_is : new_payload ≡ spelling_of kept = new_is ∙ ap (λ (n : ℕ). little_bytes 4 n ++ drop 4 (take start payload)) count ∙ ap (λ (l : List ℕ). little_bytes 4 (length kept) ++ l) front_of in
      let few : length kept < 2 ^ 32 = omega (arith, spelled.few, ap length ranges_are, length-append kept (range ∷ [])) in
      let back = is_spelled new_payload front kept payload_is places.0 fit_front few in
      (back.0, ranges_are ∙ ap (λ (rs : List Range). rs ++ range ∷ []) (sym back.1))

-- the range at an index, as it is read from its start
module _ (payload starts : List ℕ) (ranges : List Range) (i : ℕ) (bytes : List ℕ) (start : ℕ) (view : ranges_of payload starts ≡ ranges) (same : bytes ≡ payload)
    (at : start ≡ get_or starts i start) (below : i < length ranges) where
  below_starts : i < length starts
  below_starts = let e = ap length view in omega (arith, below, e, length-map starts (range_from payload))

  pub range_found : slice_get ranges i ≡ Some (range_from bytes start)
  range_found =
      ap (λ (r : List Range). slice_get r i) (sym view) ∙ slice_get-map (range_from payload) starts i
      ∙ ap (option_map (range_from payload)) (slice_get-get_or starts i start below_starts)
      ∙ ap (λ (n : ℕ). Some (range_from payload n)) (sym at) ∙ ap (λ (p : List ℕ). Some (range_from p start)) (sym same)

  pub range_stands : IsSpelled payload starts → HasRange bytes start
  range_stands spelled =
      subst (λ (p : List ℕ). HasRange p start) (sym same) (subst (HasRange payload) (sym at) (start_within payload starts i start spelled below_starts))
