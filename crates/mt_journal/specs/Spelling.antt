-- How a group of ranges is spelled in a payload.
use Rattle.std.specs.Prelude.{◌≡◌, ℕ, ◌+◌, ◌<◌, ◌≤◌, ◌^◌, List, [], ◌∷◌, ◌++◌, length, map, take, drop, flat_map, All}
use Rattle.byteorder.specs.Endian.{little_bytes, little_number}
use Rattle.mt_journal.specs.Layout.{Range, range_size}

-- a range that a group may have: it ends within the pages, and its length takes four bytes
pub record Fits (range : Range) : Type 0 where
  pub within : range.position + length range.bytes ≤ 2 ^ 40
  pub short : length range.bytes < 2 ^ 32

-- the bytes of a range: its position, its length, and what it holds
abbrev pub spelling_of_range : Range → List ℕ
spelling_of_range range = (little_bytes 8 range.position ++ little_bytes 4 (length range.bytes)) ++ range.bytes

-- the payload of a group: how many ranges there are, and the ranges
abbrev pub spelling_of : List Range → List ℕ
spelling_of ranges = little_bytes 4 (length ranges) ++ flat_map spelling_of_range ranges

-- where each range starts, if the first starts at this place
abbrev pub starts_from : ℕ → List Range → List ℕ
starts_from at [] = []
starts_from at (range ∷ ranges) = at ∷ starts_from (at + range_size range) ranges

-- the range that starts at this place of a payload
abbrev pub range_from : List ℕ → ℕ → Range
range_from payload start = record { position = little_number 8 (drop start payload); bytes = take (little_number 4 (drop (start + 8) payload)) (drop (start + 12) payload) }

-- a payload has a whole range at this place
abbrev pub HasRange : List ℕ → ℕ → Type 0
HasRange payload start = start + 12 + little_number 4 (drop (start + 8) payload) ≤ length payload

-- the ranges of a payload, each at its start
abbrev pub ranges_of : List ℕ → List ℕ → List Range
ranges_of payload starts = map (range_from payload) starts

-- the payload spells its ranges, each starts where it is said to, and four bytes hold how many there are
pub record IsSpelled (payload starts : List ℕ) : Type 0 where
  pub payload_is : payload ≡ spelling_of (ranges_of payload starts)
  pub starts_are : starts ≡ starts_from 4 (ranges_of payload starts)
  pub fit : All Fits (ranges_of payload starts)
  pub few : length (ranges_of payload starts) < 2 ^ 32
