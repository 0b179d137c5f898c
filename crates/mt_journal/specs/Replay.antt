-- What the pages of a disk are once its log is replayed.
use Rattle.std.specs.Prelude.{◌≡◌, ℕ, ◌-◌, ◌+◌, ◌&&◌, nat_le, nat_lt, if◌then◌else◌, List, [], ◌∷◌, length, slice_index, flat_map}
use Rattle.mt_machine.specs.declared.machine.Area.TheVariants.{Log, Pages}
use Rattle.mt_machine.specs.Meaning.{Disk}
use Rattle.mt_journal.specs.Layout.{Area, Range}
use Rattle.mt_journal.specs.Chain.{IsChain}

-- the pages with the bytes of one range in their place
abbrev pub with_range : Range → Area → Area
with_range range pages k =
    if nat_le range.position k && nat_lt k (range.position + length range.bytes)
    then slice_index range.bytes (k - range.position)
    else pages k

-- the pages with the ranges written in order
abbrev pub with_ranges : List Range → Area → Area
with_ranges [] pages = pages
with_ranges (range ∷ ranges) pages = with_ranges ranges (with_range range pages)

-- all ranges of the groups, in order
abbrev pub all_ranges : List (List Range) → List Range
all_ranges groups = flat_map (λ group. group) groups

-- The log of the disk has a chain, and its ranges written in order over the pages give these pages.
pub record Replays (disk : Disk) (pages : Area) : Type 0 where
  pub groups : List (List Range)
  pub tail : ℕ
  pub chain : IsChain (disk Log) groups tail
  pub replayed : pages ≡ with_ranges (all_ranges groups) (disk Pages)
