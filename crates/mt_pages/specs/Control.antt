-- Page 0, which counts the pages, and the ranges that make a page.
use Rattle.std.specs.Prelude.{◌≡◌, ◌⊎◌, ℕ, ◌+◌, ◌*◌, ◌^◌, ◌<◌, ◌≤◌, List, [], ◌∷◌, ◌++◌, replicate, codes}
use Rattle.byteorder.specs.Endian.{little_bytes}
use Rattle.mt_journal.specs.Layout.{Area, Range, StandAt, number_at}

-- the first bytes of the pages of a disk that was written to
unfoldable pub magic : List ℕ
magic = codes "CHNKFLD1"

-- nothing was written to page 0
abbrev pub IsBlankControl : Area → Type 0
IsBlankControl pages = StandAt pages 0 (replicate 20 0)

-- Page 0 counts the pages, itself among them. Its other bytes are not read.
pub record IsControl (pages : Area) : Type 0 where
  pub magic_stands : StandAt pages 0 magic
  pub version : number_at 4 pages 8 ≡ 1
  pub some : 1 ≤ number_at 8 pages 12
  pub few : number_at 8 pages 12 ≤ 2 ^ 28

-- page 0 of a disk that is not damaged there
abbrev pub IsPageZero : Area → Type 0
IsPageZero pages = IsBlankControl pages ⊎ IsControl pages

-- what is written to page 0 where so many pages count
abbrev pub control_bytes : ℕ → List ℕ
control_bytes count = magic ++ (little_bytes 4 1 ++ little_bytes 8 count)

-- a page of a table, all of its slots free
abbrev pub page_bytes : ℕ → List ℕ
page_bytes table = little_bytes 4 table ++ replicate 4092 0

-- the ranges that make a page of a table: the page, and page 0 that counts it
abbrev pub page_ranges : ℕ → ℕ → List Range
page_ranges table page = record { position = 4096 * page; bytes = page_bytes table } ∷ record { position = 0; bytes = control_bytes (page + 1) } ∷ []
