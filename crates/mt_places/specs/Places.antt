-- Where the slots stand that changes name, and where free slots do.
use Rattle.std.specs.Prelude.{◌≡◌, ℕ, ◌&&◌, ◌++◌, nat_eq, Bool, if◌then◌else◌, List, [], map, take, filter_map, count_by, Option, None}
use Rattle.std.specs.List.{list_any, range_with_len}
use Rattle.std.specs.FinMap as finite
use Rattle.mt_rowfile.specs.declared.layout.Layout.{Layout}
use Rattle.mt_rowfile.specs.Layouts.{slot_width, slots_per_page}
use Rattle.mt_physplan.specs.declared.change.Change.{Change}
use Rattle.mt_physplan.specs.Applied.{body_cmp}
use Rattle.mt_physplan.specs.Keys.{key_cmp}
use Rattle.mt_tables.specs.Pages.{slot_position}
use Rattle.mt_tables.specs.Plan.{free_in, placed_in, sought}
use Rattle.mt_tables.specs.Rows.{KnownLayouts, body_in, row_in, sizes_of}
use Rattle.mt_places.specs.Named.{body_key, is_of, is_put, row_key}

-- What is known: the tables that changes name; where each row that they name stands, and each slot of
-- the catalogue, if anywhere; free positions of each table, and how many of them are looked for.
pub record PlacesState : Type 0 where
  pub named : ℕ → Bool
  pub rows : finite.FinMap key_cmp (Option ℕ)
  pub bodies : finite.FinMap body_cmp (Option ℕ)
  pub free : ℕ → List ℕ
  pub wanted : ℕ → ℕ

-- What these changes name is asked for, and nothing was found. A table needs no more free slots than
-- there are slots to put into it.
pub record IsBegun (changes : List Change) (places : PlacesState) : Type 0 where
  pub named : (table : ℕ) → places.named table ≡ list_any (is_of table) changes
  pub rows : places.rows ≡ finite.from_entries (map (λ key. (key, None)) (filter_map row_key changes))
  pub bodies : places.bodies ≡ finite.from_entries (map (λ key. (key, None)) (filter_map body_key changes))
  pub free : (table : ℕ) → places.free table ≡ []
  pub wanted : (table : ℕ) → places.wanted table ≡ count_by (λ change. is_put change && is_of table change) changes

-- The slots of a page of a table were looked at, by the layouts that are known.
pub record IsLooked (known : KnownLayouts) (table page : ℕ) (bytes : List ℕ) (old new : PlacesState) : Type 0 where
  pub rows : new.rows ≡ sought (row_in known) (placed_in (sizes_of known) table page bytes) old.rows
  pub bodies : new.bodies ≡ sought body_in (placed_in (sizes_of known) table page bytes) old.bodies
  pub free : (t : ℕ) → new.free t ≡ take (old.wanted t) (old.free t ++ free_in t (placed_in (sizes_of known) table page bytes))
  pub wanted : new.wanted ≡ old.wanted
  pub named : new.named ≡ old.named

-- the free positions by table, with those of a page of free slots behind
abbrev pub with_free_page : Layout → ℕ → ℕ → (ℕ → List ℕ) → ℕ → List ℕ
with_free_page layout table page free t = if nat_eq t table then free t ++ map (slot_position (slot_width layout) page) (range_with_len 0 (slots_per_page layout)) else free t
