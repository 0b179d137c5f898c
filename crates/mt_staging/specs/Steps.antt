-- What the steps of a change do to a group.
use Rattle.std.specs.Prelude.{◌≡◌, ◌⊎◌, ℕ, ◌+◌, ◌^◌, ◌<◌, ◌≤◌, nat_eq, if◌then◌else◌, List, [], ◌∷◌, ◌++◌, length, Option, None, Some}
use Rattle.std.specs.FinMap as finite
use Rattle.mt_rowfile.specs.declared.layout.Layout.{Layout}
use Rattle.mt_physplan.specs.declared.key.Key.{Key}
use Rattle.mt_pages.specs.Control.{page_ranges}
use Rattle.mt_places.specs.Places.{PlacesState, with_free_page}
use Rattle.mt_tables.specs.Plan.{without_first}
use Rattle.mt_staging.specs.Group.{GroupState}

-- counts by table, with one more of a table
abbrev pub one_more_of : ℕ → (ℕ → ℕ) → ℕ → ℕ
one_more_of table counts t = if nat_eq t table then counts t + 1 else counts t

-- one range more
abbrev pub with_write : ℕ → List ℕ → GroupState → GroupState
with_write position bytes group = record {
  ranges = group.ranges ++ record { position = position; bytes = bytes } ∷ [];
  places = group.places;
  added = group.added;
  taken = group.taken;
  freed = group.freed;
}

-- other places
abbrev pub with_places : PlacesState → GroupState → GroupState
with_places places group = record { ranges = group.ranges; places = places; added = group.added; taken = group.taken; freed = group.freed }

-- where a row stands from now on, if anywhere
abbrev pub with_row : Key → Option ℕ → GroupState → GroupState
with_row key place group = with_places (record {
  named = group.places.named;
  rows = finite.insert group.places.rows key place;
  bodies = group.places.bodies;
  free = group.places.free;
  wanted = group.places.wanted;
}) group

-- where a slot of the catalogue stands from now on, if anywhere
abbrev pub with_body : ℕ × List ℕ → Option ℕ → GroupState → GroupState
with_body body place group = with_places (record {
  named = group.places.named;
  rows = group.places.rows;
  bodies = finite.insert group.places.bodies body place;
  free = group.places.free;
  wanted = group.places.wanted;
}) group

-- other free positions
abbrev pub with_free : (ℕ → List ℕ) → GroupState → GroupState
with_free free group = with_places (record {
  named = group.places.named;
  rows = group.places.rows;
  bodies = group.places.bodies;
  free = free;
  wanted = group.places.wanted;
}) group

-- a slot more of a table was taken
abbrev pub one_taken : ℕ → GroupState → GroupState
one_taken table group = record { ranges = group.ranges; places = group.places; added = group.added; taken = one_more_of table group.taken; freed = group.freed }

-- a slot more of a table was freed
abbrev pub one_freed : ℕ → GroupState → GroupState
one_freed table group = record { ranges = group.ranges; places = group.places; added = group.added; taken = group.taken; freed = one_more_of table group.freed }

-- a page of a table more, behind so many pages that count and those that the group makes
abbrev pub page_made : Layout → ℕ → ℕ → GroupState → GroupState
page_made layout table count group = record {
  ranges = group.ranges ++ page_ranges table (count + length group.added);
  places = record {
    named = group.places.named;
    rows = group.places.rows;
    bodies = group.places.bodies;
    free = with_free_page layout table (count + length group.added) group.places.free;
    wanted = group.places.wanted;
  };
  added = group.added ++ table ∷ [];
  taken = group.taken;
  freed = group.freed;
}

-- the first free position of a table was taken
pub record TakesFirst (table position : ℕ) (old new : GroupState) : Type 0 where
  pub behind : List ℕ
  pub first : old.places.free table ≡ position ∷ behind
  pub rest : new ≡ with_free (without_first table old.places.free) old

-- a page of a table was made, since none of its slots was free
pub record MakesPage (layout : Layout) (table count : ℕ) (old new : GroupState) : Type 0 where
  pub none_left : old.places.free table ≡ []
  pub some : 1 ≤ count
  pub few : count + length old.added < 2 ^ 28
  pub page : new ≡ page_made layout table count old

-- A position was found for a slot: the first free one or, where there is none, that of a new page.
abbrev pub FindsFree : Layout → ℕ → ℕ → ℕ → GroupState → GroupState → Type 0
FindsFree layout table count position old new =
    TakesFirst table position old new ⊎ ((between : GroupState) × MakesPage layout table count old between × TakesFirst table position between new)

-- a slot is written over the one that stands
pub record WritesOver (place : Option (Option ℕ)) (bytes : List ℕ) (old new : GroupState) : Type 0 where
  pub position : ℕ
  pub stands : place ≡ Some (Some position)
  pub written : new ≡ with_write position bytes old

-- a slot that stands nowhere is written where one is free
pub record WritesFree (layout : Layout) (table count : ℕ) (place : Option (Option ℕ)) (bytes : List ℕ) (placed : Option ℕ → GroupState → GroupState) (old new : GroupState) : Type 0 where
  pub position : ℕ
  pub between : GroupState
  pub nowhere : place ≡ Some None
  pub found : FindsFree layout table count position old between
  pub written : new ≡ one_taken table (with_write position bytes (placed (Some position) between))

-- a slot is put
abbrev pub PutsSlot : Layout → ℕ → ℕ → Option (Option ℕ) → List ℕ → (Option ℕ → GroupState → GroupState) → GroupState → GroupState → Type 0
PutsSlot layout table count place bytes placed old new = WritesOver place bytes old new ⊎ WritesFree layout table count place bytes placed old new

-- the mark of a slot that stands is taken away
pub record TakesAway (table : ℕ) (place : Option (Option ℕ)) (placed : Option ℕ → GroupState → GroupState) (old new : GroupState) : Type 0 where
  pub position : ℕ
  pub stands : place ≡ Some (Some position)
  pub written : new ≡ one_freed table (placed None (with_write position (0 ∷ []) old))

-- the slot would end behind the pages that there may be
abbrev pub IsFar : ℕ → List ℕ → Type 0
IsFar position bytes = 2 ^ 40 < position + length bytes

-- a slot stands too far behind
pub record IsFarOver (place : Option (Option ℕ)) (bytes : List ℕ) : Type 0 where
  pub position : ℕ
  pub stands : place ≡ Some (Some position)
  pub far : IsFar position bytes

-- or the one that is free does
pub record IsFarFree (layout : Layout) (table count : ℕ) (place : Option (Option ℕ)) (bytes : List ℕ) (old : GroupState) : Type 0 where
  pub position : ℕ
  pub between : GroupState
  pub nowhere : place ≡ Some None
  pub found : FindsFree layout table count position old between
  pub far : IsFar position bytes

-- a page would be wanted, and there are as many as there may be
pub record IsFull (table count : ℕ) (place : Option (Option ℕ)) (old : GroupState) : Type 0 where
  pub nowhere : place ≡ Some None
  pub none_left : old.places.free table ≡ []
  pub many : 2 ^ 28 ≤ count + length old.added

-- why a slot is not put
abbrev pub PutFaults : Layout → ℕ → ℕ → Option (Option ℕ) → List ℕ → GroupState → Type 0
PutFaults layout table count place bytes old = IsFarOver place bytes ⊎ (IsFarFree layout table count place bytes old ⊎ IsFull table count place old)

-- why a slot is not marked or taken away
abbrev pub WriteFaults : Option (Option ℕ) → List ℕ → Type 0
WriteFaults place bytes = IsFarOver place bytes ⊎ (place ≡ Some None)
