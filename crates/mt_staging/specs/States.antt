-- What the fields of a group stand for.
use Rattle.std.specs.Prelude.{◌≡◌, ℕ, [], slice_index}
use Rattle.mt_places.specs.Held.{state_of}
use Rattle.mt_places.specs.Places.{PlacesState}
use Rattle.mt_staging.specs.declared.group.Group.{Group}
use Rattle.mt_staging.specs.Group.{GroupState}

-- the group as contracts speak of it
abbrev pub group_of : Group → GroupState
group_of group = record {
  ranges = group.body;
  places = state_of group.places;
  added = group.added;
  taken = slice_index group.taken;
  freed = slice_index group.freed;
}

-- a group of no ranges, of these places
pub record IsEmptyGroup (places : PlacesState) (group : GroupState) : Type 0 where
  pub ranges : group.ranges ≡ []
  pub places_are : group.places ≡ places
  pub added : group.added ≡ []
  pub taken : (t : ℕ) → group.taken t ≡ 0
  pub freed : (t : ℕ) → group.freed t ≡ 0
