-- What is kept of places, and the state that it stands for.
use Rattle.std.specs.Prelude.{ℕ, ◌+◌, Bool, true, false, if◌then◌else◌, nat_eq, List, [], ◌∷◌, ◌++◌, map, take, drop, fold, get_or, Option, None, Some, refl}
use Rattle.std.specs.declared.cmp.Ordering.{Ordering}
use Rattle.std.specs.Ordering.{nat_cmp}
use Rattle.std.specs.Cmp.Lexicographic.{slice_cmp}
use Rattle.std.specs.Coded.{Coded, code_by, coded×, coded_ℕ, coded_bool, coded_list, coded_option}
use Rattle.std.specs.FinMap as finite
use Rattle.mt_physplan.specs.Applied.{body_cmp}
use Rattle.mt_physplan.specs.Keys.{coded_key, key_cmp}
use Rattle.mt_places.specs.Places.{PlacesState}

-- where each key that is asked for stands, if anywhere
abbrev pub Asked : {K : Type 0} → (K → K → Ordering) → Type 0
Asked R = finite.FinMap R (Option ℕ)

-- with these keys asked for too, of which nothing was found
abbrev pub asking : {K : Type 0} {R : K → K → Ordering} → List K → finite.FinMap R (Option ℕ) → finite.FinMap R (Option ℕ)
asking keys asked = fold (λ asked key. finite.insert asked key None) asked keys

-- with one more key, if there is one
abbrev pub asking_one : {K : Type 0} {R : K → K → Ordering} → Option K → finite.FinMap R (Option ℕ) → finite.FinMap R (Option ℕ)
asking_one None asked = asked
asking_one (Some key) asked = finite.insert asked key None

-- with the place of a key, where that key is asked for
abbrev pub placing : {K : Type 0} {R : K → K → Ordering} → K → Option ℕ → finite.FinMap R (Option ℕ) → finite.FinMap R (Option ℕ)
placing key position asked = if finite.contains_key asked key then finite.insert asked key position else asked

-- the bodies of one table that are asked for
abbrev pub Bodies : Type 0
Bodies = finite.FinMap (slice_cmp nat_cmp) (Option ℕ)

-- their entries, each with the number of the table in front of its body
abbrev pub table_entries : ℕ → List (List ℕ × Option ℕ) → List ((ℕ × List ℕ) × Option ℕ)
table_entries table entries = map (λ e. ((table, e.0), e.1)) entries

-- the entries of tables with numbers from this one on
abbrev pub all_entries : ℕ → List Bodies → List ((ℕ × List ℕ) × Option ℕ)
all_entries table [] = []
all_entries table (bodies ∷ tables) = table_entries table (finite.entries bodies) ++ all_entries (table + 1) tables

-- the bodies of all tables that are asked for
abbrev pub all_bodies : List Bodies → finite.FinMap body_cmp (Option ℕ)
all_bodies tables = finite.from_entries (all_entries 0 tables)

-- What is known of a table: whether a change names it, how many free slots are looked for, and where
-- some are.
pub record TableState : Type 0 where
  pub named : Bool
  pub wanted : ℕ
  pub free : List ℕ

-- a table that no change names
abbrev pub unnamed : TableState
unnamed = record { named = false; wanted = 0; free = [] }

-- as triples
abbrev pub table_code : Coded TableState
table_code = code_by (Bool × (ℕ × List ℕ)) (coded× coded_bool (coded× coded_ℕ (coded_list coded_ℕ)))
    (λ t. (t.named, (t.wanted, t.free))) (λ p. record { named = p.0; wanted = p.1.0; free = p.1.1 }) (λ _. refl)

-- the state of a table, by its number
abbrev pub table_in : List TableState → ℕ → TableState
table_in tables table = get_or tables table unnamed

-- all tables, of which one is changed
abbrev pub with_table : ℕ → (TableState → TableState) → (ℕ → TableState) → ℕ → TableState
with_table table change tables t = if nat_eq t table then change (tables t) else tables t

-- a table that a change names, which puts a slot into it or does not
abbrev pub noted : Bool → TableState → TableState
noted puts state = record { named = true; wanted = (if puts then state.wanted + 1 else state.wanted); free = state.free }

-- a table with free positions behind the others, of which no more are kept than are looked for
abbrev pub offered : List ℕ → TableState → TableState
offered positions state = record { named = state.named; wanted = state.wanted; free = take state.wanted (state.free ++ positions) }

-- a table that keeps no more free positions than are looked for
abbrev pub trimmed : TableState → TableState
trimmed state = record { named = state.named; wanted = state.wanted; free = take state.wanted state.free }

-- a table with free positions behind the others
abbrev pub extended : List ℕ → TableState → TableState
extended positions state = record { named = state.named; wanted = state.wanted; free = state.free ++ positions }

-- a table without its first free position
abbrev pub shortened : TableState → TableState
shortened state = record { named = state.named; wanted = state.wanted; free = drop 1 state.free }

-- what is kept of places
pub record Held : Type 0 where
  pub rows : finite.FinMap key_cmp (Option ℕ)
  pub bodies : finite.FinMap body_cmp (Option ℕ)
  pub tables : List TableState

-- as triples
abbrev pub held_code : Coded Held
held_code = code_by (finite.FinMap key_cmp (Option ℕ) × (finite.FinMap body_cmp (Option ℕ) × List TableState))
    (coded× (finite.code coded_key (coded_option coded_ℕ)) (coded× (finite.code (coded× coded_ℕ (coded_list coded_ℕ)) (coded_option coded_ℕ)) (coded_list table_code)))
    (λ h. (h.rows, (h.bodies, h.tables))) (λ p. record { rows = p.0; bodies = p.1.0; tables = p.1.1 }) (λ _. refl)

-- the state that it stands for; a table that is not kept is not named
abbrev pub state_of : Held → PlacesState
state_of held = record {
  named = λ table. (table_in held.tables table).named;
  rows = held.rows;
  bodies = held.bodies;
  free = λ table. (table_in held.tables table).free;
  wanted = λ table. (table_in held.tables table).wanted;
}
