-- A key that is asked for stays so, whatever is looked at.
use Rattle.std.proofs.Common.{◌≡◌, Bool, true, false, cond, ℕ, List, [], ◌∷◌, map, Option, Some, None, refl, ap, ◌∙◌}
use Rattle.std.specs.Option.{is_some}
use Rattle.std.specs.declared.cmp.Ordering.{Ordering}
use Rattle.std.specs.Ordering.{eq_by_cmp, is_eq}
use Rattle.std.specs.Cmp.{IsTotalOrder, tied_itself}
use Rattle.std.specs.List.{filter_map}
use Rattle.std.specs.FinMap as finite
use Rattle.mt_rowfile.specs.declared.slot.SlotRow.{SlotRow}
use Rattle.mt_physplan.specs.declared.change.Change.{Change}
use Rattle.mt_physplan.specs.declared.change.Change.TheVariants.{Put, PutCat}
use Rattle.mt_physplan.specs.declared.key.Key.{Key}
use Rattle.mt_physplan.specs.Keys.{key_in}
use Rattle.mt_physplan.proofs.Keys.{keys_total}
use Rattle.mt_tables.specs.Plan.{PlacedSlot, placed_in, sought, with_place}
use Rattle.mt_tables.specs.Rows.{KnownLayouts, body_in, row_in, sizes_of}
use Rattle.mt_tables.specs.Tables.{TableSlot}
use Rattle.mt_places.specs.Named.{body_key, row_key}
use Rattle.mt_places.specs.Places.{IsBegun, IsLooked, PlacesState}
use Rattle.mt_places.proofs.Bodies.{bodies_total}

module _ {K : Type 0} {R : K → K → Ordering} (o : IsTotalOrder R) where
  insert-asked : (m : finite.FinMap R (Option ℕ)) (k q : K) (position : Option ℕ) → finite.contains_key m q ≡ true → finite.contains_key (finite.insert m k position) q ≡ true
  insert-asked m k q position asked = ap is_some (finite.get-insert o m k position q) ∙ either (eq_by_cmp R q k)
    where
      either : (b : Bool) → is_some (cond b (Some position) (finite.get m q)) ≡ true
      either true = refl
      either false = asked

  place-asked : {V : Type 0} (says : Option (K × V)) (position : ℕ) (m : finite.FinMap R (Option ℕ)) (q : K) → finite.contains_key m q ≡ true → finite.contains_key (with_place says position m) q ≡ true
  place-asked None position m q asked = asked
  place-asked (Some e) position m q asked = either (finite.contains_key m e.0)
    where
      either : (b : Bool) → finite.contains_key (cond b (finite.insert m e.0 (Some position)) m) q ≡ true
      either true = insert-asked m e.0 q (Some position) asked
      either false = asked

  pub sought-asked : {V : Type 0} (read : TableSlot → Option (K × V)) (slots : List PlacedSlot) (m : finite.FinMap R (Option ℕ)) (q : K) → finite.contains_key m q ≡ true → finite.contains_key (sought read slots m) q ≡ true
  sought-asked read [] m q asked = asked
  sought-asked read (slot ∷ slots) m q asked = sought-asked read slots (with_place (read slot.1) slot.0.position m) q (place-asked (read slot.1) slot.0.position m q asked)

-- rows that are asked for stay so when a page is looked at
pub looked-rows : (known : KnownLayouts) (table page : ℕ) (bytes : List ℕ) (old new : PlacesState) → IsLooked known table page bytes old new → (key : Key) → finite.contains_key old.rows key ≡ true → finite.contains_key new.rows key ≡ true
looked-rows known table page bytes old new looked key asked =
    ap (λ m. finite.contains_key m key) looked.rows ∙ sought-asked keys_total (row_in known) (placed_in (sizes_of known) table page bytes) old.rows key asked

-- and so do slots of the catalogue
pub looked-bodies : (known : KnownLayouts) (table page : ℕ) (bytes : List ℕ) (old new : PlacesState) → IsLooked known table page bytes old new → (key : ℕ × List ℕ) → finite.contains_key old.bodies key ≡ true → finite.contains_key new.bodies key ≡ true
looked-bodies known table page bytes old new looked key asked =
    ap (λ m. finite.contains_key m key) looked.bodies ∙ sought-asked bodies_total body_in (placed_in (sizes_of known) table page bytes) old.bodies key asked

-- a key that was just entered is asked for
pub inserted-asked : {K : Type 0} {R : K → K → Ordering} (o : IsTotalOrder R) (m : finite.FinMap R (Option ℕ)) (key : K) (position : Option ℕ) → finite.contains_key (finite.insert m key position) key ≡ true
inserted-asked o m key position = ap is_some (finite.get-insert o m key position key) ∙ ap (λ r. is_some (cond (is_eq r) (Some position) (finite.get m key))) (tied_itself o key)

-- the row of a first change that puts one is asked for
pub begun-row : (table : ℕ) (slot : SlotRow) (rest changes : List Change) (state : PlacesState) → changes ≡ Put table slot ∷ rest → IsBegun changes state → finite.contains_key state.rows (key_in table slot) ≡ true
begun-row table slot rest changes state is begun =
    ap (λ m. finite.contains_key m (key_in table slot)) (begun.rows ∙ ap (λ (cs : List Change). finite.from_entries (map (λ key. (key, None)) (filter_map row_key cs))) is)
    ∙ inserted-asked keys_total (finite.from_entries (map (λ key. (key, None)) (filter_map row_key rest))) (key_in table slot) None

-- and so is the slot of the catalogue behind it
pub begun-body : (table : ℕ) (slot : SlotRow) (other : ℕ) (body : List ℕ) (rest changes : List Change) (state : PlacesState) → changes ≡ Put table slot ∷ PutCat other body ∷ rest → IsBegun changes state
    → finite.contains_key state.bodies (other, body) ≡ true
begun-body table slot other body rest changes state is begun =
    ap (λ m. finite.contains_key m (other, body)) (begun.bodies ∙ ap (λ (cs : List Change). finite.from_entries (map (λ key. (key, None)) (filter_map body_key cs))) is)
    ∙ inserted-asked bodies_total (finite.from_entries (map (λ key. (key, None)) (filter_map body_key rest))) (other, body) None
