-- A fold that fits is found by the slots of its columns.
use Rattle.std.proofs.Common.{◌≡◌, ℕ, zero, suc, ◌-◌, ◌≤◌, Bool, true, false, cond, List, [], ◌∷◌, length, map, Option, None, Some, refl, sym, ap, ◌∙◌, arith, eqb-true, eq-eqb}
use Rattle.std.specs.Prelude.{slice_get, option_map, nat_eq, ◌==◌}
use Rattle.std.proofs.lemmas.List.{length-map}
use Rattle.std.proofs.lemmas.Option.{slice_get-map, slice_get_within}
use Rattle.mt_tree.specs.declared.schema.Column.{Column}
use Rattle.mt_fold.specs.declared.fold.Fold.{Fold}
use Rattle.mt_fold.specs.declared.fold.Place.{Place}
use Rattle.mt_fold.specs.declared.fold.Place.TheVariants.{Conv, Field}
use Rattle.mt_fold.specs.declared.fold.Placement.{Placement}
use Rattle.mt_fold.specs.declared.fold.Placement.TheVariants.{Settled, Moving}
use Rattle.mt_fold.specs.declared.shape.Shape.{Shape}
use Rattle.mt_fold.specs.Folds.{IsValidFold}
use Rattle.mt_fold.specs.Placements.{IsValidPlacement}
use Rattle.mt_catslot.specs.declared.slot.CatSlot.TheVariants as slots
use Rattle.mt_catslot.specs.declared.slot.CatKey.TheVariants as keys
use Rattle.mt_catalog.specs.Slots.{column_in_fold, fold_of, placed_slot}
use Rattle.mt_catalog.specs.Found.{AreFoundFolds, Found, IsFoundFold, field_found, place_found, shape_found}
use Rattle.mt_catalog.proofs.Runs.{own_run, present, same_members}

-- the field in which a column lies at a place
abbrev pub field_at : List Shape → Place → Option (Shape × ℕ × ℕ)
field_at shapes Conv = None
field_at shapes (Field chunk field) = option_map (λ shape. (shape, chunk, field)) (slice_get shapes chunk)

-- a chunk in which a column lies has a shape
pub chunk_there : (fold : Fold) (columns : List Column) (base_len : ℕ) → IsValidFold fold columns base_len → (column chunk field : ℕ) → slice_get fold.places column ≡ Some (Field chunk field)
    → (shape : Shape) × (slice_get fold.shapes chunk ≡ Some shape)
chunk_there fold columns base_len valid column chunk field e =
    let within = slice_get_within fold.places column (Field chunk field) e in
    let there = present columns column (omega (arith, within, valid.each_column)) in
    let is = valid.fields column there.0 chunk field there.1 e in
    (is.shape, is.chunk_is)

-- what a slot of a placed column says
slot_field : (tenant base generation column chunk field : ℕ) (o : Option Shape)
    → field_found (option_map (λ shape. slots.Field tenant base generation column shape chunk field) o) ≡ option_map (λ shape. (shape, chunk, field)) o
slot_field tenant base generation column chunk field None = refl
slot_field tenant base generation column chunk field (Some shape) = refl

pub placed_field : (tenant base generation column : ℕ) (fold : Fold) (place : Place) → field_found (placed_slot tenant base generation column fold (Some place)) ≡ field_at fold.shapes place
placed_field tenant base generation column fold Conv = refl
placed_field tenant base generation column fold (Field chunk field) = slot_field tenant base generation column chunk field (slice_get fold.shapes chunk)

-- a member of a list of images is the image of a member
pub from_mapped : {A B : Type 0} (f : A → B) (xs : List A) (n : ℕ) (y : B) → slice_get (map f xs) n ≡ Some y → (x : A) × (slice_get xs n ≡ Some x) × (f x ≡ y)
from_mapped f [] n y e = absurd (cc)
from_mapped f (x ∷ xs) zero y e = let same : f x ≡ y = cc in (x, refl, same)
from_mapped f (x ∷ xs) (suc n) y e = from_mapped f xs n y e

-- the shape that is found of a chunk is its own
own_shape : (shapes : List Shape) (places : List Place) (chunk : ℕ) (shape : Shape) → shape_found (map (field_at shapes) places) chunk ≡ Some shape → slice_get shapes chunk ≡ Some shape
own_shape shapes [] chunk shape e = absurd (cc)
own_shape shapes (Conv ∷ places) chunk shape e = own_shape shapes places chunk shape e
own_shape shapes (Field k field ∷ places) chunk shape e = by (slice_get shapes k) refl e (own_shape shapes places chunk shape)
  where
    at : (s : Shape) (b : Bool) → slice_get shapes k ≡ Some s → (k == chunk) ≡ b → cond b (Some s) (shape_found (map (field_at shapes) places) chunk) ≡ Some shape
        → (shape_found (map (field_at shapes) places) chunk ≡ Some shape → slice_get shapes chunk ≡ Some shape) → slice_get shapes chunk ≡ Some shape
    at s true is here f on = ap (slice_get shapes) (sym (eqb-true k chunk here)) ∙ is ∙ f
    at s false is here f on = on f

    by : (o : Option Shape) → slice_get shapes k ≡ o → shape_found (option_map (λ s. (s, k, field)) o ∷ map (field_at shapes) places) chunk ≡ Some shape
        → (shape_found (map (field_at shapes) places) chunk ≡ Some shape → slice_get shapes chunk ≡ Some shape) → slice_get shapes chunk ≡ Some shape
    by None is f on = on f
    by (Some s) is f on = at s (k == chunk) is refl f on

-- a shape is found of a chunk that has a column
some_shape : (shapes : List Shape) (places : List Place) (column chunk field : ℕ) (shape : Shape) → slice_get places column ≡ Some (Field chunk field) → slice_get shapes chunk ≡ Some shape
    → shape_found (map (field_at shapes) places) chunk ≡ None → ⊥
some_shape shapes [] column chunk field shape e is none = cc
some_shape shapes (place ∷ places) zero chunk field shape e is none =
    let here : place ≡ Field chunk field = cc in
    let found : field_at shapes place ≡ Some (shape, chunk, field) = ap (field_at shapes) here ∙ ap (option_map (λ s. (s, chunk, field))) is in
    let no : shape_found (Some (shape, chunk, field) ∷ map (field_at shapes) places) chunk ≡ None = ap (λ o. shape_found (o ∷ map (field_at shapes) places) chunk) (sym found) ∙ none in
    let yes : shape_found (Some (shape, chunk, field) ∷ map (field_at shapes) places) chunk ≡ Some shape = ap (λ b. cond b (Some shape) (shape_found (map (field_at shapes) places) chunk)) (eq-eqb chunk chunk refl) in
    let never : Some shape ≡ None = sym yes ∙ no in cc
some_shape shapes (place ∷ places) (suc column) chunk field shape e is none = some_shape shapes places column chunk field shape e is (by (field_at shapes place) none)
  where
    at : (s : Shape) (b : Bool) → cond b (Some s) (shape_found (map (field_at shapes) places) chunk) ≡ None → shape_found (map (field_at shapes) places) chunk ≡ None
    at s true f = absurd (cc)
    at s false f = f

    by : (o : Option (Shape × ℕ × ℕ)) → shape_found (o ∷ map (field_at shapes) places) chunk ≡ None → shape_found (map (field_at shapes) places) chunk ≡ None
    by None f = f
    by (Some found) f = at found.0 (found.1 == chunk) f

-- the shapes of a fold that fits are those that are found
shapes_found : (fold : Fold) (columns : List Column) (base_len : ℕ) → IsValidFold fold columns base_len → (chunk : ℕ) → shape_found (map (field_at fold.shapes) fold.places) chunk ≡ slice_get fold.shapes chunk
shapes_found fold columns base_len valid chunk = by (shape_found (map (field_at fold.shapes) fold.places) chunk) refl (slice_get fold.shapes chunk) refl
  where
    by : (o : Option Shape) → shape_found (map (field_at fold.shapes) fold.places) chunk ≡ o → (u : Option Shape) → slice_get fold.shapes chunk ≡ u
        → shape_found (map (field_at fold.shapes) fold.places) chunk ≡ slice_get fold.shapes chunk
    by (Some shape) e u f = e ∙ sym (own_shape fold.shapes fold.places chunk shape e)
    by None e None f = e ∙ sym f
    by None e (Some shape) f =
        let used = valid.each_chunk chunk (slice_get_within fold.shapes chunk shape f) in
        absurd (some_shape fold.shapes fold.places used.1.0 chunk used.0 shape used.1.1 f e)

-- and so are its places
place_kept : (shapes : List Shape) (place : Place) → ((chunk field : ℕ) → place ≡ Field chunk field → (shape : Shape) × (slice_get shapes chunk ≡ Some shape)) → place_found (field_at shapes place) ≡ place
place_kept shapes Conv there = refl
place_kept shapes (Field chunk field) there = let is = there chunk field refl in ap (λ o. place_found (option_map (λ shape. (shape, chunk, field)) o)) is.1

places_found : (fold : Fold) (columns : List Column) (base_len : ℕ) → IsValidFold fold columns base_len → fold.places ≡ map place_found (map (field_at fold.shapes) fold.places)
places_found fold columns base_len valid =
    same_members fold.places (map place_found (map (field_at fold.shapes) fold.places))
    (sym (length-map (map (field_at fold.shapes) fold.places) place_found ∙ length-map fold.places (field_at fold.shapes)))
    (λ column place y e f.
    let kept = place_kept fold.shapes place (λ chunk field is. chunk_there fold columns base_len valid column chunk field (e ∙ ap Some is)) in
    let other : Some (place_found (field_at fold.shapes place)) ≡ Some y = sym (slice_get-map place_found (map (field_at fold.shapes) fold.places) column
    ∙ ap (option_map place_found) (slice_get-map (field_at fold.shapes) fold.places column ∙ ap (option_map (field_at fold.shapes)) e)) ∙ f in
    let same : place_found (field_at fold.shapes place) ≡ y = cc in
    sym kept ∙ same)

-- a fold that fits is found where its columns have these slots
pub fold_is_found : (found : Found) (tenant base generation : ℕ) (fold : Fold) (columns : List Column) (base_len : ℕ) → IsValidFold fold columns base_len
    → ((column : ℕ) → found (keys.Field tenant base generation column) ≡ column_in_fold tenant base generation column (Some fold)) → IsFoundFold found tenant base generation (length columns) fold
fold_is_found found tenant base generation fold columns base_len valid same = record {
  fields = map (field_at fold.shapes) fold.places;
  fields_are = record {
    size = length-map fold.places (field_at fold.shapes) ∙ valid.each_column;
    each = λ column field e.
        let of = from_mapped (field_at fold.shapes) fold.places column field e in
        ap field_found (same column) ∙ ap (λ o. field_found (placed_slot tenant base generation column fold o)) of.1 ∙ placed_field tenant base generation column fold of.0 ∙ of.2;
  };
  places_are = places_found fold columns base_len valid;
  shapes_are = own_run (shape_found (map (field_at fold.shapes) fold.places)) fold.shapes (shapes_found fold columns base_len valid);
}

-- the two generations differ
other_generation : (generation : ℕ) → generation ≤ 1 → nat_eq (1 - generation) generation ≡ false
other_generation zero few = refl
other_generation (suc zero) few = refl
other_generation (suc (suc generation)) few = absurd (omega (arith, few))

pub folds_are_found : (found : Found) (tenant base : ℕ) (placement : Placement) (columns : List Column) (base_len : ℕ) → IsValidPlacement placement columns base_len
    → ((generation column : ℕ) → found (keys.Field tenant base generation column) ≡ column_in_fold tenant base generation column (fold_of placement generation)) → AreFoundFolds found tenant base (length columns) placement
folds_are_found found tenant base (Settled generation fold) columns base_len valid same =
    fold_is_found found tenant base generation fold columns base_len valid.1
    (λ column. same generation column ∙ ap (λ b. column_in_fold tenant base generation column (cond b (Some fold) None)) (eq-eqb generation generation refl))
folds_are_found found tenant base (Moving generation before after frontier upto) columns base_len valid same =
    let old : Option Fold → ℕ → Option Fold = λ rest g. cond (nat_eq g generation) (Some before) rest in
    let new : ℕ → Option Fold = λ g. cond (nat_eq g (1 - generation)) (Some after) None in (
      fold_is_found found tenant base generation before columns base_len valid.1
          (λ column. same generation column ∙ ap (λ b. column_in_fold tenant base generation column (cond b (Some before) (new generation))) (eq-eqb generation generation refl)),
      fold_is_found found tenant base (1 - generation) after columns base_len valid.2
          (λ column. same (1 - generation) column
          ∙ ap (λ b. column_in_fold tenant base (1 - generation) column (cond b (Some before) (new (1 - generation)))) (other_generation generation valid.0)
          ∙ ap (λ b. column_in_fold tenant base (1 - generation) column (cond b (Some after) None)) (eq-eqb (1 - generation) (1 - generation) refl)),
    )
