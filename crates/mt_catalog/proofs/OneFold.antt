-- Folds that are found are determined.
use Rattle.std.proofs.Common.{◌≡◌, ℕ, ◌-◌, List, map, Option, sym, ap, ◌∙◌, subst}
use Rattle.mt_fold.specs.declared.fold.Fold.{Fold}
use Rattle.mt_fold.specs.declared.fold.Place.{Place}
use Rattle.mt_fold.specs.declared.fold.Placement.{Placement}
use Rattle.mt_fold.specs.declared.fold.Placement.TheVariants.{Settled, Moving}
use Rattle.mt_fold.specs.declared.shape.Shape.{Shape}
use Rattle.mt_catslot.specs.declared.slot.Motion.{Motion}
use Rattle.mt_catslot.specs.declared.slot.Motion.TheVariants as motions
use Rattle.mt_catalog.specs.Slots.{motion_of}
use Rattle.mt_catalog.specs.Found.{AreFoundFields, AreFoundFolds, Found, IsFoundFold, IsRunOf, place_found, shape_found}
use Rattle.mt_catalog.proofs.Runs.{one_run_of, same_members}

one_fields : (found : Found) (tenant base generation columns : ℕ) (a b : List (Option (Shape × ℕ × ℕ))) → AreFoundFields found tenant base generation columns a → AreFoundFields found tenant base generation columns b → a ≡ b
one_fields found tenant base generation columns a b are others = same_members a b (are.size ∙ sym others.size) (λ column x y e f. sym (are.each column x e) ∙ others.each column y f)

pub one_fold : (found : Found) (tenant base generation columns : ℕ) (a b : Fold) → IsFoundFold found tenant base generation columns a → IsFoundFold found tenant base generation columns b → a ≡ b
one_fold found tenant base generation columns a b is other =
    let make : List Shape → List Place → Fold = λ shapes places. record { shapes = shapes; places = places } in
    let fields = one_fields found tenant base generation columns is.fields other.fields is.fields_are other.fields_are in
    let places : a.places ≡ b.places = is.places_are ∙ ap (map place_found) fields ∙ sym other.places_are in
    let shapes : a.shapes ≡ b.shapes = one_run_of (shape_found other.fields) a.shapes b.shapes (subst (λ (of : List (Option (Shape × ℕ × ℕ))). IsRunOf (shape_found of) a.shapes) fields is.shapes_are) other.shapes_are in
    ap (λ shapes. make shapes a.places) shapes ∙ ap (make b.shapes) places

-- the parts of how a table lies
generation_in : Motion → ℕ
generation_in (motions.Settled generation) = generation
generation_in (motions.Moving generation frontier upto) = generation

frontier_in : Motion → ℕ
frontier_in (motions.Settled generation) = 0
frontier_in (motions.Moving generation frontier upto) = frontier

upto_in : Motion → ℕ
upto_in (motions.Settled generation) = 0
upto_in (motions.Moving generation frontier upto) = upto

pub one_placement : (found : Found) (tenant base columns : ℕ) (a b : Placement) → motion_of a ≡ motion_of b → AreFoundFolds found tenant base columns a → AreFoundFolds found tenant base columns b → a ≡ b
unfolding generation_in frontier_in upto_in
one_placement found tenant base columns (Settled generation fold) (Settled g f) same is other =
    let generations : generation ≡ g = ap generation_in same in
    let folds : fold ≡ f = one_fold found tenant base g columns fold f (subst (λ g. IsFoundFold found tenant base g columns fold) generations is) other in
    ap (λ g. Settled g fold) generations ∙ ap (Settled g) folds
one_placement found tenant base columns (Settled generation fold) (Moving g before after frontier upto) same is other = absurd (cc)
one_placement found tenant base columns (Moving generation before after frontier upto) (Settled g f) same is other = absurd (cc)
one_placement found tenant base columns (Moving generation before after frontier upto) (Moving g old new from end) same is other =
    let generations : generation ≡ g = ap generation_in same in
    let frontiers : frontier ≡ from = ap frontier_in same in
    let ends : upto ≡ end = ap upto_in same in
    let olds : before ≡ old = one_fold found tenant base g columns before old (subst (λ g. IsFoundFold found tenant base g columns before) generations is.0) other.0 in
    let news : after ≡ new = one_fold found tenant base (1 - g) columns after new (subst (λ g. IsFoundFold found tenant base (1 - g) columns after) generations is.1) other.1 in
    ap (λ g. Moving g before after frontier upto) generations ∙ ap (λ old. Moving g old after frontier upto) olds ∙ ap (λ new. Moving g old new frontier upto) news
    ∙ ap (λ from. Moving g old new from upto) frontiers ∙ ap (Moving g old new from) ends
