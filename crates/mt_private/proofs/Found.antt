-- What is found of lists whose members are made of something.
use Rattle.std.proofs.Common.{◌≡◌, List, [], ◌∷◌, map, ap}
use Rattle.std.specs.Iterator.{Yields}
use Rattle.std.specs.Vec.Iter.{into_iter_items, into_iter_steps}
use Rattle.std.specs.declared.vec.IntoIter.{IntoIter}

-- a loop over a list that came to a member that nothing makes: then nothing makes the list
pub map-unmade : {A B Z : Type 0} (of : B → A) (yielded : List A) (first old new : IntoIter A Z) (a : A) → Yields into_iter_steps first yielded old → into_iter_items old ≡ a ∷ into_iter_items new → ((b : B) → a ≡ of b → ⊥) → (bs : List B) → into_iter_items first ≡ map of bs → ⊥
map-unmade of [] first old new a y next none [] e =
    let same = ap into_iter_items y in
    cc
map-unmade of [] first old new a y next none (b ∷ bs) e =
    let same = ap into_iter_items y in
    let made : a ≡ of b = cc in
    none b made
map-unmade of (x ∷ xs) first old new a y next none [] e =
    let taken : into_iter_items first ≡ x ∷ into_iter_items y.0 = y.1.0 in
    cc
map-unmade of (x ∷ xs) first old new a y next none (b ∷ bs) e =
    let taken : into_iter_items first ≡ x ∷ into_iter_items y.0 = y.1.0 in
    let others : into_iter_items y.0 ≡ map of bs = cc in
    map-unmade of xs y.0 old new a y.2 next none bs others
