-- Two covers of so many columns are one list.
use Rattle.std.proofs.Common.{◌≡◌, ◌≢◌, ℕ, ◌==◌, if◌then◌else◌, List, [], ◌∷◌, map, refl, sym, ap, ap₂, ◌∙◌, arith}
use Rattle.std.proofs.lemmas.Cmp.{nat_list_cmp_total}
use Rattle.std.proofs.lemmas.Map.Lookups.{exact_bytes}
use Rattle.std.proofs.Math.Nat.{le_antisymm}
use Rattle.std.specs.Ordering.{ordering_reverse}
use Rattle.std.specs.declared.cmp.Ordering.{Ordering}
use Rattle.std.specs.declared.cmp.Ordering.TheVariants.{Less, Equal, Greater}
use Rattle.mt_fold.specs.declared.shape.Shape.{Shape}
use Rattle.mt_fold.specs.declared.shape.Shape.TheVariants.{C1, C2, C3, C4, C5, C6}
use Rattle.mt_fold.specs.Covers.{IsCover}
use Rattle.mt_fold.specs.Shapes.{price, shape_table}

-- the shape that lies in a table
abbrev shape_at : ℕ → Shape
shape_at table =
    if table == 1 then C1
    else (if table == 2 then C2
    else (if table == 3 then C3
    else (if table == 4 then C4
    else (if table == 5 then C5 else C6))))

shape_at-shape_table : (shape : Shape) → shape_at (shape_table shape) ≡ shape
shape_at-shape_table C1 = refl
shape_at-shape_table C2 = refl
shape_at-shape_table C3 = refl
shape_at-shape_table C4 = refl
shape_at-shape_table C5 = refl
shape_at-shape_table C6 = refl

shapes_at-tables : (shapes : List Shape) → map shape_at (map shape_table shapes) ≡ shapes
shapes_at-tables [] = refl
shapes_at-tables (shape ∷ shapes) = ap₂ (◌∷◌) (shape_at-shape_table shape) (shapes_at-tables shapes)

-- shapes with the same tables are the same
same_shapes : (shapes other : List Shape) → map shape_table shapes ≡ map shape_table other → shapes ≡ other
same_shapes shapes other same = sym (shapes_at-tables shapes) ∙ ap (map shape_at) same ∙ shapes_at-tables other

neither_greater : (order back : Ordering) → order ≡ ordering_reverse back → order ≢ Greater → back ≢ Greater → order ≡ Equal
neither_greater Less Less same first second = absurd (second (grind arith))
neither_greater Less Equal same first second = grind arith
neither_greater Less Greater same first second = absurd (second refl)
neither_greater Equal back same first second = refl
neither_greater Greater back same first second = absurd (first refl)

pub covers_determined : (numbers texts : ℕ) (shapes other : List Shape) → IsCover numbers texts shapes → IsCover numbers texts other → shapes ≡ other
covers_determined numbers texts shapes other one two =
    let as_dear : price other ≡ price shapes = le_antisymm (two.cheapest shapes one.holds) (one.cheapest other two.holds) in
    same_shapes shapes other (exact_bytes _ _ (neither_greater _ _
    (nat_list_cmp_total.antisymm (map shape_table shapes) (map shape_table other))
    (one.first other two.holds two.ascends as_dear)
    (two.first shapes one.holds one.ascends (sym as_dear))))
