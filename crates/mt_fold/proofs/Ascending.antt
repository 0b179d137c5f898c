-- The lists that are looked through: each ascending one of so many shapes, in the order of a dictionary.
use Rattle.std.proofs.Common.{◌≡◌, ◌≢◌, ℕ, zero, suc, ◌<◌, ◌≤◌, true, inl, inr, List, [], ◌∷◌, map, length, refl, sym, subst, arith}
use Rattle.std.proofs.lemmas.Bool.{lt-ltb}
use Rattle.std.specs.Cmp.Lexicographic.{slice_cmp}
use Rattle.std.specs.List.{AllByRecursion as Each, flat_map}
use Rattle.std.specs.Ordering.{nat_cmp}
use Rattle.std.specs.Prelude.{nat_lt}
use Rattle.std.specs.declared.cmp.Ordering.TheVariants.{Less, Equal, Greater}
use Rattle.mt_fold.specs.declared.shape.Shape.{Shape}
use Rattle.mt_fold.specs.declared.shape.Shape.TheVariants.{C1, C2, C3, C4, C5, C6}
use Rattle.mt_fold.specs.Covers.{Ascends, all_shapes, lists_of}
use Rattle.mt_fold.specs.Shapes.{shape_table}
use Rattle.mt_fold.proofs.Lists.{Among, InOrder, Each-always, Each-weaker, Each-map, Each-flat_map, Among-map, Among-flat_map, InOrder-map, InOrder-flat_map}

-- the first shape is of no earlier table
abbrev pub Above : Shape → List Shape → Type 0
Above low [] = Unit {0}
Above low (shape ∷ shapes) = shape_table low ≤ shape_table shape

pub Ascends-cons : (shape : Shape) (shapes : List Shape) → Above shape shapes → Ascends shapes → Ascends (shape ∷ shapes)
Ascends-cons shape [] above ascends = tt
Ascends-cons shape (next ∷ shapes) above ascends = (above, ascends)

pub Ascends-parts : (shape : Shape) (shapes : List Shape) → Ascends (shape ∷ shapes) → Above shape shapes × Ascends shapes
Ascends-parts shape [] ascends = (tt, tt)
Ascends-parts shape (next ∷ shapes) ascends = (ascends.0, ascends.1)

pub table_positive : (shape : Shape) → 1 ≤ shape_table shape
table_positive C1 = omega arith
table_positive C2 = omega arith
table_positive C3 = omega arith
table_positive C4 = omega arith
table_positive C5 = omega arith
table_positive C6 = omega arith

-- it stands in front of the other in a dictionary, or is the same
abbrev pub NotAfter : List Shape → List Shape → Type 0
NotAfter shapes other = slice_cmp nat_cmp (map shape_table shapes) (map shape_table other) ≢ Greater

less≢greater : Less ≢ Greater
less≢greater = λ same. cc

equal≢greater : Equal ≢ Greater
equal≢greater = λ same. cc

NotAfter-nil : (other : List Shape) → NotAfter [] other
NotAfter-nil [] = equal≢greater
NotAfter-nil (shape ∷ other) = less≢greater

NotAfter-cons : (shape : Shape) (shapes other : List Shape) → NotAfter shapes other → NotAfter (shape ∷ shapes) (shape ∷ other)
NotAfter-cons C1 shapes other order = order
NotAfter-cons C2 shapes other order = order
NotAfter-cons C3 shapes other order = order
NotAfter-cons C4 shapes other order = order
NotAfter-cons C5 shapes other order = order
NotAfter-cons C6 shapes other order = order

pub NotAfter-itself : (shapes : List Shape) → NotAfter shapes shapes
NotAfter-itself [] = equal≢greater
NotAfter-itself (shape ∷ shapes) = NotAfter-cons shape shapes shapes (NotAfter-itself shapes)

abbrev Lower : Shape → Shape → Type 0
Lower shape other = shape_table shape < shape_table other

NotAfter-lower : (shape next : Shape) → Lower shape next → (shapes other : List Shape) → NotAfter (shape ∷ shapes) (next ∷ other)
NotAfter-lower shape next lower shapes other =
    let test : nat_lt (shape_table shape) (shape_table next) ≡ true = lt-ltb _ _ lower in
    rw test less≢greater

-- the shapes from one on
abbrev pub shapes_from : Shape → List Shape
shapes_from C1 = C1 ∷ C2 ∷ C3 ∷ C4 ∷ C5 ∷ C6 ∷ []
shapes_from C2 = C2 ∷ C3 ∷ C4 ∷ C5 ∷ C6 ∷ []
shapes_from C3 = C3 ∷ C4 ∷ C5 ∷ C6 ∷ []
shapes_from C4 = C4 ∷ C5 ∷ C6 ∷ []
shapes_from C5 = C5 ∷ C6 ∷ []
shapes_from C6 = C6 ∷ []

shapes_in_order : (first : Shape) → InOrder Lower (shapes_from first)
shapes_in_order C1 = omega arith
shapes_in_order C2 = omega arith
shapes_in_order C3 = omega arith
shapes_in_order C4 = omega arith
shapes_in_order C5 = omega arith
shapes_in_order C6 = omega arith

shapes_above : (first : Shape) → Each (λ shape. shape_table first ≤ shape_table shape) (shapes_from first)
shapes_above C1 = omega arith
shapes_above C2 = omega arith
shapes_above C3 = omega arith
shapes_above C4 = omega arith
shapes_above C5 = omega arith
shapes_above C6 = omega arith

shape_among : (first shape : Shape) → shape_table first ≤ shape_table shape → Among shape (shapes_from first)
shape_among C1 C1 above = inl refl
shape_among C1 C2 above = inr (inl refl)
shape_among C1 C3 above = inr (inr (inl refl))
shape_among C1 C4 above = inr (inr (inr (inl refl)))
shape_among C1 C5 above = inr (inr (inr (inr (inl refl))))
shape_among C1 C6 above = inr (inr (inr (inr (inr (inl refl)))))
shape_among C2 C2 above = inl refl
shape_among C2 C3 above = inr (inl refl)
shape_among C2 C4 above = inr (inr (inl refl))
shape_among C2 C5 above = inr (inr (inr (inl refl)))
shape_among C2 C6 above = inr (inr (inr (inr (inl refl))))
shape_among C3 C3 above = inl refl
shape_among C3 C4 above = inr (inl refl)
shape_among C3 C5 above = inr (inr (inl refl))
shape_among C3 C6 above = inr (inr (inr (inl refl)))
shape_among C4 C4 above = inl refl
shape_among C4 C5 above = inr (inl refl)
shape_among C4 C6 above = inr (inr (inl refl))
shape_among C5 C5 above = inl refl
shape_among C5 C6 above = inr (inl refl)
shape_among C6 C6 above = inl refl
shape_among _ _ above = absurd (omega arith)

-- the lists that begin with a shape
abbrev lists_with : ℕ → Shape → List (List Shape)
lists_with count shape = map (λ list. shape ∷ list) (lists_of count (shapes_from shape))

lists_of-suc : (count : ℕ) (first : Shape) → lists_of (suc count) (shapes_from first) ≡ [] ∷ flat_map (lists_with count) (shapes_from first)
lists_of-suc count C1 = refl
lists_of-suc count C2 = refl
lists_of-suc count C3 = refl
lists_of-suc count C4 = refl
lists_of-suc count C5 = refl
lists_of-suc count C6 = refl

always_with : (P : List Shape → Type 0) (count : ℕ) (shape : Shape) → ((list : List Shape) → P (shape ∷ list)) → Each P (lists_with count shape)
always_with P count shape always =
    Each-map P (λ list. shape ∷ list) (lists_of count (shapes_from shape)) (Each-always (λ list. P (shape ∷ list)) always (lists_of count (shapes_from shape)))

lists_apart : (count : ℕ) (shape next : Shape) → Lower shape next → Each (λ list. Each (NotAfter list) (lists_with count next)) (lists_with count shape)
lists_apart count shape next lower =
    always_with (λ list. Each (NotAfter list) (lists_with count next)) count shape (λ list.
    always_with (NotAfter (shape ∷ list)) count next (λ other. NotAfter-lower shape next lower list other))

lists_with_in_order : (count : ℕ) (shape : Shape) → InOrder NotAfter (lists_of count (shapes_from shape)) → InOrder NotAfter (lists_with count shape)
lists_with_in_order count shape order = InOrder-map NotAfter NotAfter (λ list. shape ∷ list) (NotAfter-cons shape) (lists_of count (shapes_from shape)) order

lists_from_in_order : (count : ℕ) (first : Shape) → InOrder NotAfter (lists_of count (shapes_from first))
lists_from_in_order zero first = (tt, tt)
lists_from_in_order (suc count) first =
    let each = Each-always (λ shape. InOrder NotAfter (lists_with count shape)) (λ shape. lists_with_in_order count shape (lists_from_in_order count shape)) (shapes_from first) in
    subst (InOrder NotAfter) (sym (lists_of-suc count first)) (
      Each-always (NotAfter []) NotAfter-nil (flat_map (lists_with count) (shapes_from first)),
      InOrder-flat_map NotAfter Lower (lists_with count) (lists_apart count) (shapes_from first) (shapes_in_order first) each,
    )

pub lists_in_order : (count : ℕ) → InOrder NotAfter (lists_of count all_shapes)
lists_in_order count = lists_from_in_order count C1

abbrev AscendsFrom : Shape → List Shape → Type 0
AscendsFrom first list = Above first list × Ascends list

lists_with_ascend : (count : ℕ) (first shape : Shape) → shape_table first ≤ shape_table shape → Each (AscendsFrom shape) (lists_of count (shapes_from shape)) → Each (AscendsFrom first) (lists_with count shape)
lists_with_ascend count first shape above each =
    let more : (list : List Shape) → AscendsFrom shape list → AscendsFrom first (shape ∷ list) = λ list ascends. (above, Ascends-cons shape list ascends.0 ascends.1) in
    let ascend = Each-weaker (AscendsFrom shape) (λ list. AscendsFrom first (shape ∷ list)) more (lists_of count (shapes_from shape)) each in
    Each-map (AscendsFrom first) (λ list. shape ∷ list) (lists_of count (shapes_from shape)) ascend

lists_ascend_from : (count : ℕ) (first : Shape) → Each (AscendsFrom first) (lists_of count (shapes_from first))
lists_ascend_from zero first = ((tt, tt), tt)
lists_ascend_from (suc count) first =
    let with_one = λ (shape : Shape) (above : shape_table first ≤ shape_table shape). lists_with_ascend count first shape above (lists_ascend_from count shape) in
    let each = Each-weaker (λ shape. shape_table first ≤ shape_table shape) (λ shape. Each (AscendsFrom first) (lists_with count shape)) with_one (shapes_from first) (shapes_above first) in
    subst (Each (AscendsFrom first)) (sym (lists_of-suc count first)) ((tt, tt), Each-flat_map (AscendsFrom first) (lists_with count) (shapes_from first) each)

pub lists_ascend : (count : ℕ) → Each Ascends (lists_of count all_shapes)
lists_ascend count = Each-weaker (AscendsFrom C1) Ascends (λ list ascends. ascends.1) (lists_of count all_shapes) (lists_ascend_from count C1)

listed_from : (count : ℕ) (first : Shape) (list : List Shape) → length list ≤ count → Above first list → Ascends list → Among list (lists_of count (shapes_from first))
listed_from zero first [] few above ascends = inl refl
listed_from zero first (shape ∷ list) few above ascends = absurd (omega arith)
listed_from (suc count) first [] few above ascends = subst (Among []) (sym (lists_of-suc count first)) (inl refl)
listed_from (suc count) first (shape ∷ list) few above ascends =
    let parts = Ascends-parts shape list ascends in
    let rest = listed_from count shape list (omega arith) parts.0 parts.1 in
    let within = Among-map (λ other. shape ∷ other) list (lists_of count (shapes_from shape)) rest in
    let among = Among-flat_map (lists_with count) (shape ∷ list) shape (shapes_from first) (shape_among first shape above) within in
    subst (Among (shape ∷ list)) (sym (lists_of-suc count first)) (inr among)

pub listed : (count : ℕ) (list : List Shape) → length list ≤ count → Ascends list → Among list (lists_of count all_shapes)
listed count [] few ascends = listed_from count C1 [] few tt ascends
listed count (shape ∷ list) few ascends = listed_from count C1 (shape ∷ list) few (table_positive shape) ascends
