-- The cheapest chunks that hold so many columns.
use Rattle.std.specs.Prelude.{◌≡◌, ◌≢◌, ℕ, zero, suc, ◌+◌, ◌≤◌, ◌&&◌, nat_le, nat_lt, Bool, if◌then◌else◌, List, [], ◌∷◌, map, filter, flat_map, fold, count_by, sum_by}
use Rattle.std.specs.declared.cmp.Ordering.TheVariants.{Greater}
use Rattle.std.specs.Ordering.{nat_cmp}
use Rattle.std.specs.Cmp.Lexicographic.{slice_cmp}
use Rattle.mt_codec.specs.declared.field.FieldKind.TheVariants.{Int, Text}
use Rattle.mt_fold.specs.declared.shape.Shape.{Shape}
use Rattle.mt_fold.specs.declared.shape.Shape.TheVariants.{C1, C2, C3, C4, C5, C6}
use Rattle.mt_fold.specs.Shapes.{fields_of, price, same_sort, shape_table}

-- how many integers some chunks have fields for
abbrev pub numbers_in : List Shape → ℕ
numbers_in shapes = sum_by (λ shape. count_by (same_sort Int) (fields_of shape)) shapes

-- how many texts some chunks have fields for
abbrev pub texts_in : List Shape → ℕ
texts_in shapes = sum_by (λ shape. count_by (same_sort (Text 120)) (fields_of shape)) shapes

-- chunks that have fields for so many
abbrev pub Holds : ℕ → ℕ → List Shape → Type 0
Holds numbers texts shapes = (numbers ≤ numbers_in shapes) × (texts ≤ texts_in shapes)

-- no shape stands in front of one of an earlier table
abbrev pub Ascends : List Shape → Type 0
Ascends [] = Unit {0}
Ascends (shape ∷ []) = Unit {0}
Ascends (shape ∷ next ∷ shapes) = (shape_table shape ≤ shape_table next) × Ascends (next ∷ shapes)

-- The list is ascending, of the least price of all that hold so many and, among the ascending ones of
-- that price, the first in the order of a dictionary.
pub record IsCover (numbers texts : ℕ) (shapes : List Shape) : Type 0 where
  pub holds : Holds numbers texts shapes
  pub ascends : Ascends shapes
  pub cheapest : (other : List Shape) → Holds numbers texts other → price shapes ≤ price other
  pub first : (other : List Shape) → Holds numbers texts other → Ascends other → price other ≡ price shapes
      → slice_cmp nat_cmp (map shape_table shapes) (map shape_table other) ≢ Greater

-- all shapes, ascending
abbrev pub all_shapes : List Shape
all_shapes = C1 ∷ C2 ∷ C3 ∷ C4 ∷ C5 ∷ C6 ∷ []

-- what stands from each shape on
abbrev pub suffixes : List Shape → List (List Shape)
suffixes [] = []
suffixes (shape ∷ shapes) = (shape ∷ shapes) ∷ suffixes shapes

-- the list with the first of these shapes in front
abbrev pub with_first : List Shape → List Shape → List Shape
with_first [] list = list
with_first (shape ∷ shapes) list = shape ∷ list

-- the ascending lists of at most so many of these shapes, in the order of a dictionary
abbrev pub lists_of : ℕ → List Shape → List (List Shape)
lists_of zero shapes = [] ∷ []
lists_of (suc count) shapes = [] ∷ flat_map (λ suffix. map (with_first suffix) (lists_of count suffix)) (suffixes shapes)

-- whether chunks have fields for so many
abbrev pub holds : ℕ → ℕ → List Shape → Bool
holds numbers texts shapes = nat_le numbers (numbers_in shapes) && nat_le texts (texts_in shapes)

-- the first of the cheapest lists
abbrev pub first_cheapest : List Shape → List (List Shape) → List Shape
first_cheapest list lists = fold (λ best other. if nat_lt (price other) (price best) then other else best) list lists

-- the same of any lists, of which there may be none
abbrev pub cheapest_of : List (List Shape) → List Shape
cheapest_of [] = []
cheapest_of (list ∷ lists) = first_cheapest list lists

-- the cover of so many integers and texts; no more chunks than columns are needed
abbrev pub cover_of : ℕ → ℕ → List Shape
cover_of numbers texts = cheapest_of (filter (holds numbers texts) (lists_of (numbers + texts) all_shapes))
