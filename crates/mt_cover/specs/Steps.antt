-- How a cover is made, chunk by chunk, and the table of prices by which its chunks are found.
use Rattle.std.specs.Prelude.{◌≡◌, ℕ, ◌+◌, ◌-◌, ◌/◌, ◌%◌, ◌<◌, List, ◌∷◌, length, count_by, slice_index}
use Rattle.mt_codec.specs.declared.field.FieldKind.TheVariants.{Int, Text}
use Rattle.mt_fold.specs.declared.shape.Shape.{Shape}
use Rattle.mt_fold.specs.Covers.{cover_of}
use Rattle.mt_fold.specs.Shapes.{fields_of, price, same_sort}

-- how many integers a chunk has fields for
abbrev pub numbers_of : Shape → ℕ
numbers_of shape = count_by (same_sort Int) (fields_of shape)

-- how many texts a chunk has fields for
abbrev pub texts_of : Shape → ℕ
texts_of shape = count_by (same_sort (Text 120)) (fields_of shape)

-- the cover of so many integers and texts, by a word that does not unfold
unfoldable pub shapes_for : ℕ → ℕ → List Shape
shapes_for numbers texts = cover_of numbers texts

-- what the cover costs
unfoldable pub cost_of : ℕ → ℕ → ℕ
cost_of numbers texts = price (shapes_for numbers texts)

-- The cover begins with this shape, which holds some of the columns, and goes on with the cover of the
-- others.
pub record Begins (numbers texts : ℕ) (shape : Shape) : Type 0 where
  pub fewer : numbers - numbers_of shape + (texts - texts_of shape) < numbers + texts
  pub begins : shapes_for numbers texts ≡ shape ∷ shapes_for (numbers - numbers_of shape) (texts - texts_of shape)

-- row by row, what the covers cost of so many integers as the number of the row and so many texts as
-- the place in it
abbrev pub ArePrices : ℕ → List ℕ → Type 0
ArePrices width prices = (place : ℕ) → place < length prices → slice_index prices place ≡ cost_of (place / width) (place % width)
