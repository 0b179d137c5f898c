-- The shapes of chunks: the physical table of each, its fields, and its price.
use Rattle.std.specs.Prelude.{ℕ, ◌+◌, Bool, true, false, List, sum_by}
use Rattle.mt_codec.specs.declared.field.FieldKind.{FieldKind}
use Rattle.mt_codec.specs.declared.field.FieldKind.TheVariants.{Int, Text}
use Rattle.mt_rowfile.specs.Layouts.{chunk_kinds, chunk_layout, slot_width}
use Rattle.mt_tree.specs.declared.schema.Kind.{Kind}
use Rattle.mt_tree.specs.declared.schema.Kind.TheVariants.{Integer, Varchar}
use Rattle.mt_fold.specs.declared.shape.Shape.{Shape}
use Rattle.mt_fold.specs.declared.shape.Shape.TheVariants.{C1, C2, C3, C4, C5, C6}

-- the physical table in which chunks of this shape lie
abbrev pub shape_table : Shape → ℕ
shape_table C1 = 1
shape_table C2 = 2
shape_table C3 = 3
shape_table C4 = 4
shape_table C5 = 5
shape_table C6 = 6

-- the fields of a chunk of this shape: integers first, and then texts of 120 bytes
abbrev pub fields_of : Shape → List FieldKind
fields_of shape = chunk_kinds (shape_table shape)

-- what a field of a chunk is, in which a column of this kind lies
abbrev pub chunk_kind : Kind → FieldKind
chunk_kind Integer = Int
chunk_kind (Varchar size) = Text 120

-- whether two fields are both integers or both texts
abbrev pub same_sort : FieldKind → FieldKind → Bool
same_sort Int Int = true
same_sort (Text size) (Text other) = true
same_sort field other = false

-- what a chunk costs: the bytes of its slot, and 64 for one more slot to be found
abbrev pub price_of : Shape → ℕ
price_of shape = slot_width (chunk_layout (shape_table shape)) + 64

-- what some chunks cost
abbrev pub price : List Shape → ℕ
price shapes = sum_by price_of shapes
