-- Columns counted by their sort.
use Rattle.std.proofs.Common.{◌≡◌, ◌+◌, cond, List, [], ◌∷◌, length, refl, arith}
use Rattle.std.specs.Prelude.{count_by}
use Rattle.std.proofs.lemmas.List.Sums.{sum_by-cons}
use Rattle.mt_codec.specs.declared.field.FieldKind.TheVariants.{Int, Text}
use Rattle.mt_tree.specs.declared.schema.Column.{Column}
use Rattle.mt_tree.specs.declared.schema.Kind.{Kind}
use Rattle.mt_tree.specs.declared.schema.Kind.TheVariants.{Integer, Varchar}
use Rattle.mt_fold.specs.Extended.{kinds_of}
use Rattle.mt_fold.specs.Shapes.{chunk_kind, same_sort}

one : (kind : Kind) → cond (same_sort Int (chunk_kind kind)) 1 0 + cond (same_sort (Text 120) (chunk_kind kind)) 1 0 ≡ 1
one Integer = refl
one (Varchar size) = refl

-- each column is of one of the two sorts
pub sorts_counted : (columns : List Column) → count_by (same_sort Int) (kinds_of columns) + count_by (same_sort (Text 120)) (kinds_of columns) ≡ length columns
sorts_counted [] = refl
sorts_counted (column ∷ columns) =
    let numbers = sum_by-cons (λ kind. cond (same_sort Int kind) 1 0) (chunk_kind column.kind) (kinds_of columns) in
    let texts = sum_by-cons (λ kind. cond (same_sort (Text 120) kind) 1 0) (chunk_kind column.kind) (kinds_of columns) in
    let rest = sorts_counted columns in
    let this = one column.kind in
    omega (arith, numbers, texts, rest, this)
