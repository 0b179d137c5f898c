-- Rows in row order, as insertion sort puts them.
use Rattle.std.proofs.Common.{◌≡◌, Bool, false, List, Ordering, refl, sym, ◌∙◌}
use Rattle.std.specs.declared.cmp.Ordering.TheVariants.{Less, Equal, Greater}
use Rattle.std.specs.Ordering.{is_lt, ordering_reverse}
use Rattle.std.specs.List.Sorted.{IsPermutation, IsSortedBy}
use Rattle.std.proofs.lemmas.List.Sorted.{ranks_by}
use Rattle.mt_value.specs.declared.value.Value.{Value}
use Rattle.mt_value.specs.Insertion.{insert_by, in_order_by, in_order_by-permutation, in_order_by-sorted}
use Rattle.mt_value.specs.Laws.{row_order-total, row_order-exact}
use Rattle.mt_value.specs.Order.{row_order}

-- whether a row comes before another
abbrev pub row_before : List Value → List Value → Bool
row_before a b = is_lt (row_order a b)

-- the row in front of the first that is not before it
abbrev pub insert_row : List Value → List (List Value) → List (List Value)
insert_row row rows = insert_by row_before row rows

-- the rows in row order
abbrev pub in_row_order : List (List Value) → List (List Value)
in_row_order rows = in_order_by row_before rows

-- rows in row order are the same list, however they were put in that order
pub in_row_order-from_sorted : (rows sorted : List (List Value)) → IsPermutation rows sorted → IsSortedBy row_before sorted → sorted ≡ in_row_order rows
in_row_order-from_sorted rows sorted moved up =
    sym (in_order_by-sorted row_before sorted up) ∙ in_order_by-permutation row_before (ranks_by row_order-total (λ row. row)) row_before-exact rows sorted moved
  where
    neither : (o p : Ordering) → o ≡ ordering_reverse p → is_lt o ≡ false → is_lt p ≡ false → o ≡ Equal
    neither Less p e f g = cc
    neither Equal p e f g = refl
    neither Greater Less e f g = cc
    neither Greater Equal e f g = cc
    neither Greater Greater e f g = cc

    row_before-exact : (x y : List Value) → row_before x y ≡ false → row_before y x ≡ false → x ≡ y
    row_before-exact x y e f = row_order-exact x y (neither (row_order x y) (row_order y x) (row_order-total.antisymm x y) e f)
