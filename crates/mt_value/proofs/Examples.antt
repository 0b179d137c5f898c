-- Worked examples of the definitions, each by computation.
use Rattle.std.proofs.Common.{◌≡◌, [], ◌∷◌, refl, pos, negsuc}
use Rattle.std.specs.declared.cmp.Ordering.TheVariants.{Less, Equal, Greater}
use Rattle.std.specs.Prelude.{codes}
use Rattle.mt_value.specs.declared.value.Value.TheVariants.{Null, Int, Text}
use Rattle.mt_value.specs.declared.truth.Truth.TheVariants.{False, Unknown, True}
use Rattle.mt_value.specs.declared.truth.Cmp.TheVariants.{Eq, Ne, Lt, Ge}
use Rattle.mt_value.specs.Logic.{and_of, or_of, not_of}
use Rattle.mt_value.specs.Order.{value_order, row_order, compare_of}
use Rattle.mt_value.specs.Sorted.{in_row_order}

-- a comparison with Null is Unknown, also of Null with itself
number-is-null : compare_of Eq (Int (pos 1)) Null ≡ Unknown
number-is-null = refl

null-is-null : compare_of Eq Null Null ≡ Unknown
null-is-null = refl

null-is_not-text : compare_of Ne Null (Text (codes "a")) ≡ Unknown
null-is_not-text = refl

-- Unknown is decided by False under AND, by True under OR, and by neither under NOT
unknown-and-false : and_of Unknown False ≡ False
unknown-and-false = refl

unknown-and-true : and_of Unknown True ≡ Unknown
unknown-and-true = refl

unknown-or-true : or_of Unknown True ≡ True
unknown-or-true = refl

unknown-or-false : or_of Unknown False ≡ Unknown
unknown-or-false = refl

not-unknown : not_of Unknown ≡ Unknown
not-unknown = refl

-- numbers by size, with their signs
minus_one-below-zero : compare_of Lt (Int (negsuc 0)) (Int (pos 0)) ≡ True
minus_one-below-zero = refl

minus_two-below-minus_one : compare_of Ge (Int (negsuc 1)) (Int (negsuc 0)) ≡ False
minus_two-below-minus_one = refl

ten-not-below-nine : compare_of Lt (Int (pos 10)) (Int (pos 9)) ≡ False
ten-not-below-nine = refl

-- texts by bytes: the first that differs decides, and the start of a text comes before it
a-below-b : compare_of Lt (Text (codes "a")) (Text (codes "b")) ≡ True
a-below-b = refl

a-below-aa : compare_of Lt (Text (codes "a")) (Text (codes "aa")) ≡ True
a-below-aa = refl

aa-below-b : compare_of Lt (Text (codes "aa")) (Text (codes "b")) ≡ True
aa-below-b = refl

capitals-first : compare_of Lt (Text (codes "Z")) (Text (codes "a")) ≡ True
capitals-first = refl

ten-below-nine-as-texts : compare_of Lt (Text (codes "10")) (Text (codes "9")) ≡ True
ten-below-nine-as-texts = refl

-- Null is the least, and any number is before any text
null-least : value_order Null (Int (negsuc 99)) ≡ Less
null-least = refl

null-with-itself : value_order Null Null ≡ Equal
null-with-itself = refl

number-before-text : value_order (Int (pos 5)) (Text (codes "")) ≡ Less
number-before-text = refl

-- rows by the first values that differ
second-column-decides : row_order (Int (pos 1) ∷ Text (codes "b") ∷ []) (Int (pos 1) ∷ Text (codes "a") ∷ []) ≡ Greater
second-column-decides = refl

three-rows-in-order :
    in_row_order ((Int (pos 2) ∷ []) ∷ (Null ∷ []) ∷ (Int (pos 1) ∷ []) ∷ []) ≡ ((Null ∷ []) ∷ (Int (pos 1) ∷ []) ∷ (Int (pos 2) ∷ []) ∷ [])
three-rows-in-order = refl

-- equal rows all stay
equal-rows-stay : in_row_order ((Int (pos 1) ∷ []) ∷ (Null ∷ []) ∷ (Int (pos 1) ∷ []) ∷ []) ≡ ((Null ∷ []) ∷ (Int (pos 1) ∷ []) ∷ (Int (pos 1) ∷ []) ∷ [])
equal-rows-stay = refl
