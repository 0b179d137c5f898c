-- The order of values and of rows, and comparison as SQL:1999 has it (8.2).
use Rattle.std.specs.Prelude.{Bool, true, false, not, ◌||◌, if◌then◌else◌, List}
use Rattle.std.specs.declared.cmp.Ordering.{Ordering}
use Rattle.std.specs.declared.cmp.Ordering.TheVariants.{Less, Equal, Greater}
use Rattle.std.specs.Ordering.{nat_cmp, int_cmp, is_eq, is_lt, is_le, is_gt, is_ge}
use Rattle.std.specs.Cmp.Lexicographic.{slice_cmp}
use Rattle.mt_value.specs.declared.value.Value.{Value}
use Rattle.mt_value.specs.declared.value.Value.TheVariants.{Null, Int, Text}
use Rattle.mt_value.specs.declared.truth.Truth.{Truth}
use Rattle.mt_value.specs.declared.truth.Truth.TheVariants.{False, Unknown, True}
use Rattle.mt_value.specs.declared.truth.Cmp.{Cmp}
use Rattle.mt_value.specs.declared.truth.Cmp.TheVariants.{Eq, Ne, Lt, Le, Gt, Ge}

-- Null, then integers by size, then texts by bytes
abbrev pub value_order : Value → Value → Ordering
value_order Null Null = Equal
value_order Null (Int y) = Less
value_order Null (Text t) = Less
value_order (Int x) Null = Greater
value_order (Int x) (Int y) = int_cmp x y
value_order (Int x) (Text t) = Less
value_order (Text s) Null = Greater
value_order (Text s) (Int y) = Greater
value_order (Text s) (Text t) = slice_cmp nat_cmp s t

-- the first values that differ decide
abbrev pub row_order : List Value → List Value → Ordering
row_order a b = slice_cmp value_order a b

-- the null value of SQL:1999
abbrev pub is_null : Value → Bool
is_null Null = true
is_null (Int x) = false
is_null (Text s) = false

-- whether a comparison holds of values in this order
abbrev pub holds : Cmp → Ordering → Bool
holds Eq o = is_eq o
holds Ne o = not (is_eq o)
holds Lt o = is_lt o
holds Le o = is_le o
holds Gt o = is_gt o
holds Ge o = is_ge o

-- True and False of the three truth values
abbrev pub truth_of : Bool → Truth
truth_of true = True
truth_of false = False

-- Unknown where an operand is Null
abbrev pub compare_of : Cmp → Value → Value → Truth
compare_of op a b = if is_null a || is_null b then Unknown else truth_of (holds op (value_order a b))

-- of one kind, or one of them Null
abbrev pub AreComparable : Value → Value → Type 0
AreComparable (Int x) (Text t) = ⊥
AreComparable (Text s) (Int y) = ⊥
AreComparable a b = Unit {0}
