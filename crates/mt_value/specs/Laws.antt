-- The laws of the order of values and of rows, of three-valued logic and of comparisons.
use Rattle.std.proofs.Common.{◌≡◌, Bool, true, false, cond, ◌||◌, List, [], ◌∷◌, Ordering, refl, sym, ap, arith}
use Rattle.std.specs.declared.cmp.Ordering.TheVariants.{Less, Equal, Greater}
use Rattle.std.specs.Ordering.{nat_cmp, ordering_reverse}
use Rattle.std.specs.Cmp.{IsTotalOrder}
use Rattle.std.specs.Cmp.Lexicographic.{slice_cmp}
use Rattle.std.proofs.lemmas.Cmp.{ranked, int_ranked, int_cmp_total, nat_list_cmp_total, lists_total}
use Rattle.mt_value.specs.declared.value.Value.{Value}
use Rattle.mt_value.specs.declared.value.Value.TheVariants.{Null, Int, Text}
use Rattle.mt_value.specs.declared.truth.Truth.{Truth}
use Rattle.mt_value.specs.declared.truth.Truth.TheVariants.{False, Unknown, True}
use Rattle.mt_value.specs.declared.truth.Cmp.{Cmp}
use Rattle.mt_value.specs.declared.truth.Cmp.TheVariants.{Eq, Ne, Lt, Le, Gt, Ge}
use Rattle.mt_value.specs.Logic.{and_of, or_of, not_of}
use Rattle.mt_value.specs.Order.{value_order, row_order, compare_of, holds, truth_of, is_null}

-- an order that tells apart what differs does so of lists too
pub slice_cmp-exact : {K : Type 0} (R : K → K → Ordering) → ((x y : K) → R x y ≡ Equal → x ≡ y) → (xs ys : List K) → slice_cmp R xs ys ≡ Equal → xs ≡ ys
slice_cmp-exact R exact [] [] e = refl
slice_cmp-exact R exact [] (y ∷ ys) e = cc
slice_cmp-exact R exact (x ∷ xs) [] e = cc
slice_cmp-exact R exact (x ∷ xs) (y ∷ ys) e =
    by (R x y) refl (slice_cmp-exact R exact xs ys)
  where
    by : (o : Ordering) → R x y ≡ o → (slice_cmp R xs ys ≡ Equal → xs ≡ ys) → x ∷ xs ≡ y ∷ ys
    by Less h tail = let k = rw h at e in cc
    by Equal h tail = let k = rw h at e in let heads = exact x y h in let tails = tail k in cc
    by Greater h tail = let k = rw h at e in cc

-- values that compare equal are equal
pub value_order-exact : (a b : Value) → value_order a b ≡ Equal → a ≡ b
value_order-exact Null Null e = refl
value_order-exact (Int x) (Int y) e = ap Int (int_ranked x y Equal (sym e))
value_order-exact (Text s) (Text t) e = ap Text (slice_cmp-exact nat_cmp (λ x y h. ranked x y Equal (sym h)) s t e)
value_order-exact a b e = cc

value_order-antisymm : (a b : Value) → value_order a b ≡ ordering_reverse (value_order b a)
value_order-antisymm Null Null = refl
value_order-antisymm (Int x) (Int y) = int_cmp_total.antisymm x y
value_order-antisymm (Text s) (Text t) = nat_list_cmp_total.antisymm s t
value_order-antisymm a b = refl

value_order-trans : (a b c : Value) → value_order a b ≡ Less → value_order b c ≡ Less → value_order a c ≡ Less
value_order-trans Null Null c p q = cc
value_order-trans Null b Null p q = cc
value_order-trans (Int x) (Int y) (Int z) p q = int_cmp_total.trans x y z p q
value_order-trans (Int x) (Text t) Null p q = cc
value_order-trans (Text s) (Text t) (Text u) p q = nat_list_cmp_total.trans s t u p q
value_order-trans (Int x) Null c p q = cc
value_order-trans (Text s) Null c p q = cc
value_order-trans (Text s) (Int y) c p q = cc
value_order-trans a b c p q = cc

-- the order of values is total
pub value_order-total : IsTotalOrder value_order
value_order-total = record {
  antisymm = value_order-antisymm;
  trans = value_order-trans;
  congr = λ a b c e. ap (λ v. value_order v c) (value_order-exact a b e);
}

-- the order of rows is total
pub row_order-total : IsTotalOrder row_order
row_order-total = lists_total value_order-total

-- rows that compare equal are equal
pub row_order-exact : (a b : List Value) → row_order a b ≡ Equal → a ≡ b
row_order-exact = slice_cmp-exact value_order value_order-exact

-- AND and OR do not mind the order or the grouping of what they join
pub and_of-comm : (a b : Truth) → and_of a b ≡ and_of b a
and_of-comm a b = grind arith

pub and_of-assoc : (a b c : Truth) → and_of (and_of a b) c ≡ and_of a (and_of b c)
and_of-assoc a b c = grind arith

pub or_of-comm : (a b : Truth) → or_of a b ≡ or_of b a
or_of-comm a b = grind arith

pub or_of-assoc : (a b c : Truth) → or_of (or_of a b) c ≡ or_of a (or_of b c)
or_of-assoc a b c = grind arith

-- NOT of an AND is the OR of the NOTs, and the other way round
pub not_of-and_of : (a b : Truth) → not_of (and_of a b) ≡ or_of (not_of a) (not_of b)
not_of-and_of a b = grind arith

pub not_of-or_of : (a b : Truth) → not_of (or_of a b) ≡ and_of (not_of a) (not_of b)
not_of-or_of a b = grind arith

-- NOT of a NOT is what was there
pub not_of-not_of : (a : Truth) → not_of (not_of a) ≡ a
not_of-not_of False = refl
not_of-not_of Unknown = refl
not_of-not_of True = refl

-- the comparison that says the same of exchanged operands
abbrev pub swapped : Cmp → Cmp
swapped Eq = Eq
swapped Ne = Ne
swapped Lt = Gt
swapped Le = Ge
swapped Gt = Lt
swapped Ge = Le

-- the comparison that holds where this one does not
abbrev pub negated : Cmp → Cmp
negated Eq = Ne
negated Ne = Eq
negated Lt = Ge
negated Le = Gt
negated Gt = Le
negated Ge = Lt

holds-swapped : (op : Cmp) (o : Ordering) → holds (swapped op) (ordering_reverse o) ≡ holds op o
holds-swapped op o = grind arith

-- exchanged operands compare the other way round
pub compare_of-swapped : (op : Cmp) (a b : Value) → compare_of (swapped op) b a ≡ compare_of op a b
compare_of-swapped op a b =
    rw (value_order-antisymm b a) (by (is_null a) (is_null b))
  where
    by : (p q : Bool) → cond (q || p) Unknown (truth_of (holds (swapped op) (ordering_reverse (value_order a b)))) ≡ cond (p || q) Unknown (truth_of (holds op (value_order a b)))
    by true true = refl
    by true false = refl
    by false true = refl
    by false false = ap truth_of (holds-swapped op (value_order a b))

truth_of-negated : (op : Cmp) (o : Ordering) → truth_of (holds (negated op) o) ≡ not_of (truth_of (holds op o))
truth_of-negated op o = grind arith

-- NOT of a comparison is the comparison that holds where it does not, and Unknown stays so
pub compare_of-negated : (op : Cmp) (a b : Value) → compare_of (negated op) a b ≡ not_of (compare_of op a b)
compare_of-negated op a b =
    by (is_null a || is_null b)
  where
    by : (null : Bool) → cond null Unknown (truth_of (holds (negated op) (value_order a b))) ≡ not_of (cond null Unknown (truth_of (holds op (value_order a b))))
    by true = refl
    by false = truth_of-negated op (value_order a b)
