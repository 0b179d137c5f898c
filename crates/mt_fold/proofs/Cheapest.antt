-- The list that is defined as the cover is one.
use Rattle.std.proofs.Common.{◌≡◌, ℕ, ◌+◌, ◌≤◌, Bool, true, false, cond, List, [], ◌∷◌, ◌++◌, length, replicate, refl, sym, subst, arith, le_trans}
use Rattle.std.specs.List.{AllByRecursion as Each, filter}
use Rattle.std.specs.Prelude.{nat_lt}
use Rattle.std.proofs.lemmas.Bool.{and_from, and_parts, cond_both, le-leb, leb-true, ltb-true, ltb-false}
use Rattle.std.proofs.lemmas.List.Folds.{sum_by-replicate}
use Rattle.std.proofs.lemmas.List.Sums.{sum_by-append}
use Rattle.mt_fold.specs.declared.shape.Shape.{Shape}
use Rattle.mt_fold.specs.declared.shape.Shape.TheVariants.{C1, C2}
use Rattle.mt_fold.specs.Covers.{Ascends, Holds, IsCover, all_shapes, cheapest_of, cover_of, first_cheapest, holds, lists_of}
use Rattle.mt_fold.specs.Shapes.{price, price_of}
use Rattle.mt_fold.proofs.Lists.{Among, InOrder, Each-at, Each-filter, Each-weaker, Among-filter, InOrder-filter, filter_passes}
use Rattle.mt_fold.proofs.Ascending.{NotAfter, NotAfter-itself, listed, lists_ascend, lists_in_order}
use Rattle.mt_fold.proofs.Thinned.{Thins, Ascends-sorted, length-sorted, numbers_of, sorted, sum_by-sorted, texts_of, thinned}

-- the cheaper of two lists, the first of two that are as dear
abbrev cheaper : List Shape → List Shape → List Shape
cheaper best other = cond (nat_lt (price other) (price best)) other best

chosen_keeps : (P : List Shape → Type 0) (best : List Shape) (lists : List (List Shape)) → P best → Each P lists → P (first_cheapest best lists)
chosen_keeps P best [] here each = here
chosen_keeps P best (other ∷ lists) here each =
    chosen_keeps P (cheaper best other) lists (cond_both (nat_lt (price other) (price best)) other best P (λ less. each.0) (λ more. here)) each.1

cheaper_than_both : (best other : List Shape) → (price (cheaper best other) ≤ price best) × (price (cheaper best other) ≤ price other)
cheaper_than_both best other =
    cond_both (nat_lt (price other) (price best)) other best (λ list. (price list ≤ price best) × (price list ≤ price other))
    (λ less. omega (arith, ltb-true _ _ less)) (λ more. omega (arith, ltb-false _ _ more))

chosen_cheap : (best : List Shape) (lists : List (List Shape)) → Each (λ other. price (first_cheapest best lists) ≤ price other) (best ∷ lists)
chosen_cheap best [] = (omega arith, tt)
chosen_cheap best (other ∷ lists) =
    let step = cheaper_than_both best other in
    let rest = chosen_cheap (cheaper best other) lists in
    (le_trans rest.0 step.0, (le_trans rest.0 step.1, rest.1))

-- the first list is chosen where none is cheaper
chosen_stays : (best : List Shape) (lists : List (List Shape)) → price best ≤ price (first_cheapest best lists) → first_cheapest best lists ≡ best
chosen_stays best [] dear = refl
chosen_stays best (other ∷ lists) dear = by (nat_lt (price other) (price best)) refl (chosen_stays best lists) dear
  where
    by : (less : Bool) → nat_lt (price other) (price best) ≡ less → (price best ≤ price (first_cheapest best lists) → first_cheapest best lists ≡ best)
        → price best ≤ price (first_cheapest (cond less other best) lists) → first_cheapest (cond less other best) lists ≡ best
    by true is rest dear = absurd (omega (arith, ltb-true _ _ is, (chosen_cheap other lists).0))
    by false is rest dear = rest dear

-- of those that are as dear as the chosen one none stands in front of it
abbrev IsFirst : List Shape → List Shape → Type 0
IsFirst chosen other = price other ≡ price chosen → NotAfter chosen other

chosen_first : (best : List Shape) (lists : List (List Shape)) → InOrder NotAfter (best ∷ lists) → Each (IsFirst (first_cheapest best lists)) (best ∷ lists)
chosen_first best [] order = ((λ same. NotAfter-itself best), tt)
chosen_first best (other ∷ lists) order = by (nat_lt (price other) (price best)) refl (chosen_first other lists order.1) (chosen_first best lists (order.0.1, order.1.1))
  where
    by : (less : Bool) → nat_lt (price other) (price best) ≡ less → Each (IsFirst (first_cheapest other lists)) (other ∷ lists) → Each (IsFirst (first_cheapest best lists)) (best ∷ lists)
        → Each (IsFirst (first_cheapest (cond less other best) lists)) (best ∷ other ∷ lists)
    by true is later here = ((λ same. absurd (omega (arith, ltb-true _ _ is, (chosen_cheap other lists).0))), later)
    by false is later here = (
      here.0,
      ((λ same. subst (λ list. NotAfter list other) (sym (chosen_stays best lists (omega (arith, ltb-false _ _ is)))) order.0.0), here.1),
    )

passing : (numbers texts : ℕ) (shapes : List Shape) → Holds numbers texts shapes → holds numbers texts shapes ≡ true
passing numbers texts shapes enough = and_from _ _ (le-leb _ _ enough.0) (le-leb _ _ enough.1)

passed : (numbers texts : ℕ) (shapes : List Shape) → holds numbers texts shapes ≡ true → Holds numbers texts shapes
passed numbers texts shapes test = let parts = and_parts _ _ test in (leb-true _ _ parts.0, leb-true _ _ parts.1)

-- the lists of which the cover is the first of the cheapest
abbrev lists_that_hold : ℕ → ℕ → List (List Shape)
lists_that_hold numbers texts = filter (holds numbers texts) (lists_of (numbers + texts) all_shapes)

those_hold : (numbers texts : ℕ) → Each (Holds numbers texts) (lists_that_hold numbers texts)
those_hold numbers texts =
    let passes = filter_passes (holds numbers texts) (lists_of (numbers + texts) all_shapes) in
    Each-weaker (λ shapes. holds numbers texts shapes ≡ true) (Holds numbers texts) (passed numbers texts) (lists_that_hold numbers texts) passes

those_ascend : (numbers texts : ℕ) → Each Ascends (lists_that_hold numbers texts)
those_ascend numbers texts = Each-filter Ascends (holds numbers texts) (lists_of (numbers + texts) all_shapes) (lists_ascend (numbers + texts))

those_in_order : (numbers texts : ℕ) → InOrder NotAfter (lists_that_hold numbers texts)
those_in_order numbers texts = InOrder-filter NotAfter (holds numbers texts) (lists_of (numbers + texts) all_shapes) (lists_in_order (numbers + texts))

among_those : (numbers texts : ℕ) (list : List Shape) → Holds numbers texts list → Ascends list → length list ≤ numbers + texts → Among list (lists_that_hold numbers texts)
among_those numbers texts list enough ascends few =
    Among-filter (holds numbers texts) list (lists_of (numbers + texts) all_shapes) (passing numbers texts list enough) (listed (numbers + texts) list few ascends)

-- what holds so many without a chunk too much, sorted
thin_list : (numbers texts : ℕ) (shapes : List Shape) → Holds numbers texts shapes
    → (thin : List Shape) × Among thin (lists_that_hold numbers texts) × Thins numbers texts shapes thin
thin_list numbers texts shapes enough =
    let found = thinned numbers texts shapes enough in
    let number = sum_by-sorted numbers_of found.0 in
    let text = sum_by-sorted texts_of found.0 in
    let dear = sum_by-sorted price_of found.0 in
    let long = length-sorted found.0 in
    let few : length (sorted found.0) ≤ numbers + texts = omega arith in
    let hold : Holds numbers texts (sorted found.0) = (omega arith, omega arith) in (
      sorted found.0,
      among_those numbers texts (sorted found.0) hold (Ascends-sorted found.0) few,
      record { holds = hold; few = few; shorter = omega arith; cheaper = omega arith },
    )

-- one chunk for each column
abbrev one_each : ℕ → ℕ → List Shape
one_each numbers texts = replicate numbers C1 ++ replicate texts C2

one_each_holds : (numbers texts : ℕ) → Holds numbers texts (one_each numbers texts)
one_each_holds numbers texts =
    let number = sum_by-append numbers_of (replicate numbers C1) (replicate texts C2) in
    let text = sum_by-append texts_of (replicate numbers C1) (replicate texts C2) in
    let all_numbers = sum_by-replicate numbers_of numbers C1 in
    let all_texts = sum_by-replicate texts_of texts C2 in
    (omega arith, omega arith)

-- the first of the cheapest of those that hold so many
chosen_is_cover : (numbers texts : ℕ) (lists : List (List Shape)) → lists_that_hold numbers texts ≡ lists → IsCover numbers texts (cheapest_of lists)
chosen_is_cover numbers texts [] are = absurd (subst (Among some.0) are some.1)
  where
    some : (thin : List Shape) × Among thin (lists_that_hold numbers texts) × Thins numbers texts (one_each numbers texts) thin
    some = thin_list numbers texts (one_each numbers texts) (one_each_holds numbers texts)
chosen_is_cover numbers texts (list ∷ lists) are =
    let chosen : List Shape = first_cheapest list lists in
    let hold : Each (Holds numbers texts) (list ∷ lists) = subst (Each (Holds numbers texts)) are (those_hold numbers texts) in
    let ascend : Each Ascends (list ∷ lists) = subst (Each Ascends) are (those_ascend numbers texts) in
    let order : InOrder NotAfter (list ∷ lists) = subst (InOrder NotAfter) are (those_in_order numbers texts) in
    record {
      holds = chosen_keeps (Holds numbers texts) list lists hold.0 hold.1;
      ascends = chosen_keeps Ascends list lists ascend.0 ascend.1;
      cheapest = cheapest;
      first = λ other enough ascends as_dear.
          let thin = thin_list numbers texts other enough in
          let least = cheap thin.0 thin.1 in
          let among = among_those numbers texts other enough ascends (omega (arith, thin.2)) in
          Each-at (IsFirst chosen) other (list ∷ lists) (chosen_first list lists order) (subst (Among other) are among) as_dear;
    }
  where
    cheap : (other : List Shape) → Among other (lists_that_hold numbers texts) → price (first_cheapest list lists) ≤ price other
    cheap other among = Each-at (λ other. price (first_cheapest list lists) ≤ price other) other (list ∷ lists) (chosen_cheap list lists) (subst (Among other) are among)

    cheapest : (other : List Shape) → Holds numbers texts other → price (first_cheapest list lists) ≤ price other
    cheapest other enough =
        let thin = thin_list numbers texts other enough in
        let least = cheap thin.0 thin.1 in
        omega (arith, thin.2)

pub cover_is_one : (numbers texts : ℕ) → IsCover numbers texts (cover_of numbers texts)
cover_is_one numbers texts = chosen_is_cover numbers texts (lists_that_hold numbers texts) refl
