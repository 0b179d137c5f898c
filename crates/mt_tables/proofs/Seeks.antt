-- A walk page by page for the keys that are asked for, and for free positions.
use Rattle.std.proofs.Common.{◌≡◌, ◌≢◌, ℕ, ◌&&◌, nat_eq, Bool, true, false, cond, List, [], ◌∷◌, ◌++◌, map, drop, filter, zip, All, is_some, Option, None, Some, refl, sym, ap, ◌∙◌, arith}
use Rattle.std.specs.List.{AllByRecursion, range_with_len}
use Rattle.std.proofs.lemmas.Bool.Decides.{nat_tests}
use Rattle.std.proofs.lemmas.List.{map-append}
use Rattle.std.proofs.lemmas.List.Elements.{All-from_recursion, All-head, All-tail, filter-append}
use Rattle.std.proofs.lemmas.List.Sums.{fold-append}
use Rattle.std.specs.declared.cmp.Ordering.{Ordering}
use Rattle.std.specs.Cmp.{IsTotalOrder}
use Rattle.std.specs.FinMap as finite
use Rattle.std.specs.Ordering.{eq_by_cmp}
use Rattle.mt_rowfile.specs.Pages.{is_free, slots_in}
use Rattle.mt_tables.specs.Pages.{SlotSizes, place_in}
use Rattle.mt_tables.specs.Plan.{PlacedSlot, free_in, placed_in, sought, with_place}
use Rattle.mt_tables.specs.Tables.{TableSlot}
use Rattle.mt_tables.proofs.OneSlot.{tied_are_one}

-- a slot of a table that stands at a place of it
abbrev IsOf : ℕ → PlacedSlot → Type 0
IsOf table slot = (slot.0.table ≡ table) × (slot.1.0 ≡ table)

-- the slots of a page are all of its table
places_of_table : (sizes : SlotSizes) (table page : ℕ) (numbers : List ℕ) (slots : List (List ℕ))
    → AllByRecursion (IsOf table) (zip (map (place_in sizes table page) numbers) (map (λ slot. (table, slot)) slots))
places_of_table sizes table page [] slots = tt
places_of_table sizes table page (number ∷ numbers) [] = tt
places_of_table sizes table page (number ∷ numbers) (slot ∷ slots) = ((refl, refl), places_of_table sizes table page numbers slots)

both_of_table : (sizes : SlotSizes) (table page : ℕ) (bytes : List ℕ) → All (IsOf table) (placed_in sizes table page bytes)
both_of_table sizes table page bytes =
    All-from_recursion (IsOf table) (placed_in sizes table page bytes) (places_of_table sizes table page (range_with_len 0 (sizes.count table)) (slots_in (sizes.width table) (sizes.count table) (drop 8 bytes)))

pub placed_of_table : (sizes : SlotSizes) (table page : ℕ) (bytes : List ℕ) → All (λ slot. slot.1.0 ≡ table) (placed_in sizes table page bytes)
placed_of_table sizes table page bytes = λ i d within. (both_of_table sizes table page bytes i d within).1

-- free positions in two parts
pub free_in_then : (table : ℕ) (xs ys : List PlacedSlot) → free_in table (xs ++ ys) ≡ free_in table xs ++ free_in table ys
free_in_then table xs ys =
    ap (map (λ slot. slot.0.position)) (filter-append (λ slot. nat_eq slot.0.table table && is_free slot.1.1) xs ys)
    ∙ map-append (λ slot. slot.0.position) (filter (λ slot. nat_eq slot.0.table table && is_free slot.1.1) xs) (filter (λ slot. nat_eq slot.0.table table && is_free slot.1.1) ys)

none_of_table : (table other : ℕ) → table ≢ other → (slots : List PlacedSlot) → All (IsOf table) slots → free_in other slots ≡ []
none_of_table table other apart [] all = refl
none_of_table table other apart (slot ∷ slots) all =
    ap (λ b. map (λ slot. slot.0.position) (cond (b && is_free slot.1.1) (slot ∷ filter (λ slot. nat_eq slot.0.table other && is_free slot.1.1) slots) (filter (λ slot. nat_eq slot.0.table other && is_free slot.1.1) slots)))
    (by (nat_eq slot.0.table other) refl)
    ∙ none_of_table table other apart slots (All-tail (IsOf table) slot slots all)
  where
    by : (b : Bool) → nat_eq slot.0.table other ≡ b → b ≡ false
    by true e = let same : slot.0.table ≡ other = grind (arith, nat_tests, e) in absurd (apart (sym (All-head (IsOf table) slot slots all).0 ∙ same))
    by false e = refl

-- a page of one table has no slots of another
pub free_elsewhere : (sizes : SlotSizes) (table other page : ℕ) (bytes : List ℕ) → table ≢ other → free_in other (placed_in sizes table page bytes) ≡ []
free_elsewhere sizes table other page bytes apart = none_of_table table other apart (placed_in sizes table page bytes) (both_of_table sizes table page bytes)

module _ {K V : Type 0} {R : K → K → Ordering} (read : TableSlot → Option (K × V)) where
  -- a look at slots in two parts
  pub sought_then : (xs ys : List PlacedSlot) (index : finite.FinMap R (Option ℕ)) → sought read (xs ++ ys) index ≡ sought read ys (sought read xs index)
  sought_then xs ys index = fold-append (λ index slot. with_place (read slot.1) slot.0.position index) index xs ys

  -- slots that say nothing
  pub sought_silent : (slots : List PlacedSlot) (index : finite.FinMap R (Option ℕ)) → All (λ slot. read slot.1 ≡ None) slots → sought read slots index ≡ index
  sought_silent [] index all = refl
  sought_silent (slot ∷ slots) index all = ap (λ e. sought read slots (with_place e slot.0.position index)) (All-head (λ slot. read slot.1 ≡ None) slot slots all)
      ∙ sought_silent slots index (All-tail (λ slot. read slot.1 ≡ None) slot slots all)

  -- slots of a table of which no key is asked for
  pub sought_elsewhere : (table_of : K → ℕ) → ((slot : TableSlot) (e : K × V) → read slot ≡ Some e → table_of e.0 ≡ slot.0) → (table : ℕ) (slots : List PlacedSlot) (index : finite.FinMap R (Option ℕ))
      → All (λ slot. slot.1.0 ≡ table) slots → ((key : K) → table_of key ≡ table → finite.get index key ≡ None) → sought read slots index ≡ index
  sought_elsewhere table_of of_table table [] index all lacks = refl
  sought_elsewhere table_of of_table table (slot ∷ slots) index all lacks = ap (sought read slots) (by (read slot.1) refl) ∙ sought_elsewhere table_of of_table table slots index (All-tail (λ slot. slot.1.0 ≡ table) slot slots all) lacks
    where
      by : (e : Option (K × V)) → read slot.1 ≡ e → with_place e slot.0.position index ≡ index
      by None is = refl
      by (Some e) is = ap (λ found. cond (is_some found) (finite.insert index e.0 (Some slot.0.position)) index) (lacks e.0 (of_table slot.1 e is ∙ All-head (λ slot. slot.1.0 ≡ table) slot slots all))

  -- a look enters no key that is not asked for
  pub sought_lacks : IsTotalOrder R → finite.IsAntisymmetric R → (slots : List PlacedSlot) (index : finite.FinMap R (Option ℕ)) (key : K) → finite.get index key ≡ None → finite.get (sought read slots index) key ≡ None
  sought_lacks o exact [] index key none = none
  sought_lacks o exact (slot ∷ slots) index key none = sought_lacks o exact slots (with_place (read slot.1) slot.0.position index) key (by (read slot.1))
    where
      inner : (e : K × V) (b t : Bool) → finite.contains_key index e.0 ≡ b → eq_by_cmp R key e.0 ≡ t → finite.get (cond b (finite.insert index e.0 (Some slot.0.position)) index) key ≡ None
      inner e true true asked tied =
          let h : finite.contains_key index e.0 ≡ false = ap is_some (ap (finite.get index) (sym (tied_are_one exact key e.0 tied)) ∙ none) in
          cc
      inner e true false asked apart = finite.get-insert o index e.0 (Some slot.0.position) key ∙ ap (λ t. cond t (Some (Some slot.0.position)) (finite.get index key)) apart ∙ none
      inner e false t asked tied = none

      by : (e : Option (K × V)) → finite.get (with_place e slot.0.position index) key ≡ None
      by None = none
      by (Some e) = inner e (finite.contains_key index e.0) (eq_by_cmp R key e.0) refl refl
