-- The changes so far, and the group of one more.
use Rattle.std.proofs.Common.{◌≡◌, ℕ, ◌+◌, ◌≤◌, ◌^◌, List, [], ◌∷◌, ◌++◌, take, drop, length, All, Some, refl, sym, ap, subst, ◌∙◌, arith, length-append}
use Rattle.std.specs.Prelude.{slice_get}
use Rattle.std.proofs.lemmas.List.{take-append-drop, take_more}
use Rattle.std.proofs.lemmas.Option.{get_or_from_slice_get, slice_get_within}
use Rattle.mt_journal.specs.Commits.{payload_size}
use Rattle.mt_journal.specs.Layout.{Area}
use Rattle.mt_physplan.specs.declared.change.Change.{Change}
use Rattle.mt_tables.specs.Rows.{KnownLayouts}
use Rattle.mt_places.specs.Places.{PlacesState}
use Rattle.mt_staging.specs.Group.{GroupState, IsGroup}
use Rattle.mt_staging.specs.States.{IsEmptyGroup}
use Rattle.mt_chunkstore.specs.Walked.{IsChosen}

-- what holds of each member holds of the one at a number
pub all_at : {X : Type 0} (P : X → Type 0) (xs : List X) (i : ℕ) (x : X) → All P xs → slice_get xs i ≡ Some x → P x
all_at P xs i x all is = subst P (get_or_from_slice_get xs i x x is) (all i x (slice_get_within xs i x is))

-- one member more
pub taken_more : {X : Type 0} (xs : List X) (i : ℕ) (x : X) → slice_get xs i ≡ Some x → take (i + 1) xs ≡ take i xs ++ x ∷ []
taken_more xs i x is = take_more xs i x (slice_get_within xs i x is) ∙ ap (λ y. take i xs ++ y ∷ []) (get_or_from_slice_get xs i x x is)

-- those before a member, itself, and those behind
pub parted : {X : Type 0} (xs : List X) (i : ℕ) (x : X) → slice_get xs i ≡ Some x → xs ≡ take i xs ++ x ∷ drop (i + 1) xs
parted xs i x is = sym (take-append-drop (i + 1) xs) ∙ ap (λ (front : List _). front ++ drop (i + 1) xs) (taken_more xs i x is) ∙ regroup (take i xs) x (drop (i + 1) xs)
  where
    regroup : {X : Type 0} (front : List X) (x : X) (rest : List X) → (front ++ x ∷ []) ++ rest ≡ front ++ x ∷ rest
    regroup [] x rest = refl
    regroup (y ∷ front) x rest = ap (λ (zs : List _). y ∷ zs) (regroup front x rest)

-- no change was added yet
pub chosen_none : (known : KnownLayouts) (count : ℕ) (places : PlacesState) (group : GroupState) → IsEmptyGroup places group → count ≤ 2 ^ 28 → IsChosen known [] count places group
chosen_none known count places group is upto = record {
  small = (let l = ap payload_size is.ranges in omega arith);
  short = (let l = ap length is.ranges in omega arith);
  few = (let l = ap length is.added in omega (arith, l, upto));
  chosen = λ area start begins. begins group is;
}

-- one more was added
pub chosen_more : (known : KnownLayouts) (count : ℕ) (places : PlacesState) (old new : GroupState) (before more : List Change) (change : Change) → IsChosen known before count places old → more ≡ before ++ change ∷ []
    → length new.ranges ≤ length old.ranges + 3 → payload_size new.ranges ≤ payload_size old.ranges + 12324 → (count + length old.added ≤ 2 ^ 28 → count + length new.added ≤ 2 ^ 28)
    → ((area : Area) (start : ℕ → ℕ) (changes : List Change) → IsGroup known count area start changes old → IsGroup known count area start (changes ++ change ∷ []) new)
    → IsChosen known more count places new
chosen_more known count places old new before more change is same three size pages step =
    let longer : length more ≡ length before + 1 = ap length same ∙ length-append before (change ∷ []) in
    let small = is.small in
    let short = is.short in
    record {
      small = omega (arith, longer, small, size);
      short = omega (arith, longer, short, three);
      few = pages is.few;
      chosen = λ area start begins. subst (λ (cs : List Change). IsGroup known count area start cs new) (sym same) (step area start before (is.chosen area start begins));
    }
