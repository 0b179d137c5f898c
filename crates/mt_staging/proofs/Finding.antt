-- A free position is found, in the pages or in one that is made.
use Rattle.std.proofs.Common.{◌≡◌, ℕ, zero, suc, ◌+◌, ◌≤◌, Bool, true, false, cond, nat_eq, List, [], ◌∷◌, ◌++◌, length, map, refl, sym, ap, ◌∙◌, inl, inr, arith, subst, length-append}
use Rattle.std.proofs.lemmas.Bool.Decides.{nat_tests}
use Rattle.std.proofs.lemmas.List.FromFn.{length-map-range_with_len}
use Rattle.std.specs.List.{range_with_len}
use Rattle.mt_rowfile.specs.declared.layout.Layout.{Layout}
use Rattle.mt_rowfile.specs.Layouts.{slot_width, slots_per_page}
use Rattle.mt_places.specs.Places.{PlacesState}
use Rattle.mt_tables.specs.Pages.{slot_position}
use Rattle.mt_tables.specs.Plan.{without_first}
use Rattle.mt_staging.specs.Group.{GroupState}
use Rattle.mt_staging.specs.Steps.{FindsFree, MakesPage, TakesFirst, page_made}
use Rattle.mt_staging.proofs.Lists.{none_gone}

-- places of which all fields are the same are one
pub same_places : (a b : PlacesState) → a.named ≡ b.named → a.rows ≡ b.rows → a.bodies ≡ b.bodies → a.free ≡ b.free → a.wanted ≡ b.wanted → a ≡ b
same_places a b named rows bodies free wanted = λ i. record { named = named i; rows = rows i; bodies = bodies i; free = free i; wanted = wanted i }

-- none is left where none was
pub still_none : (table : ℕ) (old new : PlacesState) → old.free table ≡ [] → new.free ≡ without_first table old.free → new.free table ≡ []
still_none table old new none free = ap (λ (f : ℕ → List ℕ). f table) (free ∙ none_gone table old.free none) ∙ none

-- where none was, nothing is taken
pub none_taken : (table : ℕ) (old new : PlacesState) → old.free table ≡ [] → new.named ≡ old.named → new.rows ≡ old.rows → new.bodies ≡ old.bodies → new.free ≡ without_first table old.free → new.wanted ≡ old.wanted → new ≡ old
none_taken table old new none named rows bodies free wanted = same_places new old named rows bodies (free ∙ none_gone table old.free none) wanted

-- a page has a slot, where there is room for one
pub page_has_some : (layout : Layout) (table count : ℕ) (old new : GroupState) → 1 ≤ slots_per_page layout → MakesPage layout table count old new → new.places.free table ≡ [] → ⊥
page_has_some layout table count old new room made none =
    let page = count + length old.added in
    let all : (page_made layout table count old).places.free table ≡ [] = ap (λ (g : GroupState). g.places.free table) (sym made.page) ∙ none in
    let it : nat_eq table table ≡ true = grind (arith, nat_tests) in
    let positions : List ℕ = map (slot_position (slot_width layout) page) (range_with_len 0 (slots_per_page layout)) in
    let size = length-map-range_with_len (slot_position (slot_width layout) page) 0 (slots_per_page layout) in
    let long = length-append (old.places.free table) positions in
    let empty : old.places.free table ++ positions ≡ [] = ap (λ b. cond b (old.places.free table ++ positions) (old.places.free table)) (sym it) ∙ all in
    let nothing : length (old.places.free table ++ positions) ≡ 0 = ap length empty in
    omega (arith, long, size, nothing, room)

-- the first position of a table is taken
pub takes_first : (table position : ℕ) (old new : GroupState) → new.ranges ≡ old.ranges → new.added ≡ old.added → new.taken ≡ old.taken → new.freed ≡ old.freed
    → new.places.named ≡ old.places.named → new.places.rows ≡ old.places.rows → new.places.bodies ≡ old.places.bodies → new.places.free ≡ without_first table old.places.free → new.places.wanted ≡ old.places.wanted
    → (behind : List ℕ) × (old.places.free table ≡ position ∷ behind) → TakesFirst table position old new
takes_first table position old new ranges added taken freed named rows bodies free wanted first = record {
  behind = first.0;
  first = first.1;
  rest = λ i. record { ranges = ranges i; places = record { named = named i; rows = rows i; bodies = bodies i; free = free i; wanted = wanted i }; added = added i; taken = taken i; freed = freed i };
}

-- it is one of a page that was made
pub finds_page : (layout : Layout) (table count position : ℕ) (old before mid new : GroupState) → MakesPage layout table count before mid → before ≡ old → TakesFirst table position mid new → FindsFree layout table count position old new
finds_page layout table count position old before mid new made same first = inr (mid, subst (λ g. MakesPage layout table count g mid) same made, first)
