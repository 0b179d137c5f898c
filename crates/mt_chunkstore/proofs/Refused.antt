-- No step of a group is refused where the changes may be made.
use Rattle.std.proofs.Common.{◌≡◌, ◌⊎◌, inl, inr, ℕ, ◌+◌, ◌≤◌, ◌^◌, true, List, [], ◌∷◌, ◌++◌, length, Some, refl, sym, subst, ◌∙◌, arith}
use Rattle.std.proofs.Math.Nat.{le-div_iff_mul-le}
use Rattle.mt_journal.specs.Layout.{Area}
use Rattle.mt_rowfile.specs.declared.layout.Head.TheVariants.{Catalogue}
use Rattle.mt_rowfile.specs.declared.layout.Layout.{Layout}
use Rattle.mt_rowfile.specs.Layouts.{IsLayout, slot_width, slots_per_page}
use Rattle.mt_physplan.specs.declared.change.Change.{Change}
use Rattle.mt_physplan.specs.declared.change.Change.TheVariants.{Put, Mark, Remove, PutCat, RemoveCat}
use Rattle.mt_physplan.specs.Applied.{applied, catalogue_applied}
use Rattle.mt_tables.specs.Rows.{KnownLayouts, catalogue_of, layout_of, rows_of, sizes_of, slot_count_by}
use Rattle.mt_places.specs.Named.{table_of}
use Rattle.mt_places.specs.Places.{PlacesState}
use Rattle.mt_staging.specs.Group.{GroupState, IsGroup, IsLost, NeedsPage, Suits, is_new}
use Rattle.mt_staging.proofs.Effects.{body_small, catalogue_width}
use Rattle.mt_chunkstore.specs.Changes.{IsSuited, IsThere, MayChange, free_at_start}
use Rattle.mt_chunkstore.proofs.Chosen.{new_body, new_row, none_lost, not_full, there_then}

-- a page has room for a slot of the catalogue
catalogue_room : (layout : Layout) (table : ℕ) → IsLayout layout → layout.head ≡ Catalogue table → 1 ≤ slots_per_page layout
catalogue_room layout table sound head =
    let w = catalogue_width layout table sound head in
    let b = body_small table in
    (le-div_iff_mul-le {k = slot_width layout} {x = 1} {y = 4088} (omega (arith, w))).1 (omega (arith, w, b))

-- a page that is wanted for a slot has room for it
pub page_room : (known : KnownLayouts) (layout : Layout) (change : Change) (places : PlacesState) → layout_of known (table_of change) ≡ Some layout → IsLayout layout → Suits layout change → NeedsPage change places → 1 ≤ (sizes_of known).count (table_of change)
page_room known layout (Put table slot) places is sound suits needs = subst (λ found. 1 ≤ slot_count_by found) (sym is) suits.2
page_room known layout (Mark table tenant row mark) places is sound suits needs = absurd needs
page_room known layout (Remove table tenant base chunk row) places is sound suits needs = absurd needs
page_room known layout (PutCat table body) places is sound suits needs = subst (λ found. 1 ≤ slot_count_by found) (sym is) (catalogue_room layout table sound suits.0)
page_room known layout (RemoveCat table body) places is sound suits needs = absurd needs

-- why a change is refused: what it marks or removes does not stand, or no page more may be made
abbrev pub IsRefused : KnownLayouts → ℕ → Change → GroupState → Type 0
IsRefused known count change group = IsLost change group.places ⊎ ((2 ^ 28 ≤ count + length group.added) × NeedsPage change group.places × (1 ≤ (sizes_of known).count (table_of change)))

some_same : (a b : Layout) → Some a ≡ Some b → a ≡ b
some_same a b e = cc

-- a page that is wanted has room
pub refused_room : (known : KnownLayouts) (count : ℕ) (layout : Layout) (change : Change) (group : GroupState) → layout_of known (table_of change) ≡ Some layout → IsLayout layout → IsSuited known change
    → IsLost change group.places ⊎ ((2 ^ 28 ≤ count + length group.added) × NeedsPage change group.places) → IsRefused known count change group
refused_room known count layout change group is sound suited (inl lost) = inl lost
refused_room known count layout change group is sound suited (inr full) =
    let same : suited.layout ≡ layout = some_same suited.layout layout (sym suited.is_known ∙ is) in
    inr (full.0, full.1, page_room known layout change group.places is sound (subst (λ (l : Layout). Suits l change) same suited.suits) full.1)

module _ (known : KnownLayouts) (count : ℕ) (area : Area) (before : List Change) (change : Change) (rest : List Change) (group : GroupState)
    (is : IsGroup known count area (free_at_start known (before ++ change ∷ rest) count area) before group) (may : MayChange known (before ++ change ∷ rest) count area) (small : table_of change ≤ 31) where
  start : ℕ → ℕ
  start = free_at_start known (before ++ change ∷ rest) count area

  stands : IsThere change (applied before (rows_of known area)) (catalogue_applied before (catalogue_of known area))
  stands = (there_then before (change ∷ rest) (rows_of known area) (catalogue_of known area) may.there).0

  -- a slot for which a page is wanted is new
  needs_new : (one : Change) → NeedsPage one group.places → is_new one (applied before (rows_of known area)) (catalogue_applied before (catalogue_of known area)) ≡ true
  needs_new (Put table slot) needs = new_row known count area _ before group is table slot needs.0
  needs_new (Mark table tenant row mark) needs = absurd needs
  needs_new (Remove table tenant base chunk row) needs = absurd needs
  needs_new (PutCat table body) needs = new_body known count area _ before group is table body needs.0
  needs_new (RemoveCat table body) needs = absurd needs

  needs_free : (one : Change) → NeedsPage one group.places → group.places.free (table_of one) ≡ []
  needs_free (Put table slot) needs = needs.1
  needs_free (Mark table tenant row mark) needs = absurd needs
  needs_free (Remove table tenant base chunk row) needs = absurd needs
  needs_free (PutCat table body) needs = needs.1
  needs_free (RemoveCat table body) needs = absurd needs

  step_made : IsRefused known count change group → ⊥
  step_made (inl lost) = none_lost known count area _ before group is change stands lost
  step_made (inr full) =
      let more = not_full known count area _ before group is change rest (λ t. refl) (needs_new change full.1) (needs_free change full.1) (omega (arith, small)) full.2 in
      let few = may.few in
      let many = full.0 in
      omega (arith, more, few, many)

-- none of these changes is refused
pub none_refused : (known : KnownLayouts) (count : ℕ) (area : Area) (changes before : List Change) (change : Change) (rest : List Change) (group : GroupState) → changes ≡ before ++ change ∷ rest
    → IsGroup known count area (free_at_start known changes count area) before group → MayChange known changes count area → table_of change ≤ 31 → IsRefused known count change group → ⊥
none_refused known count area changes before change rest group same is may small refused =
    step_made known count area before change rest group
    (subst (λ (cs : List Change). IsGroup known count area (free_at_start known cs count area) before group) same is) (subst (λ (cs : List Change). MayChange known cs count area) same may) small refused
