-- A disk holds one catalogue, or has one first damage.
use Rattle.std.proofs.Common.{◌≡◌, ◌⊎◌, inl, inr, ℕ, zero, suc, ◌<◌, Bool, true, false, nat_lt, Option, Some, List, [], ◌∷◌, map, refl, sym, ap, ◌∙◌, subst, arith, ltb-true, ltb-false}
use Rattle.std.specs.Prelude.{filter_map}
use Rattle.mt_machine.specs.declared.machine.Area.TheVariants.{Log}
use Rattle.mt_machine.specs.Meaning.{Disk}
use Rattle.mt_journal.specs.Chain.{IsDamaged}
use Rattle.mt_journal.specs.Layout.{Area}
use Rattle.mt_journal.specs.Replay.{Replays}
use Rattle.mt_journal.proofs.Chains.{damaged_none}
use Rattle.mt_journal.proofs.Replaying.{replays_unique}
use Rattle.mt_pages.specs.Control.{IsPageZero}
use Rattle.mt_tables.specs.Pages.{page_count}
use Rattle.mt_catslot.specs.declared.slot.CatSlot.{CatSlot}
use Rattle.mt_catalog.specs.Reading.{ReadAs}
use Rattle.mt_catalog.specs.Slots.{slot_of}
use Rattle.mt_catalog.specs.State.{State}
use Rattle.mt_catalog.proofs.Catalogues.{catalogue_is_found}
use Rattle.mt_catalog.proofs.Keys.{same_by_key}
use Rattle.mt_catalog.proofs.OneCatalogue.{one_found}
use Rattle.mt_image.specs.declared.damage.Damage.{Damage}
use Rattle.mt_image.specs.declared.damage.Damage.TheVariants as damage
use Rattle.mt_image.specs.Fits.{AllFit, FirstUnfit, FitsBase, FitsPage}
use Rattle.mt_image.specs.Image.{Fails, FailsCatalogue, FailsPages, FailsRows, Holds, IsDamageOf, IsHeld}
use Rattle.mt_image.specs.Rules.{IsCatalogueOf, KeepRowRules}

-- what bodies say is said of one list of slots
said_once : (slots other : List CatSlot) → map (λ slot. Some slot) slots ≡ map (λ slot. Some slot) other → slots ≡ other
said_once slots other e = sym (taken slots) ∙ ap (filter_map (λ (said : Option CatSlot). said)) e ∙ taken other
  where
    taken : (slots : List CatSlot) → filter_map (λ (said : Option CatSlot). said) (map (λ slot. Some slot) slots) ≡ slots
    taken [] = refl
    taken (slot ∷ slots) = ap (λ (rest : List CatSlot). slot ∷ rest) (taken slots)

pub one_catalogue : (pages : Area) (a b : State) → IsCatalogueOf pages a → IsCatalogueOf pages b → a ≡ b
one_catalogue pages a b is other =
    let slots = said_once is.said.slots other.said.slots (sym is.said.said ∙ other.said.said) in
    let read : ReadAs is.said.slots b = subst (λ (s : List CatSlot). ReadAs s b) (sym slots) other.said.read in
    one_found (slot_of a) a b (catalogue_is_found (slot_of a) a (record { rules = is.rules; same = λ key. refl }))
    (catalogue_is_found (slot_of a) b (record { rules = other.rules; same = same_by_key is.said.slots a b is.said.read read }))

pub one_held : (disk : Disk) (a b : State) → IsHeld disk a → IsHeld disk b → a ≡ b
one_held disk a b (pages, replays, holds) (others, more, same) =
    one_catalogue pages a b holds.catalogue (subst (λ (p : Area). IsCatalogueOf p b) (replays_unique disk others pages more replays) same.catalogue)

-- a first unfit page is one
module _ (fits : ℕ → Type 0) (count : ℕ) where
  not_before : (page other : ℕ) → FirstUnfit fits count page → FirstUnfit fits count other → page < other → ⊥
  not_before page other first second less = first.unfit (second.before page first.from less)

  one_unfit : (page other : ℕ) → FirstUnfit fits count page → FirstUnfit fits count other → page ≡ other
  one_unfit page other first second = by (nat_lt page other) (nat_lt other page) refl refl
    where
      by : (a b : Bool) → nat_lt page other ≡ a → nat_lt other page ≡ b → page ≡ other
      by true b e f = absurd (not_before page other first second (ltb-true page other e))
      by false true e f = absurd (not_before other page second first (ltb-true other page f))
      by false false e f =
          let upper = ltb-false page other e in
          let lower = ltb-false other page f in
          omega (arith, upper, lower)

  not_unfit : (page : ℕ) → FirstUnfit fits count page → AllFit fits count → ⊥
  not_unfit page first all = first.unfit (all page first.from first.within)

-- the last two checks
abbrev AtRows : Area → State → Damage → Type 0
AtRows pages state found =
    ((page : ℕ) × (found ≡ damage.Page page) × FirstUnfit (FitsBase state pages) (page_count pages) page)
    ⊎ ((found ≡ damage.Rows) × AllFit (FitsBase state pages) (page_count pages) × (KeepRowRules state pages → ⊥))

at_rows : (pages : Area) (state : State) (found : Damage) → FailsRows pages state found → AtRows pages state found
at_rows pages state (damage.Page page) fails = inl (page, refl, fails)
at_rows pages state damage.Rows fails = inr (refl, fails.0, fails.1)
at_rows pages state damage.Log fails = absurd fails
at_rows pages state damage.Catalogue fails = absurd fails

one_of_rows : (pages : Area) (state : State) (a b : Damage) → AtRows pages state a → AtRows pages state b → a ≡ b
one_of_rows pages state a b (inl (page, e, first)) (inl (other, f, second)) = e ∙ ap damage.Page (one_unfit (FitsBase state pages) (page_count pages) page other first second) ∙ sym f
one_of_rows pages state a b (inl (page, e, first)) (inr (f, all, none)) = absurd (not_unfit (FitsBase state pages) (page_count pages) page first all)
one_of_rows pages state a b (inr (e, all, none)) (inl (page, f, first)) = absurd (not_unfit (FitsBase state pages) (page_count pages) page first all)
one_of_rows pages state a b (inr (e, all, none)) (inr (f, more, never)) = e ∙ sym f

-- the check of the catalogue
abbrev AtCatalogue : Area → Damage → Type 0
AtCatalogue pages found =
    ((found ≡ damage.Catalogue) × ((state : State) → IsCatalogueOf pages state → ⊥))
    ⊎ ((state : State) × IsCatalogueOf pages state × AtRows pages state found)

at_catalogue : (pages : Area) (found : Damage) → FailsCatalogue pages found → AtCatalogue pages found
at_catalogue pages damage.Catalogue fails = inl (refl, fails)
at_catalogue pages damage.Log (state, is, fails) = inr (state, is, at_rows pages state damage.Log fails)
at_catalogue pages (damage.Page page) (state, is, fails) = inr (state, is, at_rows pages state (damage.Page page) fails)
at_catalogue pages damage.Rows (state, is, fails) = inr (state, is, at_rows pages state damage.Rows fails)

one_of_catalogue : (pages : Area) (a b : Damage) → AtCatalogue pages a → AtCatalogue pages b → a ≡ b
one_of_catalogue pages a b (inl (e, none)) (inl (f, never)) = e ∙ sym f
one_of_catalogue pages a b (inl (e, none)) (inr (state, is, at)) = absurd (none state is)
one_of_catalogue pages a b (inr (state, is, at)) (inl (f, none)) = absurd (none state is)
one_of_catalogue pages a b (inr (state, is, at)) (inr (other, same, more)) =
    one_of_rows pages state a b at (subst (λ (s : State). AtRows pages s b) (one_catalogue pages other state same is) more)

-- the check of each page
abbrev AtPages : Area → Damage → Type 0
AtPages pages found =
    ((page : ℕ) × (found ≡ damage.Page page) × FirstUnfit (FitsPage pages) (page_count pages) page)
    ⊎ (AllFit (FitsPage pages) (page_count pages) × AtCatalogue pages found)

at_pages : (pages : Area) (found : Damage) → FailsPages pages found → AtPages pages found
at_pages pages (damage.Page page) (inl first) = inl (page, refl, first)
at_pages pages (damage.Page page) (inr (all, fails)) = inr (all, at_catalogue pages (damage.Page page) fails)
at_pages pages damage.Log (all, fails) = inr (all, at_catalogue pages damage.Log fails)
at_pages pages damage.Catalogue (all, fails) = inr (all, at_catalogue pages damage.Catalogue fails)
at_pages pages damage.Rows (all, fails) = inr (all, at_catalogue pages damage.Rows fails)

one_of_pages : (pages : Area) (a b : Damage) → AtPages pages a → AtPages pages b → a ≡ b
one_of_pages pages a b (inl (page, e, first)) (inl (other, f, second)) = e ∙ ap damage.Page (one_unfit (FitsPage pages) (page_count pages) page other first second) ∙ sym f
one_of_pages pages a b (inl (page, e, first)) (inr (all, at)) = absurd (not_unfit (FitsPage pages) (page_count pages) page first all)
one_of_pages pages a b (inr (all, at)) (inl (page, f, first)) = absurd (not_unfit (FitsPage pages) (page_count pages) page first all)
one_of_pages pages a b (inr (all, at)) (inr (more, same)) = one_of_catalogue pages a b at same

-- the check of page 0
abbrev AtZero : Area → Damage → Type 0
AtZero pages found = ((found ≡ damage.Page zero) × (IsPageZero pages → ⊥)) ⊎ (IsPageZero pages × AtPages pages found)

at_zero : (pages : Area) (found : Damage) → Fails pages found → AtZero pages found
at_zero pages (damage.Page zero) fails = inl (refl, fails)
at_zero pages (damage.Page (suc page)) (is, fails) = inr (is, at_pages pages (damage.Page (suc page)) fails)
at_zero pages damage.Log (is, fails) = inr (is, at_pages pages damage.Log fails)
at_zero pages damage.Catalogue (is, fails) = inr (is, at_pages pages damage.Catalogue fails)
at_zero pages damage.Rows (is, fails) = inr (is, at_pages pages damage.Rows fails)

one_of_zero : (pages : Area) (a b : Damage) → AtZero pages a → AtZero pages b → a ≡ b
one_of_zero pages a b (inl (e, none)) (inl (f, never)) = e ∙ sym f
one_of_zero pages a b (inl (e, none)) (inr (is, at)) = absurd (none is)
one_of_zero pages a b (inr (is, at)) (inl (f, none)) = absurd (none is)
one_of_zero pages a b (inr (is, at)) (inr (more, same)) = one_of_pages pages a b at same

-- the check of the log
abbrev AtLog : Disk → Damage → Type 0
AtLog disk found = ((found ≡ damage.Log) × IsDamaged (disk Log)) ⊎ ((pages : Area) × Replays disk pages × AtZero pages found)

at_log : (disk : Disk) (found : Damage) → IsDamageOf disk found → AtLog disk found
at_log disk damage.Log fails = inl (refl, fails)
at_log disk (damage.Page page) (pages, replays, fails) = inr (pages, replays, at_zero pages (damage.Page page) fails)
at_log disk damage.Catalogue (pages, replays, fails) = inr (pages, replays, at_zero pages damage.Catalogue fails)
at_log disk damage.Rows (pages, replays, fails) = inr (pages, replays, at_zero pages damage.Rows fails)

not_both : (disk : Disk) (pages : Area) → IsDamaged (disk Log) → Replays disk pages → ⊥
not_both disk pages damaged replays = damaged_none (disk Log) replays.groups replays.tail damaged replays.chain

one_of_log : (disk : Disk) (a b : Damage) → AtLog disk a → AtLog disk b → a ≡ b
one_of_log disk a b (inl (e, damaged)) (inl (f, more)) = e ∙ sym f
one_of_log disk a b (inl (e, damaged)) (inr (pages, replays, at)) = absurd (not_both disk pages damaged replays)
one_of_log disk a b (inr (pages, replays, at)) (inl (f, damaged)) = absurd (not_both disk pages damaged replays)
one_of_log disk a b (inr (pages, replays, at)) (inr (others, more, same)) =
    one_of_zero pages a b at (subst (λ (p : Area). AtZero p b) (replays_unique disk others pages more replays) same)

pub one_damage : (disk : Disk) (a b : Damage) → IsDamageOf disk a → IsDamageOf disk b → a ≡ b
one_damage disk a b is other = one_of_log disk a b (at_log disk a is) (at_log disk b other)

-- pages that hold a catalogue pass each check
sound_rows : (pages : Area) (state : State) (found : Damage) → Holds pages state → AtRows pages state found → ⊥
sound_rows pages state found holds (inl (page, e, first)) = not_unfit (FitsBase state pages) (page_count pages) page first holds.bases_fit
sound_rows pages state found holds (inr (e, all, none)) = none holds.rows

sound_catalogue : (pages : Area) (state : State) (found : Damage) → Holds pages state → AtCatalogue pages found → ⊥
sound_catalogue pages state found holds (inl (e, none)) = none state holds.catalogue
sound_catalogue pages state found holds (inr (other, is, at)) =
    sound_rows pages state found holds (subst (λ (s : State). AtRows pages s found) (one_catalogue pages other state is holds.catalogue) at)

sound_pages : (pages : Area) (state : State) (found : Damage) → Holds pages state → AtZero pages found → ⊥
sound_pages pages state found holds (inl (e, none)) = none holds.page_zero
sound_pages pages state found holds (inr (is, inl (page, e, first))) = not_unfit (FitsPage pages) (page_count pages) page first holds.pages_fit
sound_pages pages state found holds (inr (is, inr (all, at))) = sound_catalogue pages state found holds at

sound_disk : (disk : Disk) (state : State) (found : Damage) → IsHeld disk state → AtLog disk found → ⊥
sound_disk disk state found (pages, replays, holds) (inl (e, damaged)) = not_both disk pages damaged replays
sound_disk disk state found (pages, replays, holds) (inr (others, more, at)) =
    sound_pages pages state found holds (subst (λ (p : Area). AtZero p found) (replays_unique disk others pages more replays) at)

pub not_damaged : (disk : Disk) (state : State) (found : Damage) → IsHeld disk state → IsDamageOf disk found → ⊥
not_damaged disk state found held is = sound_disk disk state found held (at_log disk found is)
