-- What a disk holds: the catalogue by which its rows lie, or the first damage. Each check that is passed
-- hands what it found to the next.
use Rattle.std.specs.Prelude.{◌⊎◌, ℕ, zero}
use Rattle.mt_machine.specs.declared.machine.Area.TheVariants.{Log}
use Rattle.mt_machine.specs.Meaning.{Disk}
use Rattle.mt_journal.specs.Chain.{IsDamaged}
use Rattle.mt_journal.specs.Layout.{Area}
use Rattle.mt_journal.specs.Replay.{Replays}
use Rattle.mt_pages.specs.Control.{IsPageZero}
use Rattle.mt_tables.specs.Pages.{page_count}
use Rattle.mt_catalog.specs.State.{State}
use Rattle.mt_image.specs.declared.damage.Damage.{Damage}
use Rattle.mt_image.specs.declared.damage.Damage.TheVariants as damage
use Rattle.mt_image.specs.Fits.{AllFit, FirstUnfit, FitsBase, FitsPage}
use Rattle.mt_image.specs.Rules.{IsCatalogueOf, KeepRowRules}

-- The pages pass every check, and their catalogue is this one.
pub record Holds (pages : Area) (state : State) : Type 0 where
  pub page_zero : IsPageZero pages
  pub pages_fit : AllFit (FitsPage pages) (page_count pages)
  pub catalogue : IsCatalogueOf pages state
  pub bases_fit : AllFit (FitsBase state pages) (page_count pages)
  pub rows : KeepRowRules state pages

-- the disk's log replays to pages that hold the catalogue
abbrev pub IsHeld : Disk → State → Type 0
IsHeld disk state = (pages : Area) × Replays disk pages × Holds pages state

-- the first damage behind a catalogue that reads
abbrev pub FailsRows : Area → State → Damage → Type 0
FailsRows pages state (damage.Page page) = FirstUnfit (FitsBase state pages) (page_count pages) page
FailsRows pages state damage.Rows = AllFit (FitsBase state pages) (page_count pages) × (KeepRowRules state pages → ⊥)
FailsRows pages state damage.Log = ⊥
FailsRows pages state damage.Catalogue = ⊥

-- the first damage behind pages that are fit
abbrev pub FailsCatalogue : Area → Damage → Type 0
FailsCatalogue pages damage.Catalogue = (state : State) → IsCatalogueOf pages state → ⊥
FailsCatalogue pages found = (state : State) × IsCatalogueOf pages state × FailsRows pages state found

-- the first damage behind a page 0 that counts
abbrev pub FailsPages : Area → Damage → Type 0
FailsPages pages (damage.Page page) =
    FirstUnfit (FitsPage pages) (page_count pages) page ⊎ (AllFit (FitsPage pages) (page_count pages) × FailsCatalogue pages (damage.Page page))
FailsPages pages found = AllFit (FitsPage pages) (page_count pages) × FailsCatalogue pages found

-- the first damage of pages
abbrev pub Fails : Area → Damage → Type 0
Fails pages (damage.Page zero) = IsPageZero pages → ⊥
Fails pages found = IsPageZero pages × FailsPages pages found

-- The first damage of a disk.
abbrev pub IsDamageOf : Disk → Damage → Type 0
IsDamageOf disk damage.Log = IsDamaged (disk Log)
IsDamageOf disk found = (pages : Area) × Replays disk pages × Fails pages found
