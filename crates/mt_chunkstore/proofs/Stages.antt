-- What is staged stands for the store, and why it was not.
use Rattle.std.proofs.Common.{◌≡◌, ℕ, ◌≤◌, ◌^◌, IsTrue, List, length, Result, Ok, Err, refl, sym, ap, subst, ◌∙◌, arith}
use Rattle.std.specs.Prelude.{IsErr, IsErrOf}
use Rattle.std.proofs.lemmas.Bool.{false≢true}
use Rattle.mt_machine.specs.declared.machine.Area.TheVariants.{Pages}
use Rattle.mt_machine.specs.Meaning.{Disk, Meaning}
use Rattle.mt_machine.specs.Leaves.{Looks}
use Rattle.mt_journal.specs.Commits.{StandsFor}
use Rattle.mt_journal.specs.Layout.{Area}
use Rattle.mt_physplan.specs.declared.change.Change.{Change}
use Rattle.mt_tables.specs.Pages.{page_count}
use Rattle.mt_tables.specs.Rows.{ArePages, KnownLayouts}
use Rattle.mt_pages.specs.Standing.{Counts}
use Rattle.mt_directory.specs.Directory.{directory_of}
use Rattle.mt_directory.specs.Known.{known_in}
use Rattle.mt_places.specs.Places.{PlacesState}
use Rattle.mt_staging.specs.Group.{GroupState}
use Rattle.mt_staging.specs.declared.fault.StageFault.{StageFault}
use Rattle.mt_staging.specs.declared.fault.StageFault.TheVariants as faults
use Rattle.mt_chunkstore.specs.declared.store.Store.{Store}
use Rattle.mt_chunkstore.specs.Changes.{MayChange, free_at_start}
use Rattle.mt_chunkstore.specs.Staged.{IsStaged, StageCause}
use Rattle.mt_chunkstore.specs.Standing.{Stands}
use Rattle.mt_chunkstore.specs.StandsLaws.{looks_keep, stands_still}
use Rattle.mt_chunkstore.specs.Walked.{Begins, IsChosen, IsFound, IsWalked}
use Rattle.mt_chunkstore.proofs.Begun.{group_begins}

-- a stretch that looks, and room in the directory, leave the store standing
pub stands_kept : (store after : Store) (old new : Meaning) → after.journal ≡ store.journal → after.pages ≡ store.pages → after.layouts ≡ store.layouts → after.directory.tables ≡ store.directory.tables → after.used ≡ store.used
    → Stands store old → Looks old new → Stands after new
stands_kept store after old new journal pages layouts tables used before looks =
    let stands = stands_still before (looks_keep looks) in
    record {
      journal = subst (λ tail. StandsFor tail new) (sym journal) stands.journal;
      pages = subst (λ count. Counts count new) (sym pages) stands.pages;
      sized = rw (tables, pages) stands.sized;
      known = rw layouts stands.known;
      directory = λ tells. rw (tables, pages) (stands.directory tells);
      used = λ tells table few. rw (used, layouts, pages) (stands.used tells table few);
    }

-- what was found begins as a group of no changes
pub found_begins : (known : KnownLayouts) (changes : List Change) (tables : List ℕ) (count : ℕ) (machine : Meaning) (places : PlacesState) → IsFound known changes count tables count machine places
    → IsTrue machine.tells → tables ≡ directory_of count (machine.content Pages) → ArePages known (machine.content Pages) → page_count (machine.content Pages) ≡ count → count ≤ 2 ^ 28
    → Begins known count (machine.content Pages) (free_at_start known changes count (machine.content Pages)) places
found_begins known changes tables count machine places found tells listed pages counted upto = λ fresh empty.
    group_begins known (machine.content Pages) count changes found.begun fresh pages counted upto found.begins
    (subst (λ (ps : PlacesState). IsWalked known (machine.content Pages) count found.begun ps) (sym empty.places_are) (found.walked tells listed)) empty.ranges empty.added empty.taken empty.freed

-- the group that was chosen is staged
pub staged_is : (changes : List Change) (group : GroupState) (places : PlacesState) (store : Store) (machine : Meaning) → Stands store machine → length changes ≤ 2 ^ 22
    → IsFound (known_in store.layouts) changes store.pages store.directory.tables store.pages machine places → IsChosen (known_in store.layouts) changes store.pages places group → length group.added ≤ store.directory.room
    → IsStaged changes group store machine
staged_is changes group places store machine stands few found chosen room =
    let small = chosen.small in
    let upto = chosen.few in
    record {
      short = omega (arith, small, few);
      few = upto;
      room = room;
      made = λ tells may. chosen.chosen (machine.content Pages) (free_at_start (known_in store.layouts) changes store.pages (machine.content Pages))
          (found_begins (known_in store.layouts) changes store.directory.tables store.pages machine places found tells (stands.directory tells) may.pages (stands.pages.counted tells) (omega (arith, upto)));
    }

-- a choice fails where the changes may not be made, or memory is wanting
pub cause_chosen : {U : Type 0} (r : Result U StageFault) (known : KnownLayouts) (changes : List Change) (count : ℕ) (tables : List ℕ) (places : PlacesState) (old new : Meaning)
    → Looks old new → new.disk_faults ≡ old.disk_faults → (IsTrue old.tells → tables ≡ directory_of count (old.content Pages)) → Counts count old → IsFound known changes count tables count new places
    → IsErr r → (IsErrOf r faults.Disk → (area : Area) → Begins known count area (free_at_start known changes count area) places → MayChange known changes count area → ⊥) → StageCause r known changes count old new
cause_chosen {U} r known changes count tables places old new looks none listed counts found err never = by r err never
  where
    by : (r : Result U StageFault) → IsErr r → (IsErrOf r faults.Disk → (area : Area) → Begins known count area (free_at_start known changes count area) places → MayChange known changes count area → ⊥) → StageCause r known changes count old new
    by (Ok x) err never = absurd (false≢true err)
    by (Err faults.Disk) err never = λ both.
        let tells = both.0 in
        let may = both.1 in
        let told = looks.leaves.told tells in
        let few = may.few in
        let same : new.content ≡ old.content = looks.content tells in
        let again : MayChange known changes count (new.content Pages) = subst (λ (d : Disk). MayChange known changes count (d Pages)) (sym same) may in
        let begins = found_begins known changes tables count new places found tells (listed told ∙ ap (λ (d : Disk). directory_of count (d Pages)) (sym same)) again.pages (ap (λ (d : Disk). page_count (d Pages)) same ∙ counts.counted told) (omega (arith, few)) in
        absurd (never refl (new.content Pages) begins again)
    by (Err faults.Memory) err never = none
