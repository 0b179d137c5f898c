-- What a store's standing for a machine outlasts, and what it staged.
use Rattle.std.specs.Prelude.{Result}
use Rattle.std.proofs.Common.{◌≡◌, ℕ, IsTrue, List, sym, ap, subst, ◌∙◌}
use Rattle.mt_machine.specs.declared.machine.Area.TheVariants.{Pages}
use Rattle.mt_machine.specs.Meaning.{Disk, Meaning}
use Rattle.mt_machine.specs.Calls.{Emits}
use Rattle.mt_machine.specs.Leaves.{Looks}
use Rattle.mt_journal.specs.Commits.{StandsFor}
use Rattle.mt_journal.specs.Layout.{Area}
use Rattle.mt_journal.specs.StandsLaws.{stands_after_emit, stands_after_looks}
use Rattle.mt_physplan.specs.declared.change.Change.{Change}
use Rattle.mt_tables.specs.Pages.{page_count}
use Rattle.mt_tables.specs.Rows.{sizes_of}
use Rattle.mt_pages.specs.Control.{IsPageZero}
use Rattle.mt_pages.specs.Standing.{Counts}
use Rattle.mt_directory.specs.Directory.{directory_of}
use Rattle.mt_directory.specs.Known.{known_in}
use Rattle.mt_staging.specs.Group.{GroupState, IsGroup, used_in}
use Rattle.mt_chunkstore.specs.declared.store.Store.{Store}
use Rattle.mt_chunkstore.specs.Changes.{MayChange, free_at_start}
use Rattle.mt_chunkstore.specs.Staged.{IsStaged}
use Rattle.mt_chunkstore.specs.Standing.{Stands}

-- A stretch of calls that leaves each store standing that stood before it: nothing more is told, the pages
-- read as they did, and each journal stands still. Of the log, and of what a stop may leave, the store asks
-- only what its journal does. A stretch that only looks is such a one, and an emit, as is shown below.
pub record KeepsStanding (old new : Meaning) : Type 0 where
  pub told : IsTrue new.tells → IsTrue old.tells
  pub pages : IsTrue new.tells → new.content Pages ≡ old.content Pages
  pub journal : (tail : ℕ) → StandsFor tail old → StandsFor tail new

-- a stretch that changes neither area
pub looks_keep : {old new : Meaning} → Looks old new → KeepsStanding old new
looks_keep looks = record {
  told = looks.leaves.told;
  pages = λ tells. ap (λ (d : Disk). d Pages) (looks.content tells);
  journal = λ tail stands. stands_after_looks stands looks;
}

-- and an emit
pub emit_keeps : {T E : Type 0} {result : Result T E} {bytes : List ℕ} {old new : Meaning} → Emits result bytes old new → KeepsStanding old new
emit_keeps call = record {
  told = call.told;
  pages = λ tells. ap (λ (d : Disk). d Pages) (call.content tells);
  journal = λ tail stands. stands_after_emit stands call;
}

-- the pages count as they did
pub counts_still : {count : ℕ} {old new : Meaning} → Counts count old → KeepsStanding old new → Counts count new
counts_still counts keeps = record {
  page_zero = λ tells. subst IsPageZero (sym (keeps.pages tells)) (counts.page_zero (keeps.told tells));
  counted = λ tells. ap page_count (keeps.pages tells) ∙ counts.counted (keeps.told tells);
}

-- the store stands still
pub stands_still : {store : Store} {old new : Meaning} → Stands store old → KeepsStanding old new → Stands store new
stands_still {store} {old} {new} stands keeps = record {
  journal = keeps.journal store.journal stands.journal;
  pages = counts_still stands.pages keeps;
  sized = stands.sized;
  known = stands.known;
  directory = λ tells. stands.directory (keeps.told tells) ∙ ap (directory_of store.pages) (sym (keeps.pages tells));
  used = λ tells table few. stands.used (keeps.told tells) table few ∙ ap (used_in (sizes_of (known_in store.layouts)) table store.pages) (sym (keeps.pages tells));
}

-- and a group that was staged for it is staged still
pub staged_still : {changes : List Change} {group : GroupState} {store : Store} {old new : Meaning} → IsStaged changes group store old → KeepsStanding old new → IsStaged changes group store new
staged_still {changes} {group} {store} {old} {new} staged keeps = record {
  short = staged.short;
  few = staged.few;
  room = staged.room;
  made = λ tells. subst
      (λ (area : Area). MayChange (known_in store.layouts) changes store.pages area
      → IsGroup (known_in store.layouts) store.pages area (free_at_start (known_in store.layouts) changes store.pages area) changes group)
      (sym (keeps.pages tells)) (staged.made (keeps.told tells));
}
