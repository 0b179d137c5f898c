-- What opening a store gives.
use Rattle.std.proofs.Common.{◌≡◌, None, sym, ap, subst}
use Rattle.mt_machine.specs.declared.machine.Area.TheVariants.{Pages}
use Rattle.mt_machine.specs.Meaning.{Disk, Meaning}
use Rattle.mt_machine.specs.Leaves.{Looks}
use Rattle.mt_machine.specs.LeavesLaws.{looks_then}
use Rattle.mt_journal.specs.Commits.{Recovered, StandsFor}
use Rattle.mt_journal.specs.Replay.{Replays}
use Rattle.mt_journal.specs.StandsLaws.{stands_after_looks}
use Rattle.mt_tables.specs.Rows.{AreKnown, KnownLayouts}
use Rattle.mt_pages.specs.Standing.{Counts}
use Rattle.mt_directory.specs.Known.{known_in}
use Rattle.mt_chunkstore.specs.declared.store.Store.{Store}
use Rattle.mt_chunkstore.specs.Found.{Surveyed}
use Rattle.mt_chunkstore.specs.Opened.{IsOpened}
use Rattle.mt_chunkstore.specs.StandsLaws.{counts_still, looks_keep}

-- no conventional table is known
none_known : (known : KnownLayouts) → known ≡ (λ table. None) → AreKnown known
none_known known none = subst AreKnown (sym none) (λ table. tt)

-- the log was replayed, page 0 read, and then each page
pub opened : (store : Store) (old first second new : Meaning) → store.journal ≡ 0 → Recovered old first → Looks first second → Counts store.pages second → known_in store.layouts ≡ (λ table. None) → Looks second new
    → Surveyed (known_in store.layouts) store.pages store.directory.tables store.used new → IsOpened store old new
opened store old first second new start recovered one counts none two found =
    let looks = looks_then one two in
    record {
      stands = record {
        journal = subst (λ tail. StandsFor tail new) (sym start) (stands_after_looks recovered.stands looks);
        pages = counts_still counts (looks_keep two);
        sized = found.sized;
        known = none_known (known_in store.layouts) none;
        directory = found.listed;
        used = λ tells table few. found.counted tells table;
      };
      replayed = λ tells. subst (λ (d : Disk). Replays old.content (d Pages)) (sym (looks.content tells)) (recovered.pages (looks.leaves.told tells));
      layouts = λ table. ap (λ (known : KnownLayouts). known table) none;
    }
