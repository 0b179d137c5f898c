-- Laws of scans of a lent store.
use Rattle.std.proofs.Common.{ℕ, IsTrue, List, refl, ◌∙◌}
use Rattle.mt_machine.specs.Meaning as machine
use Rattle.mt_machine.specs.Calls.{Before}
use Rattle.mt_machine.specs.LeavesLaws.{looks_itself, looks_then}
use Rattle.mt_chunkstore.specs.declared.store.Store.{Store}
use Rattle.mt_chunkstore.specs.Lent.{LentScanned}

-- no scan
pub lent_itself : (store : Store) (m : machine.Meaning) → (IsTrue m.tells_moments → IsTrue m.tells)
    → (IsTrue m.tells_moments → (image : machine.Disk) (out : List ℕ) → m.since m.clock image out → Before m image out) → LentScanned store store m m
lent_itself store m told only_now = record {
  same = record { journal = refl; pages = refl; layouts = refl; directory = refl; used = refl };
  looks = looks_itself m told only_now;
}

-- two stretches of scans
pub lent_both : {a b c : Store} {first second third : machine.Meaning} → LentScanned a b first second → LentScanned b c second third → LentScanned a c first third
lent_both one two = record {
  same = record {
    journal = two.same.journal ∙ one.same.journal;
    pages = two.same.pages ∙ one.same.pages;
    layouts = two.same.layouts ∙ one.same.layouts;
    directory = two.same.directory ∙ one.same.directory;
    used = two.same.used ∙ one.same.used;
  };
  looks = looks_then one.looks two.looks;
}
