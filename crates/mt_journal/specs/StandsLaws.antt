-- What a journal's standing for a machine outlasts, and that it is a way of keeping.
use Rattle.std.specs.Prelude.{Result}
use Rattle.std.proofs.Common.{◌≡◌, ℕ, IsTrue, List, sym, subst}
use Rattle.mt_machine.specs.declared.machine.Area.TheVariants.{Log, Pages}
use Rattle.mt_machine.specs.Meaning.{Disk, Meaning}
use Rattle.mt_machine.specs.Calls.{Emits}
use Rattle.mt_machine.specs.Leaves.{Looks}
use Rattle.mt_machine.specs.Keeps.{Keeps}
use Rattle.mt_journal.specs.Layout.{Range}
use Rattle.mt_journal.specs.Chain.{IsChain}
use Rattle.mt_journal.specs.Replay.{Replays}
use Rattle.mt_journal.specs.Commits.{StandsFor, HasChain, MayLeave}

-- where the content stays and no new image arises
stands_alike : {tail : ℕ} {old new : Meaning} → StandsFor tail old → (IsTrue new.tells → IsTrue old.tells) → (IsTrue new.tells_moments → IsTrue old.tells_moments × IsTrue new.tells)
    → (IsTrue new.tells → new.content ≡ old.content) → (IsTrue new.tells_moments → (image : Disk) → new.images image → old.images image) → StandsFor tail new
stands_alike {tail} {old} {new} stands told told_moments same was = record {
  content = λ tells. subst (HasChain tail) (sym (same tells)) (stands.content (told tells));
  chains = λ tells image is.
      subst (λ (content : Disk). (groups : List (List Range)) → IsChain (content Log) groups tail → IsChain (image Log) groups tail) (sym (same (told_moments tells).1))
      (stands.chains (told_moments tells).0 image (was tells image is));
  replays = λ tells image is. subst (λ (content : Disk). Replays image (content Pages)) (sym (same (told_moments tells).1)) (stands.replays (told_moments tells).0 image (was tells image is));
}

-- a stretch that changes neither area leaves the journal standing
pub stands_after_looks : {tail : ℕ} {old new : Meaning} → StandsFor tail old → Looks old new → StandsFor tail new
stands_after_looks stands looks = stands_alike stands looks.leaves.told looks.leaves.told_moments looks.content looks.leaves.now

-- and so does an emit
pub stands_after_emit : {T E : Type 0} {result : Result T E} {bytes : List ℕ} {tail : ℕ} {old new : Meaning} → StandsFor tail old → Emits result bytes old new → StandsFor tail new
stands_after_emit stands call = stands_alike stands call.told call.time.told call.content (λ tells image is. (call.images tells image).0 is)

-- A journal stands for a machine just where the machine keeps a chain with the journal's tail.
pub stands_keeps : {tail : ℕ} {machine : Meaning} → (IsTrue machine.tells_moments → IsTrue machine.tells) → StandsFor tail machine → Keeps (HasChain tail) (MayLeave tail) machine
stands_keeps told stands = record {
  told = told;
  content = stands.content;
  images = λ tells image is. (stands.chains tells image is, stands.replays tells image is);
}

pub keeps_stands : {tail : ℕ} {machine : Meaning} → Keeps (HasChain tail) (MayLeave tail) machine → StandsFor tail machine
keeps_stands keeps = record {
  content = keeps.content;
  chains = λ tells image is. (keeps.images tells image is).0;
  replays = λ tells image is. (keeps.images tells image is).1;
}
