-- What a stop leaves while the first gate is closed.
use Rattle.std.proofs.Common.{◌≡◌, ℕ, IsTrue, List, [], ◌∷◌, refl, sym, ap, ◌∙◌, subst, arith, ⊎_elim}
use Rattle.std.proofs.lemmas.Bool.{cases_eq, cases_lt}
use Rattle.mt_machine.specs.declared.machine.Area.TheVariants.{Log, Pages}
use Rattle.mt_machine.specs.Meaning.{Disk, Meaning}
use Rattle.mt_machine.specs.Calls.{Torn}
use Rattle.mt_machine.specs.Leaves.{Leaves}
use Rattle.mt_journal.specs.Layout.{Range, IsOpen}
use Rattle.mt_journal.specs.Layout as layout
use Rattle.mt_journal.specs.Chain.{IsChain, StandGroups}
use Rattle.mt_journal.specs.Replay.{with_ranges, all_ranges, Replays}
use Rattle.mt_journal.specs.Commits.{StandsFor, Emptied, ReplaysTo}
use Rattle.mt_journal.specs.Steps.{IsDurable, OldOrFirstGate, ClosesFirst}
use Rattle.mt_machine.specs.LeavesLaws.{leaves_weaker}

-- a chain that ends behind the first gate begins at an open one
groups_open : (log : layout.Area) (groups : List (List Range)) (tail : ℕ) → StandGroups log 0 groups tail → (tail ≡ 0 → ⊥) → IsOpen log 0
groups_open log [] tail stand some = absurd (some (sym stand))
groups_open log (group ∷ groups) tail stand some = stand.1.gate

pub chain_open : (log : layout.Area) (groups : List (List Range)) (tail : ℕ) → IsChain log groups tail → (tail ≡ 0 → ⊥) → IsOpen log 0
chain_open log groups tail chain some = groups_open log groups tail chain.groups_stand some

-- with the first gate closed there is no chain, and the pages are what stands in them
pub closed_chain : (log : layout.Area) → (IsOpen log 0 → ⊥) → IsChain log [] 0
closed_chain log closed = record { groups_stand = refl; closed = closed }

pub closed_replays : (disk : Disk) → (IsOpen (disk Log) 0 → ⊥) → Replays disk (disk Pages)
closed_replays disk closed = record { groups = []; tail = 0; chain = closed_chain (disk Log) closed; replayed = refl }

-- a disk whose pages have all ranges of its log replays as itself with any byte in the first gate
pub first_gate : (start image : Disk) (pages : layout.Area) → Torn Log 0 1 start image → IsOpen (start Log) 0 → Replays start pages → start Pages ≡ pages → Replays image pages
first_gate start image pages torn gate replays whole =
    let same_pages : image Pages ≡ start Pages = torn.other Pages (λ e. cc) in
    ⊎_elim
    (λ lit.
    let each : (k : ℕ) → image Log k ≡ start Log k = λ k. ⊎_elim (λ below. let e : k ≡ 0 = omega arith in rw e (lit ∙ sym gate)) (λ from. torn.after k from) (cases_lt k 1) in
    let same_log : image Log ≡ start Log = λ i k. each k i in
    record {
      groups = replays.groups;
      tail = replays.tail;
      chain = subst (λ (log : layout.Area). IsChain log replays.groups replays.tail) (sym same_log) replays.chain;
      replayed = replays.replayed ∙ ap (with_ranges (all_ranges replays.groups)) (sym same_pages);
    })
    (λ closed. subst (λ (p : layout.Area). Replays image p) (same_pages ∙ whole) (closed_replays image closed))
    (cases_eq (image Log 0) 165)

-- a journal with no group stands for a machine whose disk has all that was written
pub stands_closed : (new : Meaning) → (IsTrue new.tells → IsOpen (new.content Log) 0 → ⊥) → (IsTrue new.tells_moments → IsTrue new.tells) → IsDurable new → StandsFor 0 new
stands_closed new closed both durable = record {
  content = λ t. ([], closed_chain (new.content Log) (closed t));
  chains = λ t image arises groups chain. subst (λ (d : Disk). IsChain (d Log) groups 0) (sym (durable t image arises)) chain;
  replays = λ t image arises. subst (λ (d : Disk). Replays d (new.content Pages)) (sym (durable t image arises)) (closed_replays new.content (closed (both t)));
}

-- a gate that was closed is not open
pub closes_gate : (old new : Meaning) → ClosesFirst old new → IsTrue new.tells → IsOpen (new.content Log) 0 → ⊥
closes_gate old new closes t gate = let shut = closes.closed t in omega (arith, shut, gate)

-- No stop while the first gate is closed changes what the disk replays to.
pub reset_leaves : (tail : ℕ) (old new : Meaning) → StandsFor tail old → (tail ≡ 0 → ⊥) → (IsTrue old.tells_moments → old.images old.content) → Leaves (OldOrFirstGate old) old new
    → Leaves (ReplaysTo (old.content Pages)) old new
reset_leaves tail old new stands some content leaves =
    leaves_weaker (ReplaysTo (old.content Pages)) leaves (λ t image arises.
    let told = leaves.told_moments t in
    let chain = stands.content (leaves.told told.1) in
    ⊎_elim (λ before. stands.replays told.0 image before)
    (λ torn. first_gate old.content image (old.content Pages) torn (chain_open (old.content Log) chain.0 tail chain.1 some) (stands.replays told.0 old.content (content told.0)) refl)
    arises)

pub reset_empties : (old new : Meaning) → Leaves (OldOrFirstGate old) old new → ClosesFirst old new → Emptied old new
reset_empties old new leaves closes = record {
  stands = stands_closed new (closes_gate old new closes) (λ t. (leaves.told_moments t).1) closes.durable;
  pages = λ t. (closes.content t).other Pages (λ e. cc);
  chain = λ t. closed_chain (new.content Log) (closes_gate old new closes t);
}
