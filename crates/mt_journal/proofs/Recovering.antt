-- What a stop leaves while a log is replayed and emptied.
use Rattle.std.proofs.Common.{◌≡◌, ℕ, IsTrue, List, refl, sym, ap, ◌∙◌, subst, inl, inr, ⊎_elim}
use Rattle.mt_machine.specs.declared.machine.Area.TheVariants.{Log, Pages}
use Rattle.mt_machine.specs.Meaning.{Disk, Meaning}
use Rattle.mt_machine.specs.Calls.{Torn}
use Rattle.mt_machine.specs.Leaves.{Leaves, Looks}
use Rattle.mt_journal.specs.Layout.{Range, IsOpen}
use Rattle.mt_journal.specs.Layout as layout
use Rattle.mt_journal.specs.Chain.{IsChain, IsDamaged}
use Rattle.mt_journal.specs.Replay.{with_ranges, all_ranges, Replays}
use Rattle.mt_journal.specs.Commits.{Recovered, OldOrReplays, KeepsReplay}
use Rattle.mt_journal.specs.Steps.{IsQuiet, IsDurable, SameReplay, Places, ArePlaced, OldOrFirstGate, ClosesFirst}
use Rattle.mt_journal.specs.Walk.{ToldChain}
use Rattle.mt_machine.specs.LeavesLaws.{leaves_then, leaves_weaker}
use Rattle.mt_journal.proofs.Chains.{damaged_none}
use Rattle.mt_journal.proofs.Replaying.{same_none, same_replays, replays_to}
use Rattle.mt_journal.proofs.Emptying.{chain_open, closed_chain, first_gate, stands_closed, closes_gate}

-- what is known of a stretch only where moments are told
pub leaves_told : (has : Disk → Type 0) (old new : Meaning) → IsQuiet old new → (IsTrue new.tells_moments → Leaves has old new) → Leaves has old new
leaves_told has old new quiet leaves = record {
  told = quiet.told;
  told_moments = quiet.told_moments;
  output = quiet.output;
  disk_faults = quiet.disk_faults;
  emit_faults = quiet.emit_faults;
  later = quiet.later;
  now = λ t. (leaves t).now t;
  each = λ t. (leaves t).each t;
  before = λ t. (leaves t).before t;
  keeps = quiet.keeps;
}

-- a look leaves what a sync made durable
pub durable_looks : (old new : Meaning) → Looks old new → IsDurable old → IsDurable new
durable_looks old new looks durable t image arises =
    let told = looks.leaves.told_moments t in
    durable told.0 image (looks.leaves.now t image arises) ∙ sym (looks.content told.1)

-- the chain that was found is that of the machine before the sync
pub chain_found : (old synced read : Meaning) → Looks old synced → Looks synced read → (end : ℕ)
    → (IsTrue read.tells → (groups : List (List Range)) × IsChain (synced.content Log) groups end) → IsTrue read.tells → (groups : List (List Range)) × IsChain (old.content Log) groups end
chain_found old synced read one two end found t =
    let chain = found t in
    (chain.0, subst (λ (d : Disk). IsChain (d Log) chain.0 end) (one.content (two.leaves.told t)) chain.1)

-- From the start on the machine was looked at, and from then on what was read is what is on the disk.
module _ (old read new : Meaning) (end : ℕ) (looks : Looks old read) (durable : IsDurable read) (found : IsTrue read.tells → (groups : List (List Range)) × IsChain (old.content Log) groups end)
    (quiet : IsQuiet read new) (places : (groups : List (List Range)) → ToldChain read groups end → Places (all_ranges groups) read new) where
  told_chain : (t : IsTrue read.tells) → IsChain (read.content Log) (found t).0 end
  told_chain t = subst (λ (d : Disk). IsChain (d Log) (found t).0 end) (sym (looks.content t)) (found t).1

  -- each image since has the log that was read, and comes to the same pages
  same_leaves : (t : IsTrue read.tells) → Leaves (SameReplay (all_ranges (found t).0) read.content) read new
  same_leaves t =
      let all = all_ranges (found t).0 in
      (places (found t).0 (λ _. told_chain t)).leaves all read.content (λ range here. here)
      (λ moments image arises. subst (λ (d : Disk). SameReplay all read.content d) (sym (durable moments image arises)) (same_none all read.content))

  -- what the disk replays to
  replayed : IsTrue read.tells → layout.Area
  replayed t = with_ranges (all_ranges (found t).0) (old.content Pages)

  old_replays : (t : IsTrue read.tells) → Replays old.content (replayed t)
  unfolding replayed
  old_replays t = record { groups = (found t).0; tail = end; chain = (found t).1; replayed = refl }

  same_replayed : (t : IsTrue read.tells) (image : Disk) → SameReplay (all_ranges (found t).0) read.content image → (pages : layout.Area) → Replays old.content pages → Replays image pages
  same_replayed t image same pages replays =
      same_replays read.content image pages (found t).0 end (told_chain t) same (subst (λ (d : Disk). Replays d pages) (sym (looks.content t)) replays)

  -- No stop while the ranges are written changes what the disk replays to.
  pub replay_leaves : Leaves (OldOrReplays old) old new
  replay_leaves =
      let has_old = leaves_weaker (OldOrReplays old) looks.leaves (λ t image arises. inl arises) in
      let since = leaves_told (OldOrReplays old) read new quiet (λ moments.
      let t = quiet.told (quiet.told_moments moments).1 in
      leaves_weaker (OldOrReplays old) (same_leaves t) (λ _ image same. inr (replayed t, old_replays t, same_replayed t image same (replayed t) (old_replays t)))) in
      leaves_then has_old since (λ _ _ has. has)

  -- nor does the content since then
  content_same : (t : IsTrue new.tells) → SameReplay (all_ranges (found (quiet.told t)).0) read.content new.content
  content_same t =
      let groups = (found (quiet.told t)).0 in
      let here = places groups (λ _. told_chain (quiet.told t)) in
      record { log = here.log t; pages = here.pages t (all_ranges groups) (λ range among. among) }

  never_damaged : IsTrue read.tells → IsDamaged (old.content Log) → ⊥
  never_damaged t damaged = damaged_none (old.content Log) (found t).0 end damaged (found t).1

  pub replay_keeps : IsTrue new.tells → KeepsReplay old.content new.content
  replay_keeps t = record {
    replays = λ pages replays. same_replayed (quiet.told t) new.content (content_same t) pages replays;
    damaged = λ damaged. absurd (never_damaged (quiet.told t) damaged);
  }

  module _ (last : Meaning) (some : end ≡ 0 → ⊥) (placed : (groups : List (List Range)) → ToldChain read groups end → ArePlaced (all_ranges groups) read new) where
    pages_are : (t : IsTrue new.tells) → new.content Pages ≡ with_ranges (all_ranges (found (quiet.told t)).0) (read.content Pages)
    pages_are t = placed (found (quiet.told t)).0 (λ _. told_chain (quiet.told t)) t

    -- any byte in the first gate leaves what the disk replays to
    torn_replays : (t : IsTrue new.tells) (image : Disk) → Torn Log 0 1 new.content image → (pages : layout.Area) → Replays old.content pages → Replays image pages
    torn_replays t image torn pages replays =
        let before = quiet.told t in
        let same = content_same t in
        let start = subst (λ (d : Disk). Replays d pages) (sym (looks.content before)) replays in
        let whole : new.content Pages ≡ pages = pages_are t ∙ sym (replays_to read.content pages (found before).0 end (told_chain before) start) in
        let gate : IsOpen (new.content Log) 0 = ap (λ (log : layout.Area). log 0) same.log ∙ chain_open (read.content Log) (found before).0 end (told_chain before) some in
        first_gate new.content image pages torn gate (same_replayed before new.content same pages replays) whole

    -- and none while the log is emptied
    pub close_leaves : Leaves (OldOrFirstGate new) new last → Leaves (OldOrReplays old) old last
    close_leaves leaves = leaves_then replay_leaves leaves (λ moments image arises.
        let told = leaves.told_moments moments in
        let t = leaves.told told.1 in
        let before = quiet.told t in
        ⊎_elim (λ earlier. replay_leaves.now told.0 image earlier)
        (λ torn. inr (replayed before, old_replays before, torn_replays t image torn (replayed before) (old_replays before)))
        arises)

    pub close_keeps : Leaves (OldOrFirstGate new) new last → (IsTrue last.tells → Torn Log 0 1 new.content last.content) → IsTrue last.tells → KeepsReplay old.content last.content
    close_keeps leaves torn t =
        let told = leaves.told t in
        record {
          replays = torn_replays told last.content (torn t);
          damaged = λ damaged. absurd (never_damaged (quiet.told told) damaged);
        }

    pub close_recovers : Leaves (OldOrFirstGate new) new last → ClosesFirst new last → Recovered old last
    close_recovers leaves closes = record {
      stands = stands_closed last (closes_gate new last closes) (λ t. (leaves.told_moments t).1) closes.durable;
      pages = λ t.
          let told = leaves.told t in
          let before = quiet.told told in
          let pages : last.content Pages ≡ with_ranges (all_ranges (found before).0) (old.content Pages) =
          (closes.content t).other Pages (λ e. cc) ∙ pages_are told ∙ ap (λ (d : Disk). with_ranges (all_ranges (found before).0) (d Pages)) (looks.content before) in
          record { groups = (found before).0; tail = end; chain = (found before).1; replayed = pages };
      chain = λ t. closed_chain (last.content Log) (closes_gate new last closes t);
    }
