-- A group becomes part of the chain once its gate is open.
use Rattle.std.proofs.Common.{◌≡◌, ℕ, ◌+◌, ◌^◌, ◌<◌, ◌≤◌, IsTrue, List, [], ◌∷◌, ◌++◌, length, sym, ap, ◌∙◌, subst, arith, inl, inr, ⊎_elim, length-append}
use Rattle.std.specs.Prelude.{All, flat_map}
use Rattle.std.proofs.lemmas.Bool.{cases_eq}
use Rattle.std.proofs.lemmas.List.{get_or-append-add}
use Rattle.std.proofs.Math.ListN.{get_or-append}
use Rattle.std.proofs.lemmas.List.Elements.{All-head, All-tail}
use Rattle.byteorder.specs.Endian.{little_bytes}
use Rattle.byteorder.specs.Numbers.{length-bytes_low_first}
use Rattle.mt_machine.specs.declared.machine.Area.TheVariants.{Log, Pages}
use Rattle.mt_machine.specs.Meaning.{Disk, Meaning}
use Rattle.mt_machine.specs.Calls.{Torn}
use Rattle.mt_machine.specs.Leaves.{Leaves}
use Rattle.mt_journal.specs.Layout.{Area, Range, StandAt, IsRangeAt, AreRangesAt, IsGroupAt, IsOpen, range_size}
use Rattle.mt_journal.specs.Chain.{IsChain, StandGroups}
use Rattle.mt_journal.specs.Replay.{with_ranges, all_ranges, Replays}
use Rattle.mt_journal.specs.Commits.{StandsFor, Committed, ReplaysToEither, payload_size}
use Rattle.mt_journal.specs.Spelling.{Fits, spelling_of_range, spelling_of}
use Rattle.mt_journal.specs.Steps.{IsQuiet, IsDurable, Changes, IsBehind, SameReplay, Places, ArePlaced, Among}
use Rattle.mt_journal.proofs.Chains.{chain_same, groups_push, groups_same}
use Rattle.mt_machine.specs.LeavesLaws.{leaves_then, leaves_weaker}
use Rattle.mt_journal.proofs.Numbers.{number_stands, number_above}
use Rattle.mt_journal.proofs.Replaying.{all_ranges_push, among_right, replays_to, same_none, same_replays, with_ranges-append}
use Rattle.mt_journal.proofs.Recovering.{leaves_told}
use Rattle.mt_journal.proofs.Spelled.{length-spelling_of, length-spelling_of_range}

-- bytes that stand in two parts
stand_left : (area : Area) (at : ℕ) (one two : List ℕ) → StandAt area at (one ++ two) → StandAt area at one
stand_left area at one two stand k h = stand k (omega (arith, h, length-append one two)) ∙ get_or-append one two 0 k h

stand_right : (area : Area) (at : ℕ) (one two : List ℕ) → StandAt area at (one ++ two) → StandAt area (at + length one) two
stand_right area at one two stand k h =
    let e : at + length one + k ≡ at + (length one + k) = omega arith in
    ap area e ∙ stand (length one + k) (omega (arith, h, length-append one two)) ∙ get_or-append-add one two k 0

stand_at : (area : Area) (at to : ℕ) (bytes : List ℕ) → at ≡ to → StandAt area at bytes → StandAt area to bytes
stand_at area at to bytes same stand = subst (λ (n : ℕ). StandAt area n bytes) same stand

-- a range that is spelled stands
range_stands : (log : Area) (at : ℕ) (range : Range) → Fits range → StandAt log at (spelling_of_range range) → IsRangeAt log at range
range_stands log at range fits stand =
    let head = little_bytes 8 range.position ++ little_bytes 4 (length range.bytes) in
    let position_size = length-bytes_low_first 0 8 range.position in
    let count_size = length-bytes_low_first 0 4 (length range.bytes) in
    let head_size : length head ≡ 12 = omega (arith, length-append (little_bytes 8 range.position) (little_bytes 4 (length range.bytes)), position_size, count_size) in
    let head_stands = stand_left log at head range.bytes stand in
    let count_at : at + length (little_bytes 8 range.position) ≡ at + 8 = omega (arith, position_size) in
    let bytes_at : at + length head ≡ at + 12 = omega (arith, head_size) in
    record {
      position = number_stands 8 log at range.position (omega (arith, fits.within)) (stand_left log at (little_bytes 8 range.position) (little_bytes 4 (length range.bytes)) head_stands);
      count = number_stands 4 log (at + 8) (length range.bytes) (omega (arith, fits.short))
          (stand_at log _ (at + 8) (little_bytes 4 (length range.bytes)) count_at (stand_right log at (little_bytes 8 range.position) (little_bytes 4 (length range.bytes)) head_stands));
      bytes = stand_at log _ (at + 12) range.bytes bytes_at (stand_right log at head range.bytes stand);
      within = fits.within;
    }

-- and so do ranges one after another
ranges_stand : (log : Area) (at : ℕ) (ranges : List Range) → All Fits ranges → StandAt log at (flat_map spelling_of_range ranges) → AreRangesAt log at ranges (at + length (flat_map spelling_of_range ranges))
ranges_stand log at [] fit stand = omega arith
ranges_stand log at (range ∷ ranges) fit stand =
    let rest = flat_map spelling_of_range ranges in
    let size = length-spelling_of_range range in
    let next : at + length (spelling_of_range range) ≡ at + range_size range = omega (arith, size) in
    let behind = stand_at log _ (at + range_size range) rest next (stand_right log at (spelling_of_range range) rest stand) in
    let all : length (spelling_of_range range ++ rest) ≡ length (spelling_of_range range) + length rest = length-append (spelling_of_range range) rest in
    let end : at + range_size range + length rest ≡ at + length (spelling_of_range range ++ rest) = omega (arith, all, size) in (
      range_stands log at range (All-head Fits range ranges fit) (stand_left log at (spelling_of_range range) rest stand),
      subst (λ (n : ℕ). AreRangesAt log (at + range_size range) ranges n) end (ranges_stand log (at + range_size range) ranges (All-tail Fits range ranges fit) behind),
    )

-- What was written behind a gate is a group once the gate is open.
pub behind_group : (log : Area) (at : ℕ) (ranges : List Range) → All Fits ranges → length ranges < 2 ^ 32 → at + 9 + payload_size ranges < 2 ^ 42 → IsBehind log at (spelling_of ranges) → IsOpen log at
    → IsGroupAt log at ranges (at + 9 + payload_size ranges)
behind_group log at ranges fit few within behind gate =
    let count = little_bytes 4 (length ranges) in
    let rest = flat_map spelling_of_range ranges in
    let size = length-spelling_of ranges in
    let count_size = length-bytes_low_first 0 4 (length ranges) in
    let all = length-append count rest in
    let next : at + 9 + length count ≡ at + 13 = omega (arith, count_size) in
    let payload = stand_at log _ (at + 13) rest next (stand_right log (at + 9) count rest behind.payload_stands) in
    let end : at + 13 + length rest ≡ at + 9 + payload_size ranges = omega (arith, all, size, count_size) in
    record {
      gate = gate;
      size = ap (λ (n : ℕ). at + 9 + n) (behind.size ∙ size);
      count = number_stands 4 log (at + 9) (length ranges) (omega (arith, few)) (stand_left log (at + 9) count rest behind.payload_stands);
      payload = subst (λ (n : ℕ). AreRangesAt log (at + 13) ranges n) end (ranges_stand log (at + 13) ranges fit payload);
      within = within;
    }

-- behind it stands the next gate, which is closed
pub behind_chain : (log : Area) (groups : List (List Range)) (tail : ℕ) (ranges : List Range) → StandGroups log 0 groups tail → All Fits ranges → length ranges < 2 ^ 32 → tail + 9 + payload_size ranges < 2 ^ 42
    → IsBehind log tail (spelling_of ranges) → IsOpen log tail → IsChain log (groups ++ ranges ∷ []) (tail + 9 + payload_size ranges)
behind_chain log groups tail ranges stand fit few within behind gate =
    let size = length-spelling_of ranges in
    let next : tail + 9 + length (spelling_of ranges) ≡ tail + 9 + payload_size ranges = omega (arith, size) in
    record {
      groups_stand = groups_push log 0 groups tail ranges (tail + 9 + payload_size ranges) stand (behind_group log tail ranges fit few within behind gate);
      closed = λ lit. let shut : log (tail + 9 + payload_size ranges) ≡ 0 = ap log (sym next) ∙ behind.next in omega (arith, shut, lit);
    }

-- what stands behind a gate does not depend on it
pub behind_same : (log other : Area) (at : ℕ) (payload : List ℕ) → ((k : ℕ) → at < k → other k ≡ log k) → IsBehind log at payload → IsBehind other at payload
behind_same log other at payload same behind = record {
  size = number_above 8 log other (at + 1) (λ k h. same k (omega arith)) ∙ behind.size;
  payload_stands = λ k h. same (at + 9 + k) (omega arith) ∙ behind.payload_stands k h;
  next = same (at + 9 + length payload) (omega arith) ∙ behind.next;
}

-- a disk replays as before with any bytes behind its last gate
torn_behind : (before image : Disk) (pages : Area) (groups : List (List Range)) (tail n : ℕ) → IsChain (before Log) groups tail → Replays before pages → Torn Log (tail + 1) n before image → Replays image pages
torn_behind before image pages groups tail n chain replays torn = record {
  groups = groups;
  tail = tail;
  chain = chain_same (before Log) (image Log) groups tail (λ k h. torn.before k (omega arith)) chain;
  replayed = replays_to before pages groups tail chain replays ∙ ap (with_ranges (all_ranges groups)) (sym (torn.other Pages (λ e. cc)));
}

-- A group was written behind the gate at the end of a chain.
module _ (groups : List (List Range)) (tail : ℕ) (ranges : List Range) (fit : All Fits ranges) (few : length ranges < 2 ^ 32) (within : tail + 9 + payload_size ranges < 2 ^ 42) where
  -- with the gate open it belongs to the chain
  opened : (start image : Area) → StandGroups start 0 groups tail → IsBehind start tail (spelling_of ranges) → ((k : ℕ) → k < tail → image k ≡ start k) → ((k : ℕ) → tail + 1 ≤ k → image k ≡ start k)
      → IsOpen image tail → IsChain image (groups ++ ranges ∷ []) (tail + 9 + payload_size ranges)
  opened start image stand behind below above gate =
      behind_chain image groups tail ranges (groups_same start image 0 groups tail below stand) fit few within (behind_same start image tail (spelling_of ranges) (λ k h. above k (omega arith)) behind) gate

  -- and its ranges come on top of those of the others
  opened_replays : (image : Disk) (pages : Area) → IsChain (image Log) (groups ++ ranges ∷ []) (tail + 9 + payload_size ranges) → image Pages ≡ pages → with_ranges (all_ranges groups) pages ≡ pages
      → Replays image (with_ranges ranges pages)
  opened_replays image pages chain same whole = record {
    groups = groups ++ ranges ∷ [];
    tail = tail + 9 + payload_size ranges;
    chain = chain;
    replayed =
        ap (with_ranges ranges) (sym whole)
        ∙ sym (with_ranges-append (all_ranges groups) ranges pages)
        ∙ ap (λ (l : List Range). with_ranges l pages) (sym (all_ranges_push groups ranges))
        ∙ ap (with_ranges (all_ranges (groups ++ ranges ∷ []))) (sym same);
  }

  -- any byte in the gate leaves the group out, or makes it whole
  either : (start image : Disk) (pages : Area) → IsChain (start Log) groups tail → IsBehind (start Log) tail (spelling_of ranges) → start Pages ≡ pages → with_ranges (all_ranges groups) pages ≡ pages
      → Torn Log tail 1 start image → ReplaysToEither pages (with_ranges ranges pages) image
  either start image pages chain behind same whole torn =
      let image_pages : image Pages ≡ pages = torn.other Pages (λ e. cc) ∙ same in
      ⊎_elim
      (λ gate. inr (opened_replays image pages (opened (start Log) (image Log) chain.groups_stand behind torn.before torn.after gate) image_pages whole))
      (λ shut. inl (record {
        groups = groups;
        tail = tail;
        chain = record { groups_stand = groups_same (start Log) (image Log) 0 groups tail torn.before chain.groups_stand; closed = shut };
        replayed = sym whole ∙ ap (with_ranges (all_ranges groups)) (sym image_pages);
      }))
      (cases_eq (image Log tail) 165)

-- A commit, call by call: the group is written, its gate is opened, its ranges are placed.
module _ (tail : ℕ) (ranges : List Range) (old written : Meaning) (n : ℕ) (stands : StandsFor tail old) (first : IsTrue old.tells_moments → old.images old.content)
    (writes : Changes Log (tail + 1) n old written) where
  -- what a stop leaves before the gate is written
  pub written_leaves : Leaves (ReplaysToEither (old.content Pages) (with_ranges ranges (old.content Pages))) old written
  written_leaves = leaves_weaker _ writes.leaves (λ t image torn.
      let told = writes.leaves.told_moments t in
      let chain = stands.content (writes.leaves.told told.1) in
      inl (torn_behind torn.0 image (old.content Pages) chain.0 tail n (stands.chains told.0 torn.0 torn.1 chain.0 chain.1) (stands.replays told.0 torn.0 torn.1) torn.2))

  module _ (opened_at : Meaning) (fit : All Fits ranges) (few : length ranges < 2 ^ 32) (within : tail + 9 + payload_size ranges < 2 ^ 42)
      (behind : IsTrue written.tells → IsBehind (written.content Log) tail (spelling_of ranges)) (durable : IsDurable written) (opens : Changes Log tail 1 written opened_at) where
    written_chain : (t : IsTrue written.tells) (groups : List (List Range)) → IsChain (old.content Log) groups tail → IsChain (written.content Log) groups tail
    written_chain t groups chain = chain_same (old.content Log) (written.content Log) groups tail (λ k h. (writes.content t).before k (omega arith)) chain

    written_pages : IsTrue written.tells → written.content Pages ≡ old.content Pages
    written_pages t = (writes.content t).other Pages (λ e. cc)

    whole : IsTrue old.tells_moments → (groups : List (List Range)) → IsChain (old.content Log) groups tail → with_ranges (all_ranges groups) (old.content Pages) ≡ old.content Pages
    whole t groups chain = sym (replays_to old.content (old.content Pages) groups tail chain (stands.replays t old.content (first t)))

    -- what a stop leaves while the gate is written
    pub opened_leaves : Leaves (ReplaysToEither (old.content Pages) (with_ranges ranges (old.content Pages))) old opened_at
    opened_leaves = leaves_then written_leaves opens.leaves (λ t image torn.
        let told_written = opens.leaves.told_moments t in
        let at_written = opens.leaves.told told_written.1 in
        let told_old = writes.leaves.told_moments told_written.0 in
        let chain = stands.content (writes.leaves.told at_written) in
        let is = durable told_written.0 torn.0 torn.1 in
        either chain.0 tail ranges fit few within written.content image (old.content Pages) (written_chain at_written chain.0 chain.1) (behind at_written) (written_pages at_written)
        (whole told_old.0 chain.0 chain.1) (subst (λ (d : Disk). Torn Log tail 1 d image) is torn.2))

    module _ (new : Meaning) (gate : IsTrue opened_at.tells → opened_at.content Log tail ≡ 165) (durable_open : IsDurable opened_at) (quiet : IsQuiet opened_at new) (places : Places ranges opened_at new) where
      opened_chain : (t : IsTrue opened_at.tells) (groups : List (List Range)) → IsChain (old.content Log) groups tail → IsChain (opened_at.content Log) (groups ++ ranges ∷ []) (tail + 9 + payload_size ranges)
      opened_chain t groups chain =
          let told = opens.leaves.told t in
          let torn = opens.content t in
          opened groups tail ranges fit few within (written.content Log) (opened_at.content Log) (written_chain told groups chain).groups_stand (behind told) torn.before torn.after (gate t)

      opened_pages : IsTrue opened_at.tells → opened_at.content Pages ≡ old.content Pages
      opened_pages t = (opens.content t).other Pages (λ e. cc) ∙ written_pages (opens.leaves.told t)

      -- since the gate was opened each image has the log with the group, and comes to the same pages
      placed_same : (groups : List (List Range)) → Leaves (SameReplay (all_ranges (groups ++ ranges ∷ [])) opened_at.content) opened_at new
      placed_same groups =
          let all = all_ranges (groups ++ ranges ∷ []) in
          places.leaves all opened_at.content
          (λ range here. subst (λ (l : List Range). Among range l) (sym (all_ranges_push groups ranges)) (among_right range (all_ranges groups) ranges here))
          (λ t image arises. subst (λ (d : Disk). SameReplay all opened_at.content d) (sym (durable_open t image arises)) (same_none all opened_at.content))

      placed_replays : IsTrue opened_at.tells_moments → (t : IsTrue opened_at.tells) (groups : List (List Range)) → IsChain (old.content Log) groups tail → (image : Disk)
          → SameReplay (all_ranges (groups ++ ranges ∷ [])) opened_at.content image → Replays image (with_ranges ranges (old.content Pages))
      placed_replays moments t groups chain image same =
          let told = opens.leaves.told_moments moments in
          let told_old = writes.leaves.told_moments told.0 in
          let start = opened_replays groups tail ranges fit few within opened_at.content (old.content Pages) (opened_chain t groups chain) (opened_pages t) (whole told_old.0 groups chain) in
          same_replays opened_at.content image (with_ranges ranges (old.content Pages)) (groups ++ ranges ∷ []) (tail + 9 + payload_size ranges) (opened_chain t groups chain) same start

      old_chain : IsTrue opened_at.tells → (groups : List (List Range)) × IsChain (old.content Log) groups tail
      old_chain t = stands.content (writes.leaves.told (opens.leaves.told t))

      -- what a stop leaves while the ranges are placed
      pub commit_leaves : Leaves (ReplaysToEither (old.content Pages) (with_ranges ranges (old.content Pages))) old new
      commit_leaves =
          let has = ReplaysToEither (old.content Pages) (with_ranges ranges (old.content Pages)) in
          let since = leaves_told has opened_at new quiet (λ t.
          let told = quiet.told_moments t in
          let at_open = quiet.told told.1 in
          let chain = old_chain at_open in
          leaves_weaker has (placed_same chain.0)
          (λ _ image same. inr (placed_replays told.0 at_open chain.0 chain.1 image same))) in
          leaves_then opened_leaves since (λ _ _ has_it. has_it)

      module _ (new_tail : ℕ) (tail_is : new_tail ≡ tail + 9 + payload_size ranges) (placed : ArePlaced ranges opened_at new) where
        new_pages : IsTrue new.tells → new.content Pages ≡ with_ranges ranges (old.content Pages)
        new_pages t = placed t ∙ ap (with_ranges ranges) (opened_pages (quiet.told t))

        new_chain : (t : IsTrue new.tells) (groups : List (List Range)) → IsChain (old.content Log) groups tail → IsChain (new.content Log) (groups ++ ranges ∷ []) new_tail
        new_chain t groups chain =
            let here = opened_chain (quiet.told t) groups chain in
            subst (λ (n : ℕ). IsChain (new.content Log) (groups ++ ranges ∷ []) n) (sym tail_is)
            (subst (λ (log : Area). IsChain log (groups ++ ranges ∷ []) (tail + 9 + payload_size ranges)) (sym (places.log t)) here)

        new_payload : IsTrue new.tells → StandAt (new.content Log) (tail + 9) (spelling_of ranges)
        new_payload t k h =
            let at_open = quiet.told t in
            ap (λ (log : Area). log (tail + 9 + k)) (places.log t) ∙ (opens.content at_open).after (tail + 9 + k) (omega arith) ∙ (behind (opens.leaves.told at_open)).payload_stands k h

        pub commit_commits : Committed ranges tail new_tail old new
        commit_commits = record {
          tail_is = tail_is;
          stands = record {
            content = λ t. let chain = old_chain (quiet.told t) in (chain.0 ++ ranges ∷ [], new_chain t chain.0 chain.1);
            chains = λ t image arises groups chain.
                let told = quiet.told_moments t in
                let old_groups = old_chain (quiet.told told.1) in
                let same = (placed_same old_groups.0).now t image arises in
                subst (λ (log : Area). IsChain log groups new_tail) (places.log told.1 ∙ sym same.log) chain;
            replays = λ t image arises.
                let told = quiet.told_moments t in
                let at_open = quiet.told told.1 in
                let chain = old_chain at_open in
                let same = (placed_same chain.0).now t image arises in
                subst (λ (p : Area). Replays image p) (sym (new_pages told.1)) (placed_replays told.0 at_open chain.0 chain.1 image same);
          };
          pages = new_pages;
          payload = new_payload;
          chain = new_chain;
        }
