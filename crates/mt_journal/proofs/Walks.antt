-- A walk through a log that writes its ranges in their places: some are done, the rest stand ahead.
use Rattle.std.proofs.Common.{◌≡◌, ℕ, ◌+◌, ◌<◌, ◌≤◌, IsTrue, List, [], ◌∷◌, ◌++◌, length, refl, sym, ap, ◌∙◌, subst, arith, inl, ⊎_elim, append_assoc}
use Rattle.std.proofs.lemmas.List.{append-nil}
use Rattle.mt_machine.specs.declared.machine.Area.TheVariants.{Log}
use Rattle.mt_machine.specs.Meaning.{Disk, Meaning}
use Rattle.mt_machine.specs.Leaves.{Looks}
use Rattle.mt_journal.specs.declared.group.GroupAt.{GroupAt}
use Rattle.mt_journal.specs.Groups.{IsPayload}
use Rattle.mt_journal.specs.Layout.{Area, Range, IsRangeAt, AreRangesAt, IsGroupAt, number_at, range_size}
use Rattle.mt_journal.specs.Chain.{StandGroups}
use Rattle.mt_journal.specs.Replay.{all_ranges}
use Rattle.mt_journal.specs.Steps.{IsQuiet, AllAmong, Places, ArePlaced}
use Rattle.mt_journal.specs.Walk.{ToldRange, ToldRanges, ToldGroup, ToldChain}
use Rattle.mt_journal.proofs.Chains.{ranges_end, groups_end, group_end, group_unique}
use Rattle.mt_journal.proofs.Replaying.{among_left, among_right, among_cases, all_ranges-append, all_ranges_push}
use Rattle.mt_journal.proofs.Placing.{quiet_join, places_looks, places_untold, places_more, places_join, placed_join}

-- no range stands between a place and itself
ranges_none : (log : Area) (at end : ℕ) (ranges : List Range) → AreRangesAt log at ranges end → end ≤ at → ranges ≡ []
ranges_none log at end [] stand none = refl
ranges_none log at end (range ∷ ranges) stand none = let last = ranges_end log (at + range_size range) ranges end stand.1 in absurd (omega (arith, last, none))

pub groups_none : (log : Area) (at end : ℕ) (groups : List (List Range)) → StandGroups log at groups end → end ≤ at → groups ≡ []
groups_none log at end [] stand none = refl
groups_none log at end (group ∷ groups) stand none =
    let head = group_end log at group stand.0 stand.1 in
    let last = groups_end log stand.0 groups end stand.2 in
    absurd (omega (arith, head, last, none))

-- the first of some ranges
among_front : (front back : List Range) (next : Range) → AllAmong (front ++ next ∷ []) (front ++ next ∷ back)
among_front front back next range here = ⊎_elim
    (λ left. among_left range front (next ∷ back) left)
    (λ right. among_right range front (next ∷ back) (⊎_elim (λ e. inl e) (λ none. absurd none) right))
    (among_cases range front (next ∷ []) here)

-- ranges up to a place were written, and the rest stand from there on
pub record PartPlaced (ranges : List Range) (place end : ℕ) (old now : Meaning) : Type 0 where
  pub done : List Range
  pub todo : List Range
  pub split : ranges ≡ done ++ todo
  pub left : IsTrue now.tells → AreRangesAt (old.content Log) place todo end
  pub places : Places done old now
  pub placed : ArePlaced done old now

-- before the first
pub part_none : (ranges : List Range) (place end : ℕ) (old : Meaning) → Looks old old → ToldRanges old place ranges end → PartPlaced ranges place end old old
part_none ranges place end old looks told = record {
  done = [];
  todo = ranges;
  split = refl;
  left = told;
  places = places_looks [] old old looks;
  placed = λ _. refl;
}

-- behind the last
pub part_places : (ranges : List Range) (place end : ℕ) (old now : Meaning) → PartPlaced ranges place end old now → Places ranges old now
part_places ranges place end old now part =
    subst (λ (all : List Range). Places all old now) (sym part.split)
    (places_more part.done (part.done ++ part.todo) old now (λ range here. among_left range part.done part.todo here) part.places)

pub part_placed : (ranges : List Range) (place end : ℕ) (old now : Meaning) → PartPlaced ranges place end old now → end ≤ place → ArePlaced ranges old now
part_placed ranges place end old now part last t =
    let none = ranges_none (old.content Log) place end part.todo (part.left t) last in
    let all : part.done ≡ ranges = sym (part.split ∙ ap (λ (l : List Range). part.done ++ l) none ∙ append-nil part.done) in
    subst (λ (l : List Range). ArePlaced l old now) all part.placed t

-- one step more
module _ (place end : ℕ) (old mid new : Meaning) (earlier : IsQuiet old mid) (quiet : IsQuiet mid new) (ahead : place < end) where
  told_next : (done : List Range) (range : Range) (rest : List Range) → Places done old mid → (IsTrue mid.tells → AreRangesAt (old.content Log) place (range ∷ rest) end) → ToldRange mid place range end
  told_next done range rest places left t =
      let stands = left t in
      let last = ranges_end (old.content Log) (place + range_size range) rest end stands.1 in
      (subst (λ (log : Area). IsRangeAt log place range) (sym (places.log t)) stands.0, last)

  untold : (IsTrue mid.tells → AreRangesAt (old.content Log) place [] end) → IsTrue new.tells → ⊥
  untold left t = let none = left (quiet.told t) in omega (arith, none, ahead)

  places_step : (done todo : List Range) → Places done old mid → (IsTrue mid.tells → AreRangesAt (old.content Log) place todo end)
      → ((range : Range) → ToldRange mid place range end → Places (range ∷ []) mid new) → Places (done ++ todo) old new
  places_step done [] places left next = places_untold (done ++ []) old new (quiet_join old mid new earlier quiet) (untold left)
  places_step done (range ∷ rest) places left next =
      places_more (done ++ range ∷ []) (done ++ range ∷ rest) old new (among_front done rest range)
      (places_join done (range ∷ []) old mid new quiet places (next range (told_next done range rest places left)))

  step_more : (done todo : List Range) (behind : ℕ) → Places done old mid → ArePlaced done old mid → (IsTrue mid.tells → AreRangesAt (old.content Log) place todo end)
      → ((range : Range) → ToldRange mid place range end → Places (range ∷ []) mid new) → ((range : Range) → ToldRange mid place range end → ArePlaced (range ∷ []) mid new)
      → ((range : Range) → ToldRange mid place range end → IsTrue new.tells → behind ≡ place + 12 + length range.bytes) → PartPlaced (done ++ todo) behind end old new
  step_more done [] behind places placed left next next_placed next_at = record {
    done = done;
    todo = [];
    split = refl;
    left = λ t. absurd (untold left t);
    places = places_untold done old new (quiet_join old mid new earlier quiet) (untold left);
    placed = λ t. absurd (untold left t);
  }
  step_more done (range ∷ rest) behind places placed left next next_placed next_at =
      let told = told_next done range rest places left in
      record {
        done = done ++ range ∷ [];
        todo = rest;
        split = sym (append_assoc done (range ∷ []) rest);
        left = λ t.
            let at = next_at range told t in
            let e : place + range_size range ≡ behind = omega (arith, at) in
            subst (λ (n : ℕ). AreRangesAt (old.content Log) n rest end) e (left (quiet.told t)).1;
        places = places_join done (range ∷ []) old mid new quiet places (next range told);
        placed = placed_join done (range ∷ []) old mid new quiet placed (next_placed range told);
      }

  no_step : (done todo : List Range) → Places done old mid → (IsTrue mid.tells → AreRangesAt (old.content Log) place todo end)
      → ((range : Range) → ToldRange mid place range end → IsTrue new.tells → ⊥) → IsTrue new.tells → ⊥
  no_step done [] places left never t = untold left t
  no_step done (range ∷ rest) places left never t = never range (told_next done range rest places left) t

  -- a step that may stop anywhere
  pub part_stops : (ranges : List Range) → PartPlaced ranges place end old mid → ((range : Range) → ToldRange mid place range end → Places (range ∷ []) mid new) → Places ranges old new
  part_stops ranges part next = subst (λ (all : List Range). Places all old new) (sym part.split) (places_step part.done part.todo part.places part.left next)

  -- a step that was made
  pub part_more : (ranges : List Range) (behind : ℕ) → PartPlaced ranges place end old mid → ((range : Range) → ToldRange mid place range end → Places (range ∷ []) mid new)
      → ((range : Range) → ToldRange mid place range end → ArePlaced (range ∷ []) mid new)
      → ((range : Range) → ToldRange mid place range end → IsTrue new.tells → behind ≡ place + 12 + length range.bytes) → PartPlaced ranges behind end old new
  part_more ranges behind part next next_placed next_at =
      subst (λ (all : List Range). PartPlaced all behind end old new) (sym part.split) (step_more part.done part.todo behind part.places part.placed part.left next next_placed next_at)

  -- a step that was refused
  pub part_refused : (ranges : List Range) → PartPlaced ranges place end old mid → ((range : Range) → ToldRange mid place range end → IsTrue new.tells → ⊥) → IsTrue new.tells → ⊥
  part_refused ranges part never t = no_step part.done part.todo part.places part.left never t

-- groups up to a place were written, and the rest stand from there on
pub record PartReplayed (groups : List (List Range)) (place end : ℕ) (old now : Meaning) : Type 0 where
  pub done : List (List Range)
  pub todo : List (List Range)
  pub split : groups ≡ done ++ todo
  pub left : IsTrue now.tells → StandGroups (old.content Log) place todo end
  pub places : Places (all_ranges done) old now
  pub placed : ArePlaced (all_ranges done) old now

-- before the first
pub replayed_none : (groups : List (List Range)) (end : ℕ) (old : Meaning) → Looks old old → ToldChain old groups end → PartReplayed groups 0 end old old
replayed_none groups end old looks told = record {
  done = [];
  todo = groups;
  split = refl;
  left = λ t. (told t).groups_stand;
  places = places_looks [] old old looks;
  placed = λ _. refl;
}

-- behind the last
pub replayed_places : (groups : List (List Range)) (place end : ℕ) (old now : Meaning) → PartReplayed groups place end old now → Places (all_ranges groups) old now
replayed_places groups place end old now part =
    let all : all_ranges groups ≡ all_ranges part.done ++ all_ranges part.todo = ap all_ranges part.split ∙ all_ranges-append part.done part.todo in
    subst (λ (l : List Range). Places l old now) (sym all)
    (places_more (all_ranges part.done) (all_ranges part.done ++ all_ranges part.todo) old now (λ range here. among_left range (all_ranges part.done) (all_ranges part.todo) here) part.places)

pub replayed_placed : (groups : List (List Range)) (place end : ℕ) (old now : Meaning) → PartReplayed groups place end old now → end ≤ place → ArePlaced (all_ranges groups) old now
replayed_placed groups place end old now part last t =
    let none = groups_none (old.content Log) place end part.todo (part.left t) last in
    let all : part.done ≡ groups = sym (part.split ∙ ap (λ (l : List (List Range)). part.done ++ l) none ∙ append-nil part.done) in
    subst (λ (l : List (List Range)). ArePlaced (all_ranges l) old now) all part.placed t

-- one group more
module _ (place end : ℕ) (old mid new : Meaning) (earlier : IsQuiet old mid) (quiet : IsQuiet mid new) (ahead : place < end) where
  -- where the next gate is, by the length of the payload
  behind_of : ℕ
  behind_of = place + 9 + number_at 8 (old.content Log) (place + 1)

  told_group : (done : List (List Range)) (group : List Range) (rest : List (List Range)) → Places (all_ranges done) old mid
      → (IsTrue mid.tells → StandGroups (old.content Log) place (group ∷ rest) end) → ToldGroup mid place group behind_of
  unfolding behind_of
  told_group done group rest places left t =
      let stands = left t in
      let here : IsGroupAt (old.content Log) place group (place + 9 + number_at 8 (old.content Log) (place + 1)) = subst (λ (n : ℕ). IsGroupAt (old.content Log) place group n) (sym stands.1.size) stands.1 in
      subst (λ (log : Area). IsGroupAt log place group (place + 9 + number_at 8 (old.content Log) (place + 1))) (sym (places.log t)) here

  untold_group : (IsTrue mid.tells → StandGroups (old.content Log) place [] end) → IsTrue new.tells → ⊥
  untold_group left t = let none = left (quiet.told t) in omega (arith, none, ahead)

  rest_stands : (group : List Range) (rest : List (List Range)) (behind : ℕ) → StandGroups (old.content Log) place (group ∷ rest) end → behind ≡ behind_of → StandGroups (old.content Log) behind rest end
  unfolding behind_of
  rest_stands group rest behind stands at =
      let e : stands.0 ≡ behind = sym stands.1.size ∙ sym at in
      subst (λ (n : ℕ). StandGroups (old.content Log) n rest end) e stands.2

  more_ranges : (done : List (List Range)) (group : List Range) → all_ranges (done ++ group ∷ []) ≡ all_ranges done ++ group
  more_ranges done group = all_ranges_push done group

  replay_step : (done todo : List (List Range)) → Places (all_ranges done) old mid → (IsTrue mid.tells → StandGroups (old.content Log) place todo end)
      → ((group : List Range) (behind : ℕ) → ToldGroup mid place group behind → Places group mid new) → Places (all_ranges (done ++ todo)) old new
  replay_step done [] places left next = places_untold (all_ranges (done ++ [])) old new (quiet_join old mid new earlier quiet) (untold_group left)
  replay_step done (group ∷ rest) places left next =
      let both = places_join (all_ranges done) group old mid new quiet places (next group behind_of (told_group done group rest places left)) in
      let all : all_ranges (done ++ group ∷ rest) ≡ (all_ranges done ++ group) ++ all_ranges rest = all_ranges-append done (group ∷ rest) ∙ sym (append_assoc (all_ranges done) group (all_ranges rest)) in
      subst (λ (l : List Range). Places l old new) (sym all)
      (places_more (all_ranges done ++ group) ((all_ranges done ++ group) ++ all_ranges rest) old new (λ range here. among_left range (all_ranges done ++ group) (all_ranges rest) here) both)

  replay_more : (done todo : List (List Range)) (behind : ℕ) → Places (all_ranges done) old mid → ArePlaced (all_ranges done) old mid → (IsTrue mid.tells → StandGroups (old.content Log) place todo end)
      → ((group : List Range) (next : ℕ) → ToldGroup mid place group next → Places group mid new) → ((group : List Range) (next : ℕ) → ToldGroup mid place group next → ArePlaced group mid new)
      → ((group : List Range) (next : ℕ) → ToldGroup mid place group next → IsTrue new.tells → behind ≡ next) → PartReplayed (done ++ todo) behind end old new
  replay_more done [] behind places placed left next next_placed next_at = record {
    done = done;
    todo = [];
    split = refl;
    left = λ t. absurd (untold_group left t);
    places = places_untold (all_ranges done) old new (quiet_join old mid new earlier quiet) (untold_group left);
    placed = λ t. absurd (untold_group left t);
  }
  replay_more done (group ∷ rest) behind places placed left next next_placed next_at =
      let told = told_group done group rest places left in
      record {
        done = done ++ group ∷ [];
        todo = rest;
        split = sym (append_assoc done (group ∷ []) rest);
        left = λ t. rest_stands group rest behind (left (quiet.told t)) (next_at group behind_of told t);
        places = subst (λ (l : List Range). Places l old new) (sym (more_ranges done group)) (places_join (all_ranges done) group old mid new quiet places (next group behind_of told));
        placed = subst (λ (l : List Range). ArePlaced l old new) (sym (more_ranges done group)) (placed_join (all_ranges done) group old mid new quiet placed (next_placed group behind_of told));
      }

  no_replay : (done todo : List (List Range)) → Places (all_ranges done) old mid → (IsTrue mid.tells → StandGroups (old.content Log) place todo end)
      → ((group : List Range) (next : ℕ) → ToldGroup mid place group next → IsTrue new.tells → ⊥) → IsTrue new.tells → ⊥
  no_replay done [] places left never t = untold_group left t
  no_replay done (group ∷ rest) places left never t = never group behind_of (told_group done group rest places left) t

  -- a step that may stop anywhere
  pub replay_stops : (groups : List (List Range)) → PartReplayed groups place end old mid → ((group : List Range) (next : ℕ) → ToldGroup mid place group next → Places group mid new) → Places (all_ranges groups) old new
  replay_stops groups part next = subst (λ (all : List (List Range)). Places (all_ranges all) old new) (sym part.split) (replay_step part.done part.todo part.places part.left next)

  -- a step that was made
  pub replay_goes_on : (groups : List (List Range)) (behind : ℕ) → PartReplayed groups place end old mid → ((group : List Range) (next : ℕ) → ToldGroup mid place group next → Places group mid new)
      → ((group : List Range) (next : ℕ) → ToldGroup mid place group next → ArePlaced group mid new)
      → ((group : List Range) (next : ℕ) → ToldGroup mid place group next → IsTrue new.tells → behind ≡ next) → PartReplayed groups behind end old new
  replay_goes_on groups behind part next next_placed next_at =
      subst (λ (all : List (List Range)). PartReplayed all behind end old new) (sym part.split) (replay_more part.done part.todo behind part.places part.placed part.left next next_placed next_at)

  -- a step that was refused
  pub replay_refused : (groups : List (List Range)) → PartReplayed groups place end old mid → ((group : List Range) (next : ℕ) → ToldGroup mid place group next → IsTrue new.tells → ⊥) → IsTrue new.tells → ⊥
  replay_refused groups part never t = no_replay part.done part.todo part.places part.left never t

-- the payload of a group that was found is that of the group that stands
module _ (old mid new : Meaning) (at end : ℕ) (group : GroupAt) (ranges : List Range) (looks : Looks old mid) (start : group.at ≡ at + 9)
    (found : IsTrue mid.tells → IsPayload (old.content Log) at group) (told : ToldGroup old at ranges end) where
  pub found_end : IsTrue mid.tells → group.at + group.length ≡ end
  found_end t =
      let here = found t in
      here.size ∙ (group_unique (old.content Log) at here.ranges ranges here.end end here.stands (told (looks.leaves.told t))).1

  pub told_payload : ToldRanges mid (group.at + 4) ranges (group.at + group.length)
  told_payload t =
      let payload = (told (looks.leaves.told t)).payload in
      let place : at + 13 ≡ group.at + 4 = omega (arith, start) in
      let moved = subst (λ (n : ℕ). AreRangesAt (old.content Log) n ranges end) place payload in
      let ended = subst (λ (n : ℕ). AreRangesAt (old.content Log) (group.at + 4) ranges n) (sym (found_end t)) moved in
      subst (λ (d : Disk). AreRangesAt (d Log) (group.at + 4) ranges (group.at + group.length)) (sym (looks.content t)) ended

  pub group_places : IsQuiet mid new → Places ranges mid new → Places ranges old new
  group_places quiet places = places_join [] ranges old mid new quiet (places_looks [] old mid looks) places
