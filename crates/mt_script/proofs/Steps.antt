-- How the steps of a reader join to its next line.
use Rattle.std.proofs.Common.{◌≡◌, ℕ, ◌+◌, ◌<◌, ◌≤◌, true, false, IsTrue, List, [], ◌∷◌, ◌++◌, Ok, Err, length, take, drop, refl, sym, ◌∙◌, ap, subst, arith, append_assoc, length-append, length-take, inl, inr, ⊎_elim}
use Rattle.std.proofs.lemmas.List.{append-nil, take_all, drop_all, length-drop}
use Rattle.std.proofs.lemmas.Bool.{or_parts, false≢true, cases_lt}
use Rattle.mt_machine.specs.Meaning.{Supply}
use Rattle.mt_script.specs.Lines.{Line, TooLong, Text, line_of, without_return, every_line, has_line_feed}
use Rattle.mt_script.specs.declared.reader.Took.{Took}
use Rattle.mt_script.specs.declared.reader.Took.TheVariants as took
use Rattle.mt_script.specs.declared.reader.ReadStop.{ReadStop}
use Rattle.mt_script.specs.declared.reader.ReadStop.TheVariants as stop
use Rattle.mt_script.specs.Reader.{Reading, BeginsWith, IsLast, GivesOut, HoldsBack, IsGivenLine, Outcome, GoesOn, AsksForLine, AsksInTurn, Nexts}
use Rattle.mt_script.specs.Steps.{IsFirstFeed, LetsGo, GivesLine, NeedsMore, StandsFor, TakesInTurn, TakesOn, StopCause}
use Rattle.mt_script.proofs.Lines.{has_line_feed-append, has_line_feed-take, every_line_same, every_ended_same, nil_from_every_line, every_line-feed, every_ended-feed, every_line-none, line_of-long, line_of-short, length-without_return, has_line_feed-without_return}

-- bytes stand for themselves
StandsFor-same : (bytes : List ℕ) → StandsFor bytes bytes
StandsFor-same bytes = record {
  feeds = refl;
  every = λ rest. refl;
  every_ended = λ rest. refl;
}

-- what stands for bytes stands for them with more behind
StandsFor-append : (bytes held more : List ℕ) → StandsFor bytes held → StandsFor (bytes ++ more) (held ++ more)
StandsFor-append bytes held more stands = record {
  feeds = has_line_feed-append bytes more ∙ (rw stands.feeds (sym (has_line_feed-append held more)));
  every = λ rest. rw (append_assoc bytes more rest, append_assoc held more rest) (stands.every (more ++ rest));
  every_ended = λ rest. rw (append_assoc bytes more rest, append_assoc held more rest) (stands.every_ended (more ++ rest));
}

-- what stands for what stands for bytes stands for them
StandsFor-trans : (bytes held kept : List ℕ) → StandsFor bytes held → StandsFor held kept → StandsFor bytes kept
StandsFor-trans bytes held kept first second = record {
  feeds = first.feeds ∙ second.feeds;
  every = λ rest. first.every rest ∙ second.every rest;
  every_ended = λ rest. first.every_ended rest ∙ second.every_ended rest;
}

-- of a line without an end, so many bytes as decide that it is too long stand for all
StandsFor-short : (n : ℕ) (bytes : List ℕ) → 65536 < n → has_line_feed bytes ≡ false → StandsFor bytes (take n bytes)
StandsFor-short n bytes many none =
    ⊎_elim
    (λ long.
    let long_bytes : 65536 < length bytes = omega arith in
    let long_kept : 65536 < length (take n bytes) = omega (arith, length-take n bytes) in
    let none_kept = has_line_feed-take n bytes none in
    record {
      feeds = none ∙ sym none_kept;
      every = λ rest. every_line_same bytes (take n bytes) rest none none_kept long_bytes long_kept;
      every_ended = λ rest. every_ended_same bytes (take n bytes) rest none none_kept long_bytes long_kept;
    })
    (λ short. rw (take_all n bytes short) (StandsFor-same bytes))
    (cases_lt n (length bytes))

-- as they are, both give the same lines
StandsFor-lines : (bytes held : List ℕ) → StandsFor bytes held → every_line bytes ≡ every_line held
StandsFor-lines bytes held stands = rw (append-nil bytes, append-nil held) at (stands.every [])

-- bytes give out the line that what stands for them gives out
GivesOut-stands : (bytes held : List ℕ) (line : Line) (new : Reading) → StandsFor bytes held → GivesOut held line new → GivesOut bytes line new
GivesOut-stands bytes held line new stands gives =
    ⊎_elim
    (λ begins. inl (record {
      every = λ rest. stands.every rest ∙ begins.every rest;
      every_ended = λ rest. stands.every_ended rest ∙ begins.every_ended rest;
    }))
    (λ last. inr (record {
      only = StandsFor-lines bytes held stands ∙ last.only;
      unended = stands.feeds ∙ last.unended;
      ended = last.ended;
      nothing = last.nothing;
    }))
    gives

-- the same of any answer
Outcome-stands : (given : Took) (bytes held : List ℕ) (new : Reading) → StandsFor bytes held → Outcome (Ok given) held new → Outcome (Ok given) bytes new
Outcome-stands took.Line bytes held new stands outcome = (GivesOut-stands bytes held (Text new.line) new stands outcome.0, outcome.1)
Outcome-stands took.TooLong bytes held new stands outcome = GivesOut-stands bytes held TooLong new stands outcome
Outcome-stands took.End bytes held new stands outcome =
    (nil_from_every_line bytes (StandsFor-lines bytes held stands ∙ ap every_line outcome.0), outcome.1, outcome.2)

-- what one take gives, where no line had ended before it
pub AsksForLine-piece : (held piece : List ℕ) (after : Supply) → has_line_feed held ≡ false → after.last ≡ piece → AsksForLine held piece after
AsksForLine-piece held piece after none last = record {
  front = [];
  split = sym last;
  unended = rw append-nil none;
}

-- one piece more: of what was held at most n bytes are kept, and the piece stands behind them
pub TakesOn-piece : (n : ℕ) (piece : List ℕ) (old new : Reading) (before after : Supply) → 65536 < n → old.ended ≡ false → has_line_feed old.held ≡ false → new.held ≡ take n old.held ++ piece → new.budget + length piece ≡ old.budget → (new.ended ≡ true → (IsTrue after.tells → after.left ≡ []) × (0 < new.budget)) → (IsTrue after.tells → IsTrue before.tells) → (IsTrue after.tells → before.left ≡ piece ++ after.left) → (IsTrue after.tells → TakesInTurn old.held piece before after) → TakesOn old new before after
TakesOn-piece n piece old new before after many not_ended none held budget ends told input in_turn = record {
  taken = piece;
  told = told;
  input = input;
  budget = budget;
  asks = λ yes. absurd (false≢true (sym none ∙ yes));
  in_turn = in_turn;
  asks_no_more = λ yes. absurd (false≢true (sym not_ended ∙ yes));
  ends = λ yes. inr (ends yes).0;
  ends_within = λ yes. inr (ends yes).1;
  stands = rw held (StandsFor-append old.held (take n old.held) piece (StandsFor-short n old.held many none));
  no_more = omega (arith, ap length held, length-append (take n old.held) piece, length-take n old.held);
}

-- no piece came: of what was held at most n bytes are kept
pub TakesOn-nothing : (n : ℕ) (old new : Reading) (before after : Supply) → 65536 < n → old.ended ≡ false → has_line_feed old.held ≡ false → new.held ≡ take n old.held → new.budget ≡ old.budget → new.ended ≡ old.ended → (IsTrue after.tells → IsTrue before.tells) → (IsTrue after.tells → after.left ≡ before.left) → (IsTrue after.tells → TakesInTurn old.held [] before after) → TakesOn old new before after
TakesOn-nothing n old new before after many not_ended none held budget ended told left in_turn =
    TakesOn-piece n [] old new before after many not_ended none (held ∙ sym (append-nil (take n old.held))) (omega arith)
    (λ yes. absurd (false≢true (sym not_ended ∙ sym ended ∙ yes))) told (λ tells. sym (left tells)) in_turn

-- a take of no bytes is the end of the input
pub left_at_end : (n : ℕ) (piece : List ℕ) (before after : Supply) → n ≡ 0 → (n ≡ 0 → IsTrue after.tells → before.left ≡ []) → (IsTrue after.tells → before.left ≡ take n piece ++ after.left) → IsTrue after.tells → after.left ≡ []
left_at_end n piece before after nothing end moved tells =
    sym (rw nothing at (moved tells)) ∙ end nothing tells

-- takes before the last one, where what is held stands for what they gave
AsksForLine-behind : (held taken kept more : List ℕ) (after : Supply) → StandsFor (held ++ taken) kept → AsksForLine kept more after → AsksForLine held (taken ++ more) after
AsksForLine-behind held taken kept more after stands asks = record {
  front = taken ++ asks.front;
  split = ap (λ bytes. taken ++ bytes) asks.split ∙ sym (append_assoc taken asks.front after.last);
  unended = rw (← append_assoc held taken asks.front) ((StandsFor-append (held ++ taken) kept asks.front stands).feeds ∙ asks.unended);
}

-- takes in turn, and then others in turn
TakesInTurn-more : (held taken kept more : List ℕ) (before between after : Supply) → StandsFor (held ++ taken) kept → (IsTrue between.tells → TakesInTurn held taken before between) → TakesInTurn kept more between after → IsTrue between.tells → TakesInTurn held (taken ++ more) before after
TakesInTurn-more held taken kept more before between after stands first second tells =
    ⊎_elim
    (λ rests. rw (rests.0, rests.1, append-nil) (first tells))
    (λ asks. inr (AsksForLine-behind held taken kept more after stands asks))
    second

-- what a reader's next line says of it
AsksInTurn-from : (held taken : List ℕ) (before after : Supply) → TakesInTurn held taken before after → AsksInTurn held taken before after
AsksInTurn-from held taken before after in_turn =
    ⊎_elim
    (λ rests. inl (record { nothing = rests.0; takes = ap (λ (supply : Supply). supply.takes) rests.1 }))
    inr
    in_turn

-- a reader that has done nothing yet
pub TakesOn-start : (reading : Reading) (supply : Supply) → TakesOn reading reading supply supply
TakesOn-start reading supply = record {
  taken = [];
  told = λ tells. tells;
  input = λ tells. refl;
  budget = omega arith;
  asks = λ yes. refl;
  in_turn = λ tells. inl (refl, refl);
  asks_no_more = λ yes. (refl, yes, λ tells. refl);
  ends = λ yes. inl yes;
  ends_within = λ yes. inl yes;
  stands = rw append-nil (StandsFor-same reading.held);
  no_more = omega arith;
}

-- takes one after another, where the first leave no whole line and do not end the input
TakesOn-more : (old mid new : Reading) (before between after : Supply) → TakesOn old mid before between → TakesOn mid new between after → has_line_feed mid.held ≡ false → mid.ended ≡ false → TakesOn old new before after
TakesOn-more old mid new before between after first second none not_ended = record {
  taken = first.taken ++ second.taken;
  told = λ tells. first.told (second.told tells);
  input = λ tells. first.input (second.told tells) ∙ ap (λ left. first.taken ++ left) (second.input tells) ∙ sym (append_assoc first.taken second.taken after.left);
  budget = omega (arith, first.budget, second.budget, length-append first.taken second.taken);
  asks = λ yes.
      let none_old = (or_parts (has_line_feed old.held) (has_line_feed first.taken) (sym (has_line_feed-append old.held first.taken) ∙ first.stands.feeds ∙ none)).0 in
      absurd (false≢true (sym none_old ∙ yes));
  in_turn = λ tells. TakesInTurn-more old.held first.taken mid.held second.taken before between after first.stands first.in_turn (second.in_turn tells) (second.told tells);
  asks_no_more = λ yes. absurd (false≢true (sym not_ended ∙ (first.asks_no_more yes).1));
  ends = λ yes. ⊎_elim (λ was. absurd (false≢true (sym not_ended ∙ was))) inr (second.ends yes);
  ends_within = λ yes. ⊎_elim (λ was. absurd (false≢true (sym not_ended ∙ was))) inr (second.ends_within yes);
  stands =
      rw (← append_assoc old.held first.taken second.taken)
      (StandsFor-trans (old.held ++ first.taken ++ second.taken) (mid.held ++ second.taken) new.held
      (StandsFor-append (old.held ++ first.taken) mid.held second.taken first.stands) second.stands);
  no_more = omega (arith, first.no_more, second.no_more);
}

-- the same where the search between them left the reader as it was
pub TakesOn-step : (old mid held new : Reading) (before between after : Supply) → TakesOn old mid before between → NeedsMore mid held → TakesOn held new between after → TakesOn old new before after
TakesOn-step old mid held new before between after first more second =
    TakesOn-more old mid new before between after first
    (subst (λ reading. TakesOn reading new between after) more.unchanged second) more.unended more.not_ended

-- what is let go with a line
GoesOn-from : (given : Took) (old mid new : Reading) → mid.budget + length mid.held ≤ old.budget + length old.held → GoesOn (Ok given) mid new → GoesOn (Ok given) old new
GoesOn-from took.Line old mid new less goes = omega arith
GoesOn-from took.TooLong old mid new less goes = omega arith
GoesOn-from took.End old mid new less goes = tt

-- takes, and then a line out of what is held
pub Nexts-given : (given : Took) (old mid new : Reading) (before after : Supply) → TakesOn old mid before after → after.faults ≡ before.faults → GivesLine given mid new → Nexts (Ok given) old new before after
Nexts-given given old mid new before after takes no_fault gives = record {
  taken = takes.taken;
  told = takes.told;
  input = takes.input;
  budget = omega (arith, takes.budget, gives.budget);
  asks = takes.asks;
  asks_in_turn = λ tells. AsksInTurn-from old.held takes.taken before after (takes.in_turn tells);
  asks_no_more = λ yes.
      let was = takes.asks_no_more yes in
      (was.0, gives.ended ∙ was.1, was.2);
  ends = λ yes. takes.ends (sym gives.ended ∙ yes);
  ends_within = λ yes. rw gives.budget (takes.ends_within (sym gives.ended ∙ yes));
  outcome = Outcome-stands given (old.held ++ takes.taken) mid.held new takes.stands gives.outcome;
  goes_on = GoesOn-from given old mid new takes.no_more gives.goes_on;
  faults = omega (arith, no_fault);
  cause = no_fault;
}

-- no whole line and no end: what is held stands for all
HoldsBack-stands : (bytes : List ℕ) (new : Reading) → StandsFor bytes new.held → new.ended ≡ false → has_line_feed new.held ≡ false → HoldsBack bytes new
HoldsBack-stands bytes new stands not_ended none = record {
  not_ended = not_ended;
  unended = stands.feeds ∙ none;
  unended_held = none;
  every = stands.every;
  every_ended = stands.every_ended;
}

-- takes that stop
Nexts-stopped : (e : ReadStop) (old new : Reading) (before after : Supply) → TakesOn old new before after → new.ended ≡ false → has_line_feed new.held ≡ false → StopCause e new before.faults after.faults → Nexts (Err e) old new before after
Nexts-stopped stop.Source old new before after takes not_ended none cause = record {
  taken = takes.taken;
  told = takes.told;
  input = takes.input;
  budget = takes.budget;
  asks = takes.asks;
  asks_in_turn = λ tells. AsksInTurn-from old.held takes.taken before after (takes.in_turn tells);
  asks_no_more = takes.asks_no_more;
  ends = takes.ends;
  ends_within = takes.ends_within;
  outcome = (HoldsBack-stands (old.held ++ takes.taken) new takes.stands not_ended none, cause.2);
  goes_on = tt;
  faults = cause.0;
  cause = cause.1;
}
Nexts-stopped stop.Budget old new before after takes not_ended none cause = record {
  taken = takes.taken;
  told = takes.told;
  input = takes.input;
  budget = takes.budget;
  asks = takes.asks;
  asks_in_turn = λ tells. AsksInTurn-from old.held takes.taken before after (takes.in_turn tells);
  asks_no_more = takes.asks_no_more;
  ends = takes.ends;
  ends_within = takes.ends_within;
  outcome = (HoldsBack-stands (old.held ++ takes.taken) new takes.stands not_ended none, cause.1);
  goes_on = tt;
  faults = omega (arith, cause.0);
  cause = cause.0;
}

-- a line without line feed is given without one, and no longer than a line may be
IsGivenLine-of : (bytes line : List ℕ) → line_of bytes ≡ Text line → has_line_feed bytes ≡ false → IsGivenLine line
IsGivenLine-of bytes line given none =
    ⊎_elim
    (λ long. absurd (let no : TooLong ≡ Text line = sym (line_of-long bytes long) ∙ given in cc))
    (λ short.
    let same : without_return bytes ≡ line = (let both : Text (without_return bytes) ≡ Text line = sym (line_of-short bytes short) ∙ given in cc) in
    subst IsGivenLine same (record {
      short = omega (arith, length-without_return bytes);
      whole = has_line_feed-without_return bytes none;
    }))
    (cases_lt 65536 (length bytes))

-- a line, its line feed and what is behind
BeginsWith-feed : (line held : List ℕ) → has_line_feed line ≡ false → BeginsWith (line ++ 10 ∷ held) (line_of line) held
BeginsWith-feed line held none = record {
  every = λ rest. rw append_assoc (every_line-feed line (held ++ rest) none);
  every_ended = λ rest. rw append_assoc (every_ended-feed line (held ++ rest) none);
}

-- what is held behind the first line feed
begins : (at : ℕ) (bytes held : List ℕ) → IsFirstFeed bytes at → held ≡ drop (at + 1) bytes → BeginsWith bytes (line_of (take at bytes)) held
begins at bytes held first behind =
    rw behind
    (subst (λ all. BeginsWith all (line_of (take at bytes)) (drop (at + 1) bytes)) (sym first.split)
    (BeginsWith-feed (take at bytes) (drop (at + 1) bytes) first.none_before))

-- the first bytes are let go with their line feed
pub GivesLine-feed : (given : Took) (at : ℕ) (old new : Reading) → IsFirstFeed old.held at → LetsGo given at (at + 1) old new → GivesLine given old new
GivesLine-feed took.Line at old new first goes = record {
  outcome = (inl (rw (← goes.given) (begins at old.held new.held first goes.held)), IsGivenLine-of (take at old.held) new.line goes.given first.none_before);
  goes_on = omega (arith, first.within, goes.budget, ap length goes.held, length-drop (at + 1) old.held);
  budget = goes.budget;
  ended = goes.ended;
}
GivesLine-feed took.TooLong at old new first goes = record {
  outcome = inl (rw (← goes.given) (begins at old.held new.held first goes.held));
  goes_on = omega (arith, first.within, goes.budget, ap length goes.held, length-drop (at + 1) old.held);
  budget = goes.budget;
  ended = goes.ended;
}
GivesLine-feed took.End at old new first goes = absurd goes.given

-- the last line has no line feed
last_line : (size : ℕ) (line : Line) (old new : Reading) → size ≡ length old.held → 0 < size → has_line_feed old.held ≡ false → old.ended ≡ true → line_of (take size old.held) ≡ line → new.held ≡ drop size old.held → new.ended ≡ old.ended → IsLast old.held line new
last_line size line old new all some none over given held ended = record {
  only = every_line-none old.held none (omega arith) ∙ ap (λ l. l ∷ []) (ap line_of (sym (take_all size old.held (omega arith))) ∙ given);
  unended = none;
  ended = ended ∙ over;
  nothing = held ∙ drop_all size old.held (omega arith);
}

-- all that is held is let go, as the last line
pub GivesLine-rest : (given : Took) (size : ℕ) (old new : Reading) → size ≡ length old.held → 0 < size → has_line_feed old.held ≡ false → old.ended ≡ true → LetsGo given size size old new → GivesLine given old new
GivesLine-rest took.Line size old new all some none over goes = record {
  outcome = (
    inr (last_line size (Text new.line) old new all some none over goes.given goes.held goes.ended),
    IsGivenLine-of (take size old.held) new.line goes.given (has_line_feed-take size old.held none),
  );
  goes_on = omega (arith, goes.budget, ap length goes.held, length-drop size old.held);
  budget = goes.budget;
  ended = goes.ended;
}
GivesLine-rest took.TooLong size old new all some none over goes = record {
  outcome = inr (last_line size TooLong old new all some none over goes.given goes.held goes.ended);
  goes_on = omega (arith, goes.budget, ap length goes.held, length-drop size old.held);
  budget = goes.budget;
  ended = goes.ended;
}
GivesLine-rest took.End size old new all some none over goes = absurd goes.given

-- the same where the last of them stops, and those before it came with no fault
pub Nexts-stops : (e : ReadStop) (old mid held new : Reading) (before between after : Supply) → TakesOn old mid before between → between.faults ≡ before.faults → NeedsMore mid held → TakesOn held new between after → (new.ended ≡ false) × (has_line_feed new.held ≡ false) × StopCause e new between.faults after.faults → Nexts (Err e) old new before after
Nexts-stops e old mid held new before between after first no_fault more second stops =
    Nexts-stopped e old new before after (TakesOn-step old mid held new before between after first more second) stops.0 stops.1
    (subst (λ count. StopCause e new count after.faults) no_fault stops.2)
