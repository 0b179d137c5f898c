-- How far a run has come: its lines and replies so far, and which lines are still to come.
use Rattle.std.proofs.Common.{◌≡◌, ◌≢◌, ◌⊎◌, inl, inr, ℕ, ◌+◌, ◌<◌, ◌^◌, true, false, cond, List, [], ◌∷◌, ◌++◌, length, refl, sym, ◌∙◌, ap, subst, arith, append_assoc, Result, Ok, Err, None, Some}
use Rattle.std.specs.Prelude.{IsTrue}
use Rattle.std.proofs.lemmas.List.{append-nil, length-append}
use Rattle.mt_machine.specs.Meaning.{Disk, Meaning, Supply}
use Rattle.mt_script.specs.Lines.{Line, TooLong, Text, lines_of, ended_lines_of, is_answered}
use Rattle.mt_script.specs.declared.reader.Took.{Took}
use Rattle.mt_script.specs.declared.reader.Took.TheVariants as took
use Rattle.mt_script.specs.declared.reader.ReadStop.{ReadStop}
use Rattle.mt_script.specs.declared.reader.ReadStop.TheVariants as stop
use Rattle.mt_script.specs.Reader.{Reading, fresh, Nexts, GivesOut, HoldsBack}
use Rattle.mt_model.specs.Laws.{EachStepPrints}
use Rattle.mt_model.specs.Service.{Service}
use Rattle.mt_model.specs.Run.{Rules}
use Rattle.foldsql.specs.declared.status.Status.{Status}
use Rattle.foldsql.specs.declared.status.Status.TheVariants.{Done, DiskFault, EmitFault, SourceFault, InputTooLong, NoMemory}
use Rattle.foldsql.specs.Status.{CoversInput, IsBegunAt, IsPrefixOf}
use Rattle.foldsql.specs.Turns.{AnswersInput, ComesTo, GoesOn, IsLineFault, Replied, Stops, Turns, TurnOutcome, answered_line}
use Rattle.foldsql.proofs.Covering.{ended_first}
use Rattle.foldsql.proofs.Joining.{replied_join, stops_join}
use Rattle.foldsql.proofs.Pending.{IsAtEnd, Pending, end_of_nothing, ended_part_of_none, pending_on, pending-prefix}

-- How far a run has come since these. Where the machine tells, some service is kept, and the lines so far
-- have their replies.
pub record Stands (rules : Rules) (laid : Service → Disk → Type 0) (first : Service) (keeps : Service → Type 0) (old now : Meaning) (before after : Supply) (reading : Reading) : Type 0 where
  pub taken : List ℕ
  pub lines : List Line
  pub input : IsTrue after.tells → before.left ≡ taken ++ after.left
  pub budget : reading.budget + length taken ≡ 2 ^ 40
  pub pending : Pending taken lines reading
  pub at_end : reading.ended ≡ true → IsAtEnd reading after
  pub replied : IsTrue now.tells → (service : Service) × keeps service × Replied rules laid first lines service old now

-- no turn was made
pub stands_first : (rules : Rules) (laid : Service → Disk → Type 0) (first : Service) (keeps : Service → Type 0) (machine : Meaning) (source : Supply) → keeps first
    → Replied rules laid first [] first machine machine → Stands rules laid first keeps machine machine source source (fresh (2 ^ 40))
stands_first rules laid first keeps machine source kept replied = record {
  taken = [];
  lines = [];
  input = λ _. refl;
  budget = omega arith;
  pending = inl (record { every = λ rest. refl; every_ended = λ rest. refl });
  at_end = λ e. absurd (cc);
  replied = λ _. (first, kept, replied);
}

module _ (rules : Rules) (laid : Service → Disk → Type 0) (prints : EachStepPrints rules) (first : Service) (kept keeps : Service → Type 0) (old now new : Meaning) (before mid after : Supply) (reading further : Reading)
    (s : Stands rules laid first kept old now before mid reading) (told : IsTrue new.tells → IsTrue now.tells) where
  module _ (result : Result Took ReadStop) (n : Nexts result reading further mid after) where
    -- what was taken before and in this turn stands in front of what is left
    input_on : IsTrue after.tells → before.left ≡ (s.taken ++ n.taken) ++ after.left
    input_on t = s.input (n.told t) ∙ ap (λ left. s.taken ++ left) (n.input t) ∙ sym (append_assoc s.taken n.taken after.left)

    budget_on : further.budget + length (s.taken ++ n.taken) ≡ 2 ^ 40
    budget_on = omega (arith, length-append s.taken n.taken, s.budget, n.budget)

    at_end_on : further.ended ≡ true → IsAtEnd further after
    at_end_on e = record {
      nothing = λ t. elim (n.ends e) [ inl o ↦ end_of_nothing n.taken after.left (sym (n.input t) ∙ (s.at_end o).nothing (n.told t)) | inr left ↦ left t ];
      within = elim (n.ends_within e) [ inl o ↦ omega (arith, (s.at_end o).within, n.budget, ap length ((n.asks_no_more o).0)) | inr within ↦ within ];
    }

    -- the end of the run behind the lines so far
    stopped : (status : Status) (begun : List Line) → ComesTo rules laid kept status begun now new → IsTrue new.tells → Stops rules laid first status s.lines begun old new
    stopped status begun comes tells =
        let so_far = s.replied (told tells) in
        subst (λ ls. Stops rules laid first status ls begun old new) (append-nil s.lines)
        (stops_join rules laid prints first s.lines so_far.0 old now new so_far.2 status [] begun (comes tells so_far.0 so_far.1))

    module _ (line : Line) (gives : GivesOut (reading.held ++ n.taken) line further) where
      lines_on : Pending (s.taken ++ n.taken) (s.lines ++ answered_line line) further
      lines_on = pending_on s.taken n.taken s.lines line reading further s.pending (λ o. (n.asks_no_more o).0) gives

      -- the line was answered, or is silent
      line_on : GoesOn rules laid kept keeps (answered_line line) now new → Stands rules laid first keeps old new before after further
      line_on goes = record {
        taken = s.taken ++ n.taken;
        lines = s.lines ++ answered_line line;
        input = input_on;
        budget = budget_on;
        pending = lines_on;
        at_end = at_end_on;
        replied = λ tells.
            let so_far = s.replied (told tells) in
            let on = goes tells so_far.0 so_far.1 in
            (on.0, on.1, replied_join rules laid prints first s.lines so_far.0 old now new so_far.2 (answered_line line) on.0 on.2);
      }

      -- where the run ends within the line, the lines before have their replies
      line_last : (status : Status) → IsLineFault status → is_answered line ≡ true → ComesTo rules laid kept status (line ∷ []) now new → AnswersInput rules laid first status old new before after
      line_last status fault answered comes =
          let among = pending-prefix (s.taken ++ n.taken) (s.lines ++ line ∷ []) further (subst (λ ls. Pending (s.taken ++ n.taken) ls further) (ap (λ b. s.lines ++ cond b (line ∷ []) []) answered) lines_on) in
          record {
            taken = s.taken ++ n.taken;
            input = input_on;
            lines = s.lines;
            begun = line ∷ [];
            covers = covers fault (line ∷ among.0, among.1 ∙ append_assoc s.lines (line ∷ []) among.0);
            among = among;
            is_begun = is_begun fault;
            told = stopped status (line ∷ []) comes;
          }
        where
          covers : IsLineFault status → IsPrefixOf s.lines (lines_of (s.taken ++ n.taken)) → CoversInput status (s.taken ++ n.taken) s.lines after
          covers (inl e) is = subst (λ st. CoversInput st (s.taken ++ n.taken) s.lines after) (sym e) is
          covers (inr e) is = subst (λ st. CoversInput st (s.taken ++ n.taken) s.lines after) (sym e) is

          is_begun : IsLineFault status → status ≢ EmitFault → IsBegunAt status (line ∷ [])
          is_begun (inl e) other = absurd (other e)
          is_begun (inr e) other = subst (λ st. IsBegunAt st (line ∷ [])) (sym e) refl

    -- the run ends where no line was begun
    ended : (status : Status) → CoversInput status (s.taken ++ n.taken) s.lines after → IsBegunAt status [] → IsPrefixOf s.lines (lines_of (s.taken ++ n.taken)) → ComesTo rules laid kept status [] now new
        → AnswersInput rules laid first status old new before after
    ended status covers none first_of comes = record {
      taken = s.taken ++ n.taken;
      input = input_on;
      lines = s.lines;
      begun = [];
      covers = covers;
      among = subst (λ ls. IsPrefixOf ls (lines_of (s.taken ++ n.taken))) (sym (append-nil s.lines)) first_of;
      is_begun = λ _. none;
      told = stopped status [] comes;
    }

    -- the input has ended, and each line was answered
    all_answered : reading.held ++ n.taken ≡ [] → lines_of (s.taken ++ n.taken) ≡ s.lines
    all_answered nothing = elim s.pending [
      | inl so_far ↦ so_far.every n.taken ∙ ap (λ bytes. s.lines ++ lines_of bytes) nothing ∙ append-nil s.lines
      | inr closed ↦ ap (λ more. lines_of (s.taken ++ more)) ((n.asks_no_more closed.ended).0) ∙ ap lines_of (append-nil s.taken) ∙ closed.all
    ]

    -- the input has not ended, and each line that has was answered
    ended_answered : HoldsBack (reading.held ++ n.taken) further → ended_lines_of (s.taken ++ n.taken) ≡ s.lines
    ended_answered holds = elim s.pending [
      | inl so_far ↦ so_far.every_ended n.taken ∙ ap (λ bytes. s.lines ++ lines_of bytes) (ended_part_of_none (reading.held ++ n.taken) holds.unended) ∙ append-nil s.lines
      | inr closed ↦ let e = (n.asks_no_more closed.ended).1 in let f = holds.not_ended in absurd (cc)
    ]

    taken_within : 0 < further.budget → length (s.taken ++ n.taken) < 2 ^ 40
    taken_within within = omega (arith, budget_on)

    done : reading.held ++ n.taken ≡ [] → further.ended ≡ true → ComesTo rules laid kept Done [] now new → AnswersInput rules laid first Done old new before after
    done nothing is_ended comes =
        let all = all_answered nothing in
        ended Done (sym all, taken_within ((at_end_on is_ended).within), (at_end_on is_ended).nothing) refl ([], all ∙ sym (append-nil s.lines)) comes

    source_failed : HoldsBack (reading.held ++ n.taken) further → 0 < further.budget → ComesTo rules laid kept SourceFault [] now new → AnswersInput rules laid first SourceFault old new before after
    source_failed holds within comes =
        let all = ended_answered holds in
        ended SourceFault (sym all, taken_within within) refl (subst (λ ls. IsPrefixOf ls (lines_of (s.taken ++ n.taken))) all (ended_first (s.taken ++ n.taken))) comes

    too_long : HoldsBack (reading.held ++ n.taken) further → further.budget ≡ 0 → ComesTo rules laid kept InputTooLong [] now new → AnswersInput rules laid first InputTooLong old new before after
    too_long holds used comes =
        let all = ended_answered holds in
        ended InputTooLong (sym all, omega (arith, budget_on)) refl (subst (λ ls. IsPrefixOf ls (lines_of (s.taken ++ n.taken))) all (ended_first (s.taken ++ n.taken))) comes

  goes_on : (result : Result Took ReadStop) → Nexts result reading further mid after → TurnOutcome rules laid kept keeps result None further.line now new → Stands rules laid first keeps old new before after further
  goes_on (Ok took.Line) n goes = line_on (Ok took.Line) n (Text further.line) n.outcome.0 goes
  goes_on (Ok took.TooLong) n goes = line_on (Ok took.TooLong) n TooLong n.outcome goes
  goes_on (Ok took.End) n (none, comes) = absurd (cc)
  goes_on (Err stop.Source) n (none, comes) = absurd (cc)
  goes_on (Err stop.Budget) n (none, comes) = absurd (cc)

  ends : (result : Result Took ReadStop) (status : Status) → Nexts result reading further mid after → TurnOutcome rules laid kept keeps result (Some status) further.line now new → AnswersInput rules laid first status old new before after
  ends (Ok took.Line) status n (fault, answered, comes) = line_last (Ok took.Line) n (Text further.line) n.outcome.0 status fault answered comes
  ends (Ok took.TooLong) status n (fault, answered, comes) = line_last (Ok took.TooLong) n TooLong n.outcome status fault answered comes
  ends (Ok took.End) status n (is, comes) =
      let same : Done ≡ status = cc in
      subst (λ e. AnswersInput rules laid first e old new before after) same (done (Ok took.End) n n.outcome.0 n.outcome.2 comes)
  ends (Err stop.Source) status n (is, comes) =
      let same : SourceFault ≡ status = cc in
      subst (λ e. AnswersInput rules laid first e old new before after) same (source_failed (Err stop.Source) n n.outcome.0 n.outcome.1 comes)
  ends (Err stop.Budget) status n (is, comes) =
      let same : InputTooLong ≡ status = cc in
      subst (λ e. AnswersInput rules laid first e old new before after) same (too_long (Err stop.Budget) n n.outcome.0 n.outcome.1 comes)

  -- a turn after which the run goes on
  pub stands_on : Turns rules laid kept keeps None reading further mid after now new → Stands rules laid first keeps old new before after further
  stands_on turn = goes_on turn.took turn.nexts turn.outcome

  -- a turn with which the run ends
  pub stands_last : (status : Status) → Turns rules laid kept keeps (Some status) reading further mid after now new → AnswersInput rules laid first status old new before after
  stands_last status turn = ends turn.took status turn.nexts turn.outcome

-- a run that had no memory to begin
pub not_begun : (rules : Rules) (laid : Service → Disk → Type 0) (first : Service) (machine : Meaning) (source : Supply) → Stops rules laid first NoMemory [] [] machine machine → AnswersInput rules laid first NoMemory machine machine source source
not_begun rules laid first machine source stops = record {
  taken = [];
  input = λ _. refl;
  lines = [];
  begun = [];
  covers = (refl, refl);
  among = ([], refl);
  is_begun = λ _. refl;
  told = λ _. stops;
}
