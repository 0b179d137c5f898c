-- How the moments of runs join.
use Rattle.std.proofs.Common.{◌≡◌, ◌≢◌, ◌⊎◌, inl, inr, ℕ, ◌+◌, ◌<◌, ◌≤◌, List, [], ◌∷◌, ◌++◌, length, refl, sym, ◌∙◌, ap, subst, arith, append_assoc}
use Rattle.std.specs.Prelude.{IsTrue, take, drop}
use Rattle.std.proofs.lemmas.List.{append-nil, length-append, take-append-le, drop-append-le}
use Rattle.std.proofs.lemmas.Grind.{flat_map-append}
use Rattle.std.proofs.Math.Seq.{take-append-add, drop-append-add}
use Rattle.mt_machine.specs.Meaning.{Disk}
use Rattle.mt_tree.specs.declared.reply.Reply.{Reply}
use Rattle.mt_tree.specs.declared.reply.Reply.TheVariants.{Memory}
use Rattle.mt_tree.specs.Replies.{reply_bytes}
use Rattle.mt_script.specs.Lines.{Line}
use Rattle.mt_model.specs.Laws.{EachStepPrints}
use Rattle.mt_model.specs.Request.{Request}
use Rattle.mt_model.specs.Service.{Service}
use Rattle.mt_model.specs.Run.{Rules, Answers, IsStepped, IsForgone, IsRun, replies_bytes}
use Rattle.foldsql.specs.Moments.{BreaksOff, IsMoment}

-- a run has a request and a reply to each line
pub run_length : (rules : Rules) (first : Service) (lines : List Line) (requests : List Request) (replies : List Reply) (last : Service) → IsRun rules first lines requests replies last
    → (length requests ≡ length lines) × (length replies ≡ length lines)
run_length rules first [] [] [] last run = (refl, refl)
run_length rules first (line ∷ lines) (request ∷ requests) (reply ∷ replies) last (next, one, others) =
    let same = run_length rules next lines requests replies last others in
    (omega (arith, same.0), omega (arith, same.1))
run_length rules first lines requests replies last run = absurd run

-- runs join
pub run_join : (rules : Rules) (first : Service) (lines : List Line) (requests : List Request) (replies : List Reply) (middle : Service) (more : List Line) (asked : List Request) (others : List Reply) (last : Service)
    → IsRun rules first lines requests replies middle → IsRun rules middle more asked others last → IsRun rules first (lines ++ more) (requests ++ asked) (replies ++ others) last
run_join rules first [] [] [] middle more asked others last run then = subst (λ s. IsRun rules s more asked others last) run then
run_join rules first (line ∷ lines) (request ∷ requests) (reply ∷ replies) middle more asked others last (next, one, rest) then =
    (next, one, run_join rules next lines requests replies middle more asked others last rest then)
run_join rules first lines requests replies middle more asked others last run then = absurd run

outcome_prints : (rules : Rules) → EachStepPrints rules → (service : Service) (request : Request) (reply : Reply) (next : Service)
    → IsStepped (rules.step service request) reply next ⊎ IsForgone service (rules.step service request) reply next → reply_bytes reply ≢ []
outcome_prints rules prints service request reply next (inl stepped) none = prints service request (ap reply_bytes (sym stepped.reply_is) ∙ none)
outcome_prints rules prints service request reply next (inr forgone) none = let e : reply_bytes Memory ≡ [] = ap reply_bytes (sym forgone.reply_is) ∙ none in cc

-- each reply of a run prints something
pub answer_prints : (rules : Rules) → EachStepPrints rules → (service : Service) (line : Line) (request : Request) (reply : Reply) (next : Service) → Answers rules service line request reply next → reply_bytes reply ≢ []
answer_prints rules prints service line request reply next answers = outcome_prints rules prints service request reply next answers.outcome

-- the first reply, where there is one, prints something
abbrev pub FirstPrints : List Reply → Type 0
FirstPrints [] = Unit {0}
FirstPrints (reply ∷ replies) = reply_bytes reply ≢ []

pub run_prints : (rules : Rules) → EachStepPrints rules → (first : Service) (lines : List Line) (requests : List Request) (replies : List Reply) (last : Service) → IsRun rules first lines requests replies last → FirstPrints replies
run_prints rules prints first [] [] [] last run = tt
run_prints rules prints first (line ∷ lines) (request ∷ requests) (reply ∷ replies) last (next, one, others) = answer_prints rules prints first line request reply next one
run_prints rules prints first lines requests replies last run = absurd run

-- what is put out of the lines behind prints something first
pub put_prints : (rules : Rules) → EachStepPrints rules → (first : Service) (lines : List Line) (requests : List Request) (replies put : List Reply) (last : Service)
    → IsRun rules first lines requests replies last → (put ≡ []) ⊎ (put ≡ replies) → FirstPrints put
put_prints rules prints first lines requests replies put last run (inl e) = subst FirstPrints (sym e) tt
put_prints rules prints first lines requests replies put last run (inr e) = subst FirstPrints (sym e) (run_prints rules prints first lines requests replies last run)

-- the same behind whole replies
pub behind_prints : (replies put : List Reply) → FirstPrints replies → FirstPrints put → FirstPrints (replies ++ put)
behind_prints [] put one two = two
behind_prints (reply ∷ replies) put one two = one

-- what breaks off with nothing behind it is nothing
pub nothing_left : (front rest : List ℕ) → [] ≡ front ++ rest → front ≡ []
nothing_left [] rest e = refl
nothing_left (b ∷ bs) rest e = absurd (cc)

pub starts : (more : List Reply) (tail front : List ℕ) → FirstPrints more → front ≡ [] → BreaksOff front more tail
starts [] tail front prints e = (tail, ap (λ f. f ++ tail) (sym e))
starts (reply ∷ replies) tail front prints e = (reply_bytes reply, ap (λ f. f ++ reply_bytes reply) (sym e), prints)

breaks_off_more : (front : List ℕ) (now more : List Reply) (tail : List ℕ) → FirstPrints more → BreaksOff front now [] → BreaksOff front (now ++ more) tail
breaks_off_more front [] more tail prints breaks = starts more tail front prints (nothing_left front breaks.0 breaks.1)
breaks_off_more front (reply ∷ replies) more tail prints breaks = breaks

module _ (rules : Rules) (laid : Service → Disk → Type 0) (first : Service) where
  -- a moment of the first lines is one of all
  pub moment_early : (lines more : List Line) (requests asked : List Request) (replies others put : List Reply) (tail : List ℕ) (image : Disk) (bytes : List ℕ) (last : Service)
      → IsRun rules first lines requests replies last → FirstPrints put → IsMoment rules laid first lines requests replies replies [] image bytes
      → IsMoment rules laid first (lines ++ more) (requests ++ asked) (replies ++ others) (replies ++ put) tail image bytes
  moment_early lines more requests asked replies others put tail image bytes last run prints m =
      let same = run_length rules first lines requests replies last run in
      record {
        whole = m.whole;
        front = m.front;
        put_out = m.put_out ∙ ap (λ rs. replies_bytes rs ++ m.front) (sym (take-append-le m.whole replies put m.within));
        within = omega (arith, m.within, length-append replies put);
        breaks_off = subst (λ rs. BreaksOff m.front rs tail) (sym (drop-append-le m.whole replies put m.within)) (breaks_off_more m.front (drop m.whole replies) put tail prints m.breaks_off);
        counted = m.counted;
        one_more = m.one_more;
        begun = omega (arith, m.begun, length-append lines more);
        service = m.service;
        run = subst (λ ls. IsRun rules first ls (take m.counted (requests ++ asked)) (take m.counted (replies ++ others)) m.service) (sym (take-append-le m.counted lines more m.begun))
            (subst (λ qs. IsRun rules first (take m.counted lines) qs (take m.counted (replies ++ others)) m.service) (sym (take-append-le m.counted requests asked (omega (arith, m.begun, same.0))))
            (subst (λ rs. IsRun rules first (take m.counted lines) (take m.counted requests) rs m.service) (sym (take-append-le m.counted replies others (omega (arith, m.begun, same.1)))) m.run));
        is_laid = m.is_laid;
      }

  -- the lines and those behind them, up to the same count of these
  run_further : (lines more : List Line) (requests asked : List Request) (replies others : List Reply) (middle service : Service) (counted : ℕ)
      → IsRun rules first lines requests replies middle → IsRun rules middle (take counted more) (take counted asked) (take counted others) service
      → IsRun rules first (take (length replies + counted) (lines ++ more)) (take (length replies + counted) (requests ++ asked)) (take (length replies + counted) (replies ++ others)) service
  run_further lines more requests asked replies others middle service counted run then =
      let same = run_length rules first lines requests replies middle run in
      let asked_too : length replies ≡ length requests = same.1 ∙ sym same.0 in
      let all : ℕ = length replies + counted in
      subst (λ rs. IsRun rules first (take all (lines ++ more)) (take all (requests ++ asked)) rs service) (sym (take-append-add replies others counted))
      (subst (λ n. IsRun rules first (take (n + counted) (lines ++ more)) (take all (requests ++ asked)) (replies ++ take counted others) service) (sym same.1)
      (subst (λ n. IsRun rules first (take (length lines + counted) (lines ++ more)) (take (n + counted) (requests ++ asked)) (replies ++ take counted others) service) (sym asked_too)
      (subst (λ ls. IsRun rules first ls (take (length requests + counted) (requests ++ asked)) (replies ++ take counted others) service) (sym (take-append-add lines more counted))
      (subst (λ qs. IsRun rules first (lines ++ take counted more) qs (replies ++ take counted others) service) (sym (take-append-add requests asked counted))
      (run_join rules first lines requests replies middle (take counted more) (take counted asked) (take counted others) service run then)))))

  -- a moment of the lines behind is one of all
  pub moment_late : (middle : Service) (lines more : List Line) (requests asked : List Request) (replies others put : List Reply) (tail : List ℕ) (image : Disk) (bytes : List ℕ)
      → IsRun rules first lines requests replies middle → IsMoment rules laid middle more asked others put tail image bytes
      → IsMoment rules laid first (lines ++ more) (requests ++ asked) (replies ++ others) (replies ++ put) tail image (replies_bytes replies ++ bytes)
  moment_late middle lines more requests asked replies others put tail image bytes run m =
      let same = run_length rules first lines requests replies middle run in
      record {
        whole = length replies + m.whole;
        front = m.front;
        put_out =
            ap (λ b. replies_bytes replies ++ b) m.put_out
            ∙ sym (append_assoc (replies_bytes replies) (replies_bytes (take m.whole put)) m.front)
            ∙ ap (λ b. b ++ m.front) (sym (flat_map-append reply_bytes replies (take m.whole put)))
            ∙ ap (λ rs. replies_bytes rs ++ m.front) (sym (take-append-add replies put m.whole));
        within = omega (arith, m.within, length-append replies put);
        breaks_off = subst (λ rs. BreaksOff m.front rs tail) (sym (drop-append-add replies put m.whole)) m.breaks_off;
        counted = length replies + m.counted;
        one_more = elim m.one_more [ inl e ↦ inl (ap (λ n. length replies + n) e) | inr e ↦ inr (omega (arith, e)) ];
        begun = omega (arith, m.begun, length-append lines more, same.1);
        service = m.service;
        run = run_further lines more requests asked replies others middle m.service m.counted run m.run;
        is_laid = m.is_laid;
      }

  -- a moment before the last line is one with it
  pub moment_tail : (lines : List Line) (requests : List Request) (replies put : List Reply) (tail : List ℕ) (image : Disk) (bytes : List ℕ)
      → IsMoment rules laid first lines requests replies put [] image bytes → IsMoment rules laid first lines requests replies put tail image bytes
  moment_tail lines requests replies put tail image bytes m = record {
    whole = m.whole;
    front = m.front;
    put_out = m.put_out;
    within = m.within;
    breaks_off = tail_more (drop m.whole put) m.breaks_off;
    counted = m.counted;
    one_more = m.one_more;
    begun = m.begun;
    service = m.service;
    run = m.run;
    is_laid = m.is_laid;
  }
    where
      tail_more : (more : List Reply) → BreaksOff m.front more [] → BreaksOff m.front more tail
      tail_more [] b = starts [] tail m.front tt (nothing_left m.front b.0 b.1)
      tail_more (reply ∷ replies) b = b
