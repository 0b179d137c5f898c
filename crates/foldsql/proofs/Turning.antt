-- What one line leaves at each moment.
use Rattle.std.proofs.Common.{◌≡◌, ◌≢◌, ◌⊎◌, inl, inr, ℕ, Bool, true, false, cond, List, [], ◌∷◌, ◌++◌, length, refl, sym, ◌∙◌, ap, subst, arith, Result, Ok, Err, Option, None, Some, OnOk, OnErr}
use Rattle.std.specs.Prelude.{IsTrue, IfNone}
use Rattle.std.proofs.lemmas.List.{append-nil}
use Rattle.mt_machine.specs.Meaning.{Disk, Meaning}
use Rattle.mt_machine.specs.Calls.{Before, Emits, PutsOutFront}
use Rattle.mt_machine.specs.Keeps.{Keeps}
use Rattle.mt_machine.specs.Leaves.{Leaves}
use Rattle.mt_machine.specs.LeavesLaws.{leaves_itself}
use Rattle.mt_machine.specs.Passes.{Passes}
use Rattle.mt_machine.specs.PassesLaws.{emit_passes, leaves_passes, passes_both, keeps_after_emit}
use Rattle.mt_tree.specs.declared.code.Code.TheVariants as code
use Rattle.mt_tree.specs.declared.reply.Reply.{Reply}
use Rattle.mt_tree.specs.declared.reply.Reply.TheVariants.{Refused}
use Rattle.mt_tree.specs.Replies.{reply_bytes}
use Rattle.mt_script.specs.Lines as lines
use Rattle.mt_script.specs.Lines.{Line, is_answered}
use Rattle.mt_model.specs.Laws.{EachStepPrints}
use Rattle.mt_model.specs.Request.{Request, Overlong}
use Rattle.mt_model.specs.Service.{Service}
use Rattle.mt_model.specs.Step.{Stepped, refused}
use Rattle.mt_model.specs.Run.{Rules, Answers, replies_bytes}
use Rattle.foldsql.specs.declared.status.Status.{Status}
use Rattle.foldsql.specs.declared.status.Status.TheVariants.{DiskFault, EmitFault}
use Rattle.foldsql.specs.Moments.{BreaksOff, IsMoment, LaidEither}
use Rattle.foldsql.specs.Turns.{Answered, FailsWithin, Replied, Stops, StopsWith, GoesOn, ComesTo, LineOutcome}
use Rattle.foldsql.proofs.Moments.{answer_prints}
use Rattle.foldsql.proofs.Joining.{moments_first, replied_first}

-- what a stop now may leave holds the service
abbrev pub AllLaid : (Service → Disk → Type 0) → Service → Meaning → Type 0
AllLaid laid service machine = IsTrue machine.tells_moments → (image : Disk) → machine.images image → laid service image

-- since now there is just now
abbrev pub OnlyNow : Meaning → Type 0
OnlyNow machine = IsTrue machine.tells_moments → (image : Disk) (out : List ℕ) → machine.since machine.clock image out → Before machine image out

-- what a stop leaves beside the content holds the service
pub keeps_laid : (laid holds : Service → Disk → Type 0) (may_leave : Disk → Disk → Type 0) → ((service : Service) (content image : Disk) → holds service content → may_leave content image → laid service image)
    → (service : Service) (machine : Meaning) → Keeps (holds service) may_leave machine → AllLaid laid service machine
keeps_laid laid holds may_leave beside service machine keeps t image is = beside service machine.content image (keeps.content (keeps.told t)) (keeps.images t image is)

module _ (rules : Rules) (laid : Service → Disk → Type 0) (service next : Service) (line : Line) (request : Request) (reply : Reply) (answers : Answers rules service line request reply next) where
  -- nothing of the reply is put out yet, or it is not whole
  moment_within : (put : List Reply) (image : Disk) (front : List ℕ) → LaidEither laid service next image → BreaksOff front put [] → IsMoment rules laid service (line ∷ []) (request ∷ []) (reply ∷ []) put [] image front
  moment_within put image front (inl is) breaks = record {
    whole = 0;
    front = front;
    put_out = refl;
    within = omega arith;
    breaks_off = breaks;
    counted = 0;
    one_more = inl refl;
    begun = omega arith;
    service = service;
    run = refl;
    is_laid = is;
  }
  moment_within put image front (inr is) breaks = record {
    whole = 0;
    front = front;
    put_out = refl;
    within = omega arith;
    breaks_off = breaks;
    counted = 1;
    one_more = inr refl;
    begun = omega arith;
    service = next;
    run = (next, answers, refl);
    is_laid = is;
  }

  moment_whole : (image : Disk) (bytes : List ℕ) → laid next image → bytes ≡ reply_bytes reply → IsMoment rules laid service (line ∷ []) (request ∷ []) (reply ∷ []) (reply ∷ []) [] image bytes
  moment_whole image bytes is e = record {
    whole = 1;
    front = [];
    put_out = e ∙ sym (append-nil (reply_bytes reply)) ∙ sym (append-nil (reply_bytes reply ++ []));
    within = omega arith;
    breaks_off = ([], refl);
    counted = 1;
    one_more = inl refl;
    begun = omega arith;
    service = next;
    run = (next, answers, refl);
    is_laid = is;
  }

  moment_emit : (image : Disk) (front rest : List ℕ) → laid next image → reply_bytes reply ≡ front ++ rest → IsMoment rules laid service (line ∷ []) (request ∷ []) (reply ∷ []) (reply ∷ []) [] image front
  moment_emit image front [] is split = moment_whole image front is (sym (split ∙ append-nil front))
  moment_emit image front (b ∷ bs) is split = moment_within (reply ∷ []) image front (inr is) (b ∷ bs, split, λ e. cc)

-- the disk failed within the line
pub line_failed : (rules : Rules) (laid : Service → Disk → Type 0) (line : Line) (service : Service) (old new : Meaning) → IsTrue new.tells → FailsWithin rules laid line service old new → Stops rules laid service DiskFault [] (line ∷ []) old new
line_failed rules laid line service old new tells fails =
    let stepped : Stepped = rules.step service fails.request in
    let answers : Answers rules service line fails.request stepped.reply stepped.next = record { said = fails.said; outcome = inl (record { reply_is = refl; next_is = refl }) } in
    record {
      requests = [];
      replies = [];
      last = service;
      run = refl;
      ahead = record { few = omega arith; requests = fails.request ∷ []; replies = stepped.reply ∷ []; next = stepped.next; run = (stepped.next, answers, refl); put = []; put_is = inl refl };
      front = [];
      output = fails.leaves.output tells ∙ sym (append-nil old.output) ∙ sym (append-nil (old.output ++ []));
      ends = (refl, refl);
      moments = leaves_passes (IsMoment rules laid service (line ∷ []) (fails.request ∷ []) (stepped.reply ∷ []) [] []) fails.leaves
          (λ told image either. moment_within rules laid service stepped.next line fails.request stepped.reply answers [] image [] either ([], refl));
      images = fails.leaves.now;
    }

module _ (rules : Rules) (laid : Service → Disk → Type 0) (prints : EachStepPrints rules) (holds : Service → Disk → Type 0) (may_leave : Disk → Disk → Type 0)
    (beside : (service : Service) (content image : Disk) → holds service content → may_leave content image → laid service image)
    (line : Line) (reply : Reply) (old mid new : Meaning) where
  -- the services that are kept by then
  abbrev KeepsAt : Meaning → Service → Type 0
  KeepsAt machine next = Keeps (holds next) may_leave machine

  module _ {T E : Type 0} {result : Result T E} (service : Service) (answered : Answered rules laid (KeepsAt mid) reply line service old mid) (emits : Emits result (reply_bytes reply) mid new) where
    laid_next : AllLaid laid answered.next mid
    laid_next = keeps_laid laid holds may_leave beside answered.next mid answered.kept

    reply_moments : Passes (IsMoment rules laid service (line ∷ []) (answered.request ∷ []) (reply ∷ []) (reply ∷ []) []) old new
    reply_moments =
        passes_both (IsMoment rules laid service (line ∷ []) (answered.request ∷ []) (reply ∷ []) (reply ∷ []) []) []
        (leaves_passes (IsMoment rules laid service (line ∷ []) (answered.request ∷ []) (reply ∷ []) (reply ∷ []) []) answered.leaves
        (λ told image either. moment_within rules laid service answered.next line answered.request reply answered.answers (reply ∷ []) image [] either (reply_bytes reply, refl, answer_prints rules prints service line answered.request reply answered.next answered.answers)))
        (emit_passes (IsMoment rules laid service (line ∷ []) (answered.request ∷ []) (reply ∷ []) (reply ∷ []) []) emits
        (λ told image front rest is split. moment_emit rules laid service answered.next line answered.request reply answered.answers image front rest (laid_next ((emits.time.told told).0) image is) split))
        (λ t. answered.leaves.output t ∙ sym (append-nil old.output)) (λ _ _ _ m. m) (λ _ _ _ m. m)

    reply_whole : IsTrue new.tells → new.output ≡ mid.output ++ reply_bytes reply → (next : Service) × KeepsAt new next × Replied rules laid service (line ∷ []) next old new
    reply_whole tells all = (
      answered.next,
      keeps_after_emit answered.kept emits,
      record {
        requests = answered.request ∷ [];
        replies = reply ∷ [];
        run = (answered.next, answered.answers, refl);
        output = all ∙ ap (λ o. o ++ reply_bytes reply) (answered.leaves.output (emits.told tells)) ∙ ap (λ b. old.output ++ b) (sym (append-nil (reply_bytes reply)));
        moments = reply_moments;
      },
    )

    reply_cut : IsTrue new.tells → PutsOutFront (reply_bytes reply) mid.output new.output → Stops rules laid service EmitFault [] (line ∷ []) old new
    reply_cut tells put = record {
      requests = [];
      replies = [];
      last = service;
      run = refl;
      ahead = record { few = omega arith; requests = answered.request ∷ []; replies = reply ∷ []; next = answered.next; run = (answered.next, answered.answers, refl); put = reply ∷ []; put_is = inr refl };
      front = put.front;
      output = put.output ∙ ap (λ o. o ++ put.front) (answered.leaves.output (emits.told tells) ∙ sym (append-nil old.output));
      ends = record { one = refl; is_put = refl; nothing = refl; cut = (put.rest, append-nil (reply_bytes reply) ∙ put.split) };
      moments = reply_moments;
      images = λ t image is. inr (laid_next ((emits.time.told t).0) image ((emits.images t image).0 is));
    }

  -- the reply to a line is put out, or the run ends within it
  pub reply_comes : {T E : Type 0} (result : Result T E) (ends : Option Status) (kept : Service → Type 0) → is_answered line ≡ true
      → (IsTrue mid.tells → (service : Service) → kept service → Answered rules laid (KeepsAt mid) reply line service old mid)
      → Emits result (reply_bytes reply) mid new → OnOk result (ends ≡ None) → OnErr result (ends ≡ Some EmitFault) → LineOutcome rules laid kept (KeepsAt new) ends line old new
  reply_comes (Ok x) ends kept is does emits none fault = subst (λ e. LineOutcome rules laid kept (KeepsAt new) e line old new) (sym none)
      (subst (λ ls. GoesOn rules laid kept (KeepsAt new) ls old new) (sym (ap (λ b. cond b (line ∷ []) []) is))
      (λ tells service keeps. reply_whole service (does (emits.told tells) service keeps) emits tells (emits.all tells)))
  reply_comes (Err e) ends kept is does emits none fault = subst (λ e. LineOutcome rules laid kept (KeepsAt new) e line old new) (sym fault)
      (inl refl, is, λ tells service keeps. reply_cut service (does (emits.told tells) service keeps) emits tells (emits.front tells))

-- a silent line gets nothing
pub silent_passes : (rules : Rules) (laid : Service → Disk → Type 0) (kept : Service → Type 0) (line : Line) (machine : Meaning) → (IsTrue machine.tells_moments → IsTrue machine.tells) → OnlyNow machine
    → ((service : Service) → kept service → AllLaid laid service machine) → is_answered line ≡ false → LineOutcome rules laid kept kept None line machine machine
silent_passes rules laid kept line machine told only_now is_laid silent = subst (λ ls. GoesOn rules laid kept kept ls machine machine) (sym (ap (λ b. cond b (line ∷ []) []) silent))
    (λ tells service keeps. (service, keeps, replied_first rules laid service machine (moments_first rules laid service machine told only_now (is_laid service keeps))))

-- the run ends where no line was begun
pub stops_here : (rules : Rules) (laid : Service → Disk → Type 0) (first : Service) (status : Status) (machine : Meaning) → StopsWith status [] [] [] [] → (IsTrue machine.tells_moments → IsTrue machine.tells) → OnlyNow machine
    → AllLaid laid first machine → Stops rules laid first status [] [] machine machine
stops_here rules laid first status machine ends told only_now is_laid = record {
  requests = [];
  replies = [];
  last = first;
  run = refl;
  ahead = record { few = omega arith; requests = []; replies = []; next = first; run = refl; put = []; put_is = inl refl };
  front = [];
  output = sym (append-nil machine.output) ∙ sym (append-nil (machine.output ++ []));
  ends = ends;
  moments = moments_first rules laid first machine told only_now is_laid;
  images = λ t image is. inl (is_laid t image is);
}

-- the rules refuse a line that is too long, as such
pub record RefuseTooLong (rules : Rules) : Type 0 where
  pub says : rules.says lines.TooLong Overlong
  pub refuses : (service : Service) → rules.step service Overlong ≡ refused service code.LineTooLong

-- the refusal is the answer to it
pub long_answered : (rules : Rules) (laid : Service → Disk → Type 0) (kept : Service → Type 0) (machine : Meaning) → (IsTrue machine.tells_moments → IsTrue machine.tells) → OnlyNow machine
    → ((service : Service) → kept service → AllLaid laid service machine) → RefuseTooLong rules → (service : Service) → kept service
    → Answered rules laid kept (Refused code.LineTooLong) lines.TooLong service machine machine
long_answered rules laid kept machine told only_now is_laid refuse service keeps = record {
  request = Overlong;
  next = service;
  answers = record {
    said = refuse.says;
    outcome = inl (record { reply_is = sym (ap (λ (s : Stepped). s.reply) (refuse.refuses service)); next_is = sym (ap (λ (s : Stepped). s.next) (refuse.refuses service)) });
  };
  kept = keeps;
  leaves = leaves_itself machine (LaidEither laid service service) told only_now (λ t image is. inl (is_laid service keeps t image is));
}

-- what is kept whatever came of a line is kept where the run goes on
pub kept_on : {P : Type 0} (ends : Option Status) → P → IfNone ends P
kept_on None kept = kept
kept_on (Some status) kept = tt
