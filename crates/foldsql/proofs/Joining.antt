-- How stretches of a run join.
use Rattle.std.proofs.Common.{◌≡◌, ◌≢◌, ◌⊎◌, inl, inr, ℕ, ◌≤◌, List, [], ◌∷◌, ◌++◌, length, refl, sym, ◌∙◌, ap, subst, arith, append_assoc}
use Rattle.std.specs.Prelude.{IsTrue}
use Rattle.std.proofs.lemmas.List.{append-nil}
use Rattle.std.proofs.lemmas.Grind.{flat_map-append}
use Rattle.mt_machine.specs.Meaning.{Disk, Meaning}
use Rattle.mt_machine.specs.Calls.{Before}
use Rattle.mt_machine.specs.LeavesLaws.{leaves_itself}
use Rattle.mt_machine.specs.Passes.{Passes}
use Rattle.mt_machine.specs.PassesLaws.{passes_both, leaves_passes}
use Rattle.mt_tree.specs.declared.reply.Reply.{Reply}
use Rattle.mt_tree.specs.Replies.{reply_bytes}
use Rattle.mt_script.specs.Lines.{Line}
use Rattle.mt_model.specs.Laws.{EachStepPrints}
use Rattle.mt_model.specs.Request.{Request}
use Rattle.mt_model.specs.Service.{Service}
use Rattle.mt_model.specs.Run.{Rules, IsRun, replies_bytes}
use Rattle.foldsql.specs.declared.status.Status.{Status}
use Rattle.foldsql.specs.Moments.{IsMoment}
use Rattle.foldsql.specs.Turns.{Replied, Stops}
use Rattle.foldsql.proofs.Moments.{FirstPrints, run_length, run_join, run_prints, put_prints, behind_prints, moment_early, moment_late}

-- the bytes of replies join, behind what was there
bytes_join : (before middle after : List ℕ) (replies others : List Reply) → middle ≡ before ++ replies_bytes replies → after ≡ middle ++ replies_bytes others → after ≡ before ++ replies_bytes (replies ++ others)
bytes_join before middle after replies others one two =
    two ∙ ap (λ o. o ++ replies_bytes others) one ∙ append_assoc before (replies_bytes replies) (replies_bytes others) ∙ ap (λ b. before ++ b) (sym (flat_map-append reply_bytes replies others))

-- the same where something stands behind them
bytes_join_front : (before middle after front : List ℕ) (replies others : List Reply) → middle ≡ before ++ replies_bytes replies → after ≡ middle ++ replies_bytes others ++ front
    → after ≡ before ++ replies_bytes (replies ++ others) ++ front
bytes_join_front before middle after front replies others one two = two ∙ ap (λ o. o ++ front) (bytes_join before middle (middle ++ replies_bytes others) replies others one refl)

module _ (rules : Rules) (laid : Service → Disk → Type 0) (prints : EachStepPrints rules) (first : Service) (lines : List Line) (service : Service) (old now new : Meaning) (a : Replied rules laid first lines service old now) where
  moments_join : (more : List Line) (asked : List Request) (others put : List Reply) → FirstPrints put → Passes (IsMoment rules laid service more asked others put []) now new
      → Passes (IsMoment rules laid first (lines ++ more) (a.requests ++ asked) (a.replies ++ others) (a.replies ++ put) []) old new
  moments_join more asked others put begins moments =
      passes_both (IsMoment rules laid first (lines ++ more) (a.requests ++ asked) (a.replies ++ others) (a.replies ++ put) []) (replies_bytes a.replies) a.moments moments
      (λ _. a.output)
      (λ _ image bytes m. moment_early rules laid first lines more a.requests asked a.replies others put [] image bytes service a.run begins m)
      (λ _ image bytes m. moment_late rules laid first service lines more a.requests asked a.replies others put [] image bytes a.run m)

  -- more lines that got their replies
  pub replied_join : (more : List Line) (last : Service) → Replied rules laid service more last now new → Replied rules laid first (lines ++ more) last old new
  replied_join more last b = record {
    requests = a.requests ++ b.requests;
    replies = a.replies ++ b.replies;
    run = run_join rules first lines a.requests a.replies service more b.requests b.replies last a.run b.run;
    output = bytes_join old.output now.output new.output a.replies b.replies a.output b.output;
    moments = moments_join more b.requests b.replies b.replies (run_prints rules prints service more b.requests b.replies last b.run) b.moments;
  }

  -- the end of the run behind them
  pub stops_join : (status : Status) (more begun : List Line) → Stops rules laid service status more begun now new → Stops rules laid first status (lines ++ more) begun old new
  stops_join status more begun b = record {
    requests = a.requests ++ b.requests;
    replies = a.replies ++ b.replies;
    last = b.last;
    run = run_join rules first lines a.requests a.replies service more b.requests b.replies b.last a.run b.run;
    ahead = b.ahead;
    front = b.front;
    output = bytes_join_front old.output now.output new.output b.front a.replies b.replies a.output b.output;
    ends = b.ends;
    moments =
        subst (λ ls. Passes (IsMoment rules laid first ls ((a.requests ++ b.requests) ++ b.ahead.requests) ((a.replies ++ b.replies) ++ b.ahead.replies) ((a.replies ++ b.replies) ++ b.ahead.put) []) old new) (sym (append_assoc lines more begun))
        (subst (λ qs. Passes (IsMoment rules laid first (lines ++ (more ++ begun)) qs ((a.replies ++ b.replies) ++ b.ahead.replies) ((a.replies ++ b.replies) ++ b.ahead.put) []) old new) (sym (append_assoc a.requests b.requests b.ahead.requests))
        (subst (λ rs. Passes (IsMoment rules laid first (lines ++ (more ++ begun)) (a.requests ++ (b.requests ++ b.ahead.requests)) rs ((a.replies ++ b.replies) ++ b.ahead.put) []) old new) (sym (append_assoc a.replies b.replies b.ahead.replies))
        (subst (λ rs. Passes (IsMoment rules laid first (lines ++ (more ++ begun)) (a.requests ++ (b.requests ++ b.ahead.requests)) (a.replies ++ (b.replies ++ b.ahead.replies)) rs []) old new) (sym (append_assoc a.replies b.replies b.ahead.put))
        (moments_join (more ++ begun) (b.requests ++ b.ahead.requests) (b.replies ++ b.ahead.replies) (b.replies ++ b.ahead.put) begins b.moments))));
    images = b.images;
  }
    where
      begins : FirstPrints (b.replies ++ b.ahead.put)
      begins = behind_prints b.replies b.ahead.put (run_prints rules prints service more b.requests b.replies b.last b.run)
          (put_prints rules prints b.last begun b.ahead.requests b.ahead.replies b.ahead.put b.ahead.next b.ahead.run b.ahead.put_is)

-- no call yet: nothing is put out
pub moments_first : (rules : Rules) (laid : Service → Disk → Type 0) (first : Service) (machine : Meaning) → (IsTrue machine.tells_moments → IsTrue machine.tells)
    → (IsTrue machine.tells_moments → (image : Disk) (out : List ℕ) → machine.since machine.clock image out → Before machine image out)
    → (IsTrue machine.tells_moments → (image : Disk) → machine.images image → laid first image) → Passes (IsMoment rules laid first [] [] [] [] []) machine machine
moments_first rules laid first machine told only_now is_laid = leaves_passes (IsMoment rules laid first [] [] [] [] []) (leaves_itself machine (laid first) told only_now is_laid) (λ t image is. record {
  whole = 0;
  front = [];
  put_out = refl;
  within = omega arith;
  breaks_off = ([], refl);
  counted = 0;
  one_more = inl refl;
  begun = omega arith;
  service = first;
  run = refl;
  is_laid = is;
})

-- no line yet
pub replied_first : (rules : Rules) (laid : Service → Disk → Type 0) (first : Service) (machine : Meaning) → Passes (IsMoment rules laid first [] [] [] [] []) machine machine → Replied rules laid first [] first machine machine
replied_first rules laid first machine moments = record { requests = []; replies = []; run = refl; output = sym (append-nil machine.output); moments = moments }
