-- A run with its last line.
use Rattle.std.proofs.Common.{◌≡◌, ◌≢◌, ◌⊎◌, inl, inr, ℕ, zero, suc, ◌+◌, ◌≤◌, List, [], ◌∷◌, ◌++◌, length, refl, sym, ◌∙◌, ap, subst, arith, append_assoc}
use Rattle.std.specs.Prelude.{IsTrue, take, drop}
use Rattle.std.proofs.lemmas.List.{append-nil, length-append, take_all}
use Rattle.std.proofs.Math.Seq.{take-append_seam, drop-append_seam}
use Rattle.mt_machine.specs.Meaning.{Disk, Meaning, Supply}
use Rattle.mt_machine.specs.Calls.{PutsOutFront}
use Rattle.mt_machine.specs.Passes.{Passes}
use Rattle.mt_machine.specs.PassesLaws.{passes_both}
use Rattle.mt_tree.specs.declared.reply.Reply.{Reply}
use Rattle.mt_script.specs.Lines.{Line, lines_of}
use Rattle.mt_model.specs.Request.{Request}
use Rattle.mt_model.specs.Service.{Service}
use Rattle.mt_model.specs.Run.{Rules, IsRun, replies_bytes}
use Rattle.foldsql.specs.declared.status.Status.{Status}
use Rattle.foldsql.specs.declared.status.Status.TheVariants.{Done, Words, DiskFault, EmitFault, SourceFault, InputTooLong, NoMemory}
use Rattle.foldsql.specs.Moments.{BreaksOff, IsMoment, LaidEither}
use Rattle.foldsql.specs.Serves.{EndsWith, Runs, SaysWhy, Serves}
use Rattle.foldsql.specs.Status.{CoversInput, IsBegunAt, IsPrefixOf, last_line}
use Rattle.foldsql.specs.Turns.{AnswersInput, Counts, Finishes, SaysLast, Stops, StopsWith}
use Rattle.foldsql.proofs.Covering.{covered_first}
use Rattle.foldsql.proofs.Moments.{run_length, run_join, moment_tail}

module _ (rules : Rules) (laid : Service → Disk → Type 0) (first : Service) (status : Status) (lines begun : List Line) (old now : Meaning) (a : Stops rules laid first status lines begun old now) where
  same : (length a.requests ≡ length lines) × (length a.replies ≡ length lines)
  same = run_length rules first lines a.requests a.replies a.last a.run

  -- the lines that have their replies stand before the one that was begun
  run_whole : IsRun rules first (take (length a.replies) (lines ++ begun)) (take (length a.replies) (a.requests ++ a.ahead.requests)) (take (length a.replies) (a.replies ++ a.ahead.replies)) a.last
  run_whole =
      subst (λ rs. IsRun rules first (take (length a.replies) (lines ++ begun)) (take (length a.replies) (a.requests ++ a.ahead.requests)) rs a.last) (sym (take-append_seam a.replies a.ahead.replies))
      (subst (λ n. IsRun rules first (take n (lines ++ begun)) (take n (a.requests ++ a.ahead.requests)) a.replies a.last) (sym same.1)
      (subst (λ ls. IsRun rules first ls (take (length lines) (a.requests ++ a.ahead.requests)) a.replies a.last) (sym (take-append_seam lines begun))
      (subst (λ n. IsRun rules first lines (take n (a.requests ++ a.ahead.requests)) a.replies a.last) same.0
      (subst (λ qs. IsRun rules first lines qs a.replies a.last) (sym (take-append_seam a.requests a.ahead.requests)) a.run))))

  run_begun : IsRun rules first (lines ++ begun) (a.requests ++ a.ahead.requests) (a.replies ++ a.ahead.replies) a.ahead.next
  run_begun = run_join rules first lines a.requests a.replies a.last begun a.ahead.requests a.ahead.replies a.ahead.next a.run a.ahead.run

  -- all that was begun
  run_all : IsRun rules first (take (length (lines ++ begun)) (lines ++ begun)) (take (length (lines ++ begun)) (a.requests ++ a.ahead.requests)) (take (length (lines ++ begun)) (a.replies ++ a.ahead.replies)) a.ahead.next
  run_all =
      let e = run_length rules first (lines ++ begun) (a.requests ++ a.ahead.requests) (a.replies ++ a.ahead.replies) a.ahead.next run_begun in
      subst (λ ls. IsRun rules first ls (take (length (lines ++ begun)) (a.requests ++ a.ahead.requests)) (take (length (lines ++ begun)) (a.replies ++ a.ahead.replies)) a.ahead.next) (sym (take_all (length (lines ++ begun)) (lines ++ begun) (omega arith)))
      (subst (λ qs. IsRun rules first (lines ++ begun) qs (take (length (lines ++ begun)) (a.replies ++ a.ahead.replies)) a.ahead.next) (sym (take_all (length (lines ++ begun)) (a.requests ++ a.ahead.requests) (omega (arith, e.0))))
      (subst (λ rs. IsRun rules first (lines ++ begun) (a.requests ++ a.ahead.requests) rs a.ahead.next) (sym (take_all (length (lines ++ begun)) (a.replies ++ a.ahead.replies) (omega (arith, e.1)))) run_begun))

  none_or_one : (n : ℕ) → n ≤ 1 → length begun ≡ n → (length (lines ++ begun) ≡ length a.replies) ⊎ (length (lines ++ begun) ≡ length a.replies + 1)
  none_or_one zero few e = inl (omega (arith, e, same.1, length-append lines begun))
  none_or_one (suc n) few e = inr (omega (arith, e, few, same.1, length-append lines begun))

  -- a moment behind the whole replies, within the last line
  moment_end : (tail front : List ℕ) (image : Disk) → LaidEither laid a.last a.ahead.next image → BreaksOff front a.ahead.put tail
      → IsMoment rules laid first (lines ++ begun) (a.requests ++ a.ahead.requests) (a.replies ++ a.ahead.replies) (a.replies ++ a.ahead.put) tail image (replies_bytes a.replies ++ front)
  moment_end tail front image (inl is) breaks = record {
    whole = length a.replies;
    front = front;
    put_out = ap (λ rs. replies_bytes rs ++ front) (sym (take-append_seam a.replies a.ahead.put));
    within = omega (arith, length-append a.replies a.ahead.put);
    breaks_off = subst (λ rs. BreaksOff front rs tail) (sym (drop-append_seam a.replies a.ahead.put)) breaks;
    counted = length a.replies;
    one_more = inl refl;
    begun = omega (arith, length-append lines begun, same.1);
    service = a.last;
    run = run_whole;
    is_laid = is;
  }
  moment_end tail front image (inr is) breaks = record {
    whole = length a.replies;
    front = front;
    put_out = ap (λ rs. replies_bytes rs ++ front) (sym (take-append_seam a.replies a.ahead.put));
    within = omega (arith, length-append a.replies a.ahead.put);
    breaks_off = subst (λ rs. BreaksOff front rs tail) (sym (drop-append_seam a.replies a.ahead.put)) breaks;
    counted = length (lines ++ begun);
    one_more = none_or_one (length begun) a.ahead.few refl;
    begun = omega arith;
    service = a.ahead.next;
    run = run_all;
    is_laid = is;
  }

-- where the status has a last line, nothing is put out behind the whole replies before it
stops_alone : (status : Status) (begun : List Line) (replies put : List Reply) (front : List ℕ) → last_line status ≢ [] → StopsWith status begun replies put front → (front ≡ []) × (put ≡ [])
unfolding last_line
stops_alone Done begun replies put front some ends = ends
stops_alone Words begun replies put front some ends = ends
stops_alone DiskFault begun replies put front some ends = ends
stops_alone EmitFault begun replies put front some ends = absurd (some refl)
stops_alone SourceFault begun replies put front some ends = ends
stops_alone InputTooLong begun replies put front some ends = ends
stops_alone NoMemory begun replies put front some ends = ends

-- the last line is put out whole
says_why : (status : Status) (taken : List ℕ) (lines begun : List Line) (after : Supply) (replies put : List Reply) (tail front : List ℕ) → last_line status ≢ [] → SaysWhy status begun put tail front → EndsWith status taken lines begun after replies put tail front
unfolding last_line
says_why Done taken lines begun after replies put tail front some says = says
says_why Words taken lines begun after replies put tail front some says = says
says_why DiskFault taken lines begun after replies put tail front some says = says
says_why EmitFault taken lines begun after replies put tail front some says = absurd (some refl)
says_why SourceFault taken lines begun after replies put tail front some says = says
says_why InputTooLong taken lines begun after replies put tail front some says = says
says_why NoMemory taken lines begun after replies put tail front some says = says

module _ (rules : Rules) (laid : Service → Disk → Type 0) (first : Service) (status : Status) (taken : List ℕ) (lines begun : List Line) (old now new : Meaning) (after : Supply)
    (some : last_line status ≢ []) (covers : CoversInput status taken lines after) (among : IsPrefixOf (lines ++ begun) (lines_of taken)) (is_begun : IsBegunAt status begun)
    (a : Stops rules laid first status lines begun old now) (result : Status) (f : Finishes status result now new) (tells : IsTrue new.tells) where
  alone : (a.front ≡ []) × (a.ahead.put ≡ [])
  alone = stops_alone status begun a.ahead.replies a.ahead.put a.front some a.ends

  -- nothing but whole replies stands before the last line
  output_now : now.output ≡ old.output ++ replies_bytes a.replies
  output_now = a.output ∙ ap (λ front. old.output ++ replies_bytes a.replies ++ front) alone.0 ∙ append-nil (old.output ++ replies_bytes a.replies)

  moments_all : Passes (IsMoment rules laid first (lines ++ begun) (a.requests ++ a.ahead.requests) (a.replies ++ a.ahead.replies) (a.replies ++ a.ahead.put) (last_line status)) old new
  moments_all =
      passes_both (IsMoment rules laid first (lines ++ begun) (a.requests ++ a.ahead.requests) (a.replies ++ a.ahead.replies) (a.replies ++ a.ahead.put) (last_line status)) (replies_bytes a.replies) a.moments f.moments
      (λ _. output_now)
      (λ _ image bytes m. moment_tail rules laid first (lines ++ begun) (a.requests ++ a.ahead.requests) (a.replies ++ a.ahead.replies) (a.replies ++ a.ahead.put) (last_line status) image bytes m)
      (λ t image bytes m. moment_end rules laid first status lines begun old now a (last_line status) bytes image (a.images ((f.moments.told_moments t).0) image m.0)
      (subst (λ put. BreaksOff bytes put (last_line status)) (sym alone.1) m.1))

  runs_to : (ending : Status) (front : List ℕ) → new.output ≡ now.output ++ front → EndsWith ending taken lines begun after a.ahead.replies a.ahead.put (last_line status) front → Runs rules laid first ending taken lines old new after
  runs_to ending front output ends = record {
    requests = a.requests;
    replies = a.replies;
    last = a.last;
    run = a.run;
    begun = begun;
    ahead = a.ahead;
    among = among;
    front = front;
    tail = last_line status;
    output = output ∙ ap (λ o. o ++ front) output_now;
    ends = ends;
    moments = moments_all;
    images = λ t image is. a.images ((f.moments.told_moments t).0) image (f.images t image is);
  }

  pub runs_end : Runs rules laid first result taken lines old new after
  runs_end = pick f.says
    where
      pick : SaysLast status result now new → Runs rules laid first result taken lines old new after
      pick (inl says) = subst (λ st. Runs rules laid first st taken lines old new after) (sym says.0)
          (runs_to status (last_line status) (says.1 tells) (says_why status taken lines begun after a.ahead.replies a.ahead.put (last_line status) (last_line status) some
          (record { is_begun = is_begun; nothing = alone.1; last = refl; whole = refl })))
      pick (inr cuts) =
          let put : PutsOutFront (last_line status) now.output new.output = cuts.1 tells in
          subst (λ st. Runs rules laid first st taken lines old new after) (sym cuts.0)
          (runs_to EmitFault put.front put.output (inr (record { status = status; some = some; covers = covers; is_begun = is_begun; nothing = alone.1; last = refl; cut = (put.rest, put.split) })))
