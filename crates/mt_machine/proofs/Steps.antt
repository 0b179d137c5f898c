-- What each call of a machine in memory does, from the step that it takes.
use Rattle.std.proofs.Common.{◌≡◌, ℕ, ◌+◌, ◌-◌, ◌/◌, ◌≤◌, ◌⊎◌, IsTrue, List, [], ◌∷◌, ◌++◌, length, take, reverse, Result, Ok, Err, OnOk, refl, sym, ap, ap₂, ◌∙◌, subst, subst₂, inl, inr, arith}
use Rattle.std.proofs.lemmas.List.{reverse-append, length-take}
use Rattle.std.proofs.lemmas.Result.{on_ok_weaker}
use Rattle.mt_machine.specs.declared.machine.Area.{Area}
use Rattle.mt_machine.specs.declared.step.Step.{Step}
use Rattle.mt_machine.specs.declared.step.Step.TheVariants.{Wrote, Synced, Passed, Emitted}
use Rattle.mt_machine.specs.declared.stop.Fill.TheVariants.{Kept}
use Rattle.mt_machine.specs.Meaning.{Disk}
use Rattle.mt_machine.specs.Calls.{Before, Elapses, Emits, HasCause, PutsOutFront, Reads, Stand, Syncs, Torn, TornImages, WithinEmit, WithinWrite, Writes}
use Rattle.mt_machine.specs.InMemory.{emit_step, meaning_of, sync_step, write_step}
use Rattle.mt_machine.specs.Run.{Run, TakesStep, WithinStep, content_of, filled_by, images_of, output_of, since_of}
use Rattle.mt_machine.specs.RunLaws.{bytes_stand, run_content_is_image, run_only_now, torn_by_bytes}
use Rattle.mt_machine.proofs.Fronts.{one_torn_wider, puts_out_all, puts_out_first, puts_out_less}

-- the steps of the new run, the newest first
newest : (step : Step) (old new : Run) → TakesStep step old new → IsTrue new.tells → reverse new.steps ≡ step ∷ reverse old.steps
newest step old new taken tells = ap reverse (taken.steps tells) ∙ reverse-append old.steps (step ∷ [])

-- the content of the new run
content_after : (step : Step) (old new : Run) → TakesStep step old new → IsTrue new.tells → new.content ≡ filled_by Kept step old.content
content_after step old new taken tells =
    (taken.is_tied tells).content_is
    ∙ ap₂ (λ first past. content_of first past) (taken.first tells) (newest step old new taken tells)
    ∙ ap (λ disk. filled_by Kept step disk) (sym (taken.was_tied (taken.told tells)).content_is)

-- the output of the old run
output_before : (step : Step) (old new : Run) → TakesStep step old new → IsTrue new.tells → old.output ≡ output_of (reverse old.steps)
output_before step old new taken tells = (taken.was_tied (taken.told tells)).output_is

-- the output of the new run
output_after : (step : Step) (old new : Run) → TakesStep step old new → IsTrue new.tells → new.output ≡ output_of (step ∷ reverse old.steps)
output_after step old new taken tells = (taken.is_tied tells).output_is ∙ ap (λ past. output_of past) (newest step old new taken tells)

-- the images of the new run
images_after : (step : Step) (old new : Run) → TakesStep step old new → IsTrue new.tells → (image : Disk) → images_of new.first (reverse new.steps) image → images_of old.first (step ∷ reverse old.steps) image
images_after step old new taken tells image is = subst₂ (λ first past. images_of first past image) (taken.first tells) (newest step old new taken tells) is

images_before : (step : Step) (old new : Run) → TakesStep step old new → IsTrue new.tells → (image : Disk) → images_of old.first (step ∷ reverse old.steps) image → images_of new.first (reverse new.steps) image
images_before step old new taken tells image is = subst₂ (λ first past. images_of first past image) (sym (taken.first tells)) (sym (newest step old new taken tells)) is

-- the moments of a run that took a step
module _ (step : Step) (old new : Run) (old_disk old_emit new_disk new_emit : ℕ) (arises : Disk → List ℕ → Type 0) (taken : TakesStep step old new) where
  -- a moment that the step added is one that arises
  added : (IsTrue new.tells → (image : Disk) (out : List ℕ) → WithinStep step (images_of old.first (reverse old.steps)) (output_of (reverse old.steps)) image out → arises image out)
      → (IsTrue new.tells → (image : Disk) (out : List ℕ) → images_of old.first (step ∷ reverse old.steps) image → out ≡ output_of (step ∷ reverse old.steps) → arises image out)
      → IsTrue new.tells → (t : ℕ) (image : Disk) (out : List ℕ) → since_of old.first (step ∷ reverse old.steps) t image out → since_of old.first (reverse old.steps) t image out ⊎ arises image out
  added within after tells t image out (inl was) = inl was
  added within after tells t image out (inr (inl was)) = inr (within tells image out was.1)
  added within after tells t image out (inr (inr was)) = inr (after tells image out was.1 was.2)

  elapses_by_step : (IsTrue new.tells → (image : Disk) (out : List ℕ) → WithinStep step (images_of old.first (reverse old.steps)) (output_of (reverse old.steps)) image out → arises image out)
      → (IsTrue new.tells → (image : Disk) (out : List ℕ) → images_of old.first (step ∷ reverse old.steps) image → out ≡ output_of (step ∷ reverse old.steps) → arises image out)
      → Elapses (meaning_of old old_disk old_emit) (meaning_of new new_disk new_emit) arises
  elapses_by_step within after = record {
    told = λ tells. (taken.told tells, tells);
    later = taken.longer;
    start = λ tells image out since. run_only_now old taken.was_tied image out (taken.told tells) since;
    nothing_else = λ tells t image out _ since.
        added within after tells t image out (subst₂ (λ first past. since_of first past t image out) (taken.first tells) (newest step old new taken tells) since);
    keeps = λ tells t image out _ was.
        subst₂ (λ first past. since_of first past t image out) (sym (taken.first tells)) (sym (newest step old new taken tells)) (inl was);
  }

-- a call that changes nothing
passes_by_step : (old new : Run) (old_disk old_emit new_disk new_emit : ℕ) → TakesStep Passed old new → Elapses (meaning_of old old_disk old_emit) (meaning_of new new_disk new_emit) (Before (meaning_of old old_disk old_emit))
passes_by_step old new old_disk old_emit new_disk new_emit taken =
    elapses_by_step Passed old new old_disk old_emit new_disk new_emit (Before (meaning_of old old_disk old_emit)) taken
    (λ tells image out is. (is.0, is.1 ∙ sym (output_before Passed old new taken tells)))
    (λ tells image out is out_is. (is, out_is ∙ sym (output_before Passed old new taken tells)))

pub reads_by_step : {T E : Type 0} (result : Result T E) (area : Area) (at : ℕ) (buf : List ℕ) (old new : Run) (old_disk new_disk emit : ℕ) → TakesStep Passed old new
    → OnOk result (Stand new.content area at buf) → HasCause old_disk new_disk result
    → Reads result area at buf (meaning_of old old_disk emit) (meaning_of new new_disk emit)
reads_by_step result area at buf old new old_disk new_disk emit taken stand cause = record {
  told = taken.told;
  content = λ tells. content_after Passed old new taken tells;
  output = λ tells. output_after Passed old new taken tells ∙ sym (output_before Passed old new taken tells);
  bytes = on_ok_weaker result (λ stands tells. subst (λ disk. Stand disk area at buf) (content_after Passed old new taken tells) stands) stand;
  images = λ tells image. (images_after Passed old new taken tells image, images_before Passed old new taken tells image);
  time = passes_by_step old new old_disk emit new_disk emit taken;
  cause = cause;
  emit_faults = refl;
}

-- a write of the front of a range
module _ (area : Area) (at : ℕ) (bytes : List ℕ) (unwritten n : ℕ) (fits : length bytes + unwritten ≤ n) (old new : Run) (taken : TakesStep (Wrote area at bytes unwritten) old new) where
  outside_by_step : IsTrue new.tells → Torn area at n old.content new.content
  outside_by_step tells = subst (λ disk. Torn area at n old.content disk) (sym (content_after (Wrote area at bytes unwritten) old new taken tells)) (torn_by_bytes area at bytes n old.content (omega arith))

  inside_by_step : IsTrue new.tells → Stand new.content area at bytes
  inside_by_step tells = subst (λ disk. Stand disk area at bytes) (sym (content_after (Wrote area at bytes unwritten) old new taken tells)) (λ k within. bytes_stand area at bytes old.content k within)

  torn_images_by_step : IsTrue new.tells → TornImages area at n (images_of old.first (reverse old.steps)) (images_of new.first (reverse new.steps))
  torn_images_by_step tells image is =
      one_torn_wider area at (length bytes + unwritten) n (images_of old.first (reverse old.steps)) image fits (images_after (Wrote area at bytes unwritten) old new taken tells image is)

  write_elapses : (old_disk old_emit new_disk new_emit : ℕ) → Elapses (meaning_of old old_disk old_emit) (meaning_of new new_disk new_emit) (WithinWrite area at n (meaning_of old old_disk old_emit))
  write_elapses old_disk old_emit new_disk new_emit =
      elapses_by_step (Wrote area at bytes unwritten) old new old_disk old_emit new_disk new_emit (WithinWrite area at n (meaning_of old old_disk old_emit)) taken
      (λ tells image out is. (one_torn_wider area at (length bytes + unwritten) n (images_of old.first (reverse old.steps)) image fits is.0, is.1 ∙ sym (output_before (Wrote area at bytes unwritten) old new taken tells)))
      (λ tells image out is out_is. (one_torn_wider area at (length bytes + unwritten) n (images_of old.first (reverse old.steps)) image fits is, out_is ∙ sym (output_before (Wrote area at bytes unwritten) old new taken tells)))

pub writes_by_step : {T E : Type 0} (result : Result T E) (area : Area) (at : ℕ) (bytes : List ℕ) (old new : Run) (old_disk new_disk emit : ℕ) → TakesStep (write_step result area at bytes) old new → HasCause old_disk new_disk result
    → Writes result area at bytes (meaning_of old old_disk emit) (meaning_of new new_disk emit)
writes_by_step (Ok v) area at bytes old new old_disk new_disk emit taken cause = record {
  told = taken.told;
  outside = outside_by_step area at bytes 0 (length bytes) (omega arith) old new taken;
  inside = inside_by_step area at bytes 0 (length bytes) (omega arith) old new taken;
  output = λ tells. output_after (Wrote area at bytes 0) old new taken tells ∙ sym (output_before (Wrote area at bytes 0) old new taken tells);
  images = torn_images_by_step area at bytes 0 (length bytes) (omega arith) old new taken;
  time = write_elapses area at bytes 0 (length bytes) (omega arith) old new taken old_disk emit new_disk emit;
  cause = cause;
  emit_faults = refl;
}
writes_by_step (Err e) area at bytes old new old_disk new_disk emit taken cause =
    let half = take (length bytes / 2) bytes in
    let rest = length bytes - length bytes / 2 in
    let fits : length half + rest ≤ length bytes = omega (arith, length-take (length bytes / 2) bytes) in
    record {
      told = taken.told;
      outside = outside_by_step area at half rest (length bytes) fits old new taken;
      inside = tt;
      output = λ tells. output_after (Wrote area at half rest) old new taken tells ∙ sym (output_before (Wrote area at half rest) old new taken tells);
      images = torn_images_by_step area at half rest (length bytes) fits old new taken;
      time = write_elapses area at half rest (length bytes) fits old new taken old_disk emit new_disk emit;
      cause = cause;
      emit_faults = refl;
    }

pub syncs_by_step : {T E : Type 0} (result : Result T E) (old new : Run) (old_disk new_disk emit : ℕ) → TakesStep (sync_step result) old new → HasCause old_disk new_disk result
    → Syncs result (meaning_of old old_disk emit) (meaning_of new new_disk emit)
syncs_by_step (Ok v) old new old_disk new_disk emit taken cause =
    let content : IsTrue new.tells → new.content ≡ old.content = content_after Synced old new taken in
    let only : IsTrue new.tells → (image : Disk) → images_of old.first (Synced ∷ reverse old.steps) image → image ≡ old.content = λ tells image is. is ∙ sym (taken.was_tied (taken.told tells)).content_is in
    let was : IsTrue new.tells → (image : Disk) → images_of old.first (Synced ∷ reverse old.steps) image → images_of old.first (reverse old.steps) image =
    λ tells image is. subst (λ disk. images_of old.first (reverse old.steps) disk) (sym (only tells image is)) (run_content_is_image old taken.was_tied (taken.told tells)) in
    record {
      told = taken.told;
      content = content;
      output = λ tells. output_after Synced old new taken tells ∙ sym (output_before Synced old new taken tells);
      images = λ tells image is. was tells image (images_after Synced old new taken tells image is);
      durable = λ tells image is. only tells image (images_after Synced old new taken tells image is) ∙ sym (content tells);
      time = elapses_by_step Synced old new old_disk emit new_disk emit (Before (meaning_of old old_disk emit)) taken
          (λ tells image out is. (is.0, is.1 ∙ sym (output_before Synced old new taken tells)))
          (λ tells image out is out_is. (was tells image is, out_is ∙ sym (output_before Synced old new taken tells)));
      cause = cause;
      emit_faults = refl;
    }
syncs_by_step (Err e) old new old_disk new_disk emit taken cause = record {
  told = taken.told;
  content = λ tells. content_after Passed old new taken tells;
  output = λ tells. output_after Passed old new taken tells ∙ sym (output_before Passed old new taken tells);
  images = λ tells image is. images_after Passed old new taken tells image is;
  durable = tt;
  time = passes_by_step old new old_disk emit new_disk emit taken;
  cause = cause;
  emit_faults = refl;
}

-- an emit of a front of the bytes
module _ (bytes front : List ℕ) (old new : Run) (taken : TakesStep (Emitted front) old new) (wider : (was now : List ℕ) → PutsOutFront front was now → PutsOutFront bytes was now) where
  output_by_step : IsTrue new.tells → new.output ≡ old.output ++ front
  output_by_step tells = output_after (Emitted front) old new taken tells ∙ ap (λ out. out ++ front) (sym (output_before (Emitted front) old new taken tells))

  emit_elapses : (old_disk old_emit new_disk new_emit : ℕ) → Elapses (meaning_of old old_disk old_emit) (meaning_of new new_disk new_emit) (WithinEmit bytes (meaning_of old old_disk old_emit))
  emit_elapses old_disk old_emit new_disk new_emit =
      elapses_by_step (Emitted front) old new old_disk old_emit new_disk new_emit (WithinEmit bytes (meaning_of old old_disk old_emit)) taken
      (λ tells image out is. (is.0, wider old.output out (subst (λ was. PutsOutFront front was out) (sym (output_before (Emitted front) old new taken tells)) is.1)))
      (λ tells image out is out_is. (is, wider old.output out (puts_out_all front old.output out (out_is ∙ ap (λ was. was ++ front) (sym (output_before (Emitted front) old new taken tells))))))

pub emits_by_step : {T E : Type 0} (result : Result T E) (bytes : List ℕ) (old new : Run) (disk old_emit new_emit : ℕ) → TakesStep (emit_step result bytes) old new → HasCause old_emit new_emit result
    → Emits result bytes (meaning_of old disk old_emit) (meaning_of new disk new_emit)
emits_by_step (Ok v) bytes old new disk old_emit new_emit taken cause = record {
  told = taken.told;
  content = λ tells. content_after (Emitted bytes) old new taken tells;
  all = output_by_step bytes bytes old new taken (λ _ _ out. out);
  front = tt;
  images = λ tells image. (images_after (Emitted bytes) old new taken tells image, images_before (Emitted bytes) old new taken tells image);
  time = emit_elapses bytes bytes old new taken (λ _ _ out. out) disk old_emit disk new_emit;
  cause = cause;
  disk_faults = refl;
}
emits_by_step (Err e) bytes old new disk old_emit new_emit taken cause =
    let n = length bytes / 2 in
    let less = λ (was now : List ℕ) (out : PutsOutFront (take n bytes) was now). puts_out_less bytes was now n out in
    record {
      told = taken.told;
      content = λ tells. content_after (Emitted (take n bytes)) old new taken tells;
      all = tt;
      front = λ tells. puts_out_first bytes old.output new.output n (output_by_step bytes (take n bytes) old new taken less tells);
      images = λ tells image. (images_after (Emitted (take n bytes)) old new taken tells image, images_before (Emitted (take n bytes)) old new taken tells image);
      time = emit_elapses bytes (take n bytes) old new taken less disk old_emit disk new_emit;
      cause = cause;
      disk_faults = refl;
    }
