-- Stretches of calls after which both areas are as they were.
use Rattle.std.proofs.Common.{◌≡◌, ℕ, Bool, true, false, List, [], ◌++◌, refl, sym, ◌∙◌, ap, append_assoc, Result, Ok, Err}
use Rattle.std.specs.Prelude.{IsTrue}
use Rattle.std.proofs.lemmas.List.{append-nil}
use Rattle.mt_machine.specs.Meaning.{Disk, Meaning}
use Rattle.mt_machine.specs.Calls.{Before, Emits}
use Rattle.mt_machine.specs.LeavesLaws.{leaves_itself}
use Rattle.mt_machine.specs.Passes.{Passes}
use Rattle.mt_machine.specs.PassesLaws.{emit_passes, leaves_passes, passes_both}
use Rattle.foldsql.specs.Serves.{KeepsAreas}
use Rattle.foldsql.specs.Status.{IsPrefixOf}

-- no call at all
pub areas_itself : (machine : Meaning) → (IsTrue machine.tells_moments → IsTrue machine.tells)
    → (IsTrue machine.tells_moments → (image : Disk) (out : List ℕ) → machine.since machine.clock image out → Before machine image out) → KeepsAreas machine machine
areas_itself machine told only_now = record {
  told = λ t. t;
  content = λ _. refl;
  output = λ _. ([], sym (append-nil machine.output));
  images = λ _ image. (λ is. is, λ is. is);
  moments = leaves_passes (λ image bytes. machine.images image) (leaves_itself machine machine.images told only_now (λ _ image is. is)) (λ _ image is. is);
  disk_faults = refl;
}

-- an emit puts out its bytes, or a front of them
emit_output : {T E : Type 0} (result : Result T E) (bytes : List ℕ) (old new : Meaning) → Emits result bytes old new → IsTrue new.tells → IsPrefixOf old.output new.output
emit_output (Ok x) bytes old new emits t = (bytes, emits.all t)
emit_output (Err e) bytes old new emits t = ((emits.front t).front, (emits.front t).output)

pub areas_emit : {T E : Type 0} (result : Result T E) (bytes : List ℕ) (old new : Meaning) → Emits result bytes old new → KeepsAreas old new
areas_emit result bytes old new emits = record {
  told = emits.told;
  content = emits.content;
  output = emit_output result bytes old new emits;
  images = emits.images;
  moments = emit_passes (λ image put. old.images image) emits (λ _ image front rest is split. is);
  disk_faults = emits.disk_faults;
}

-- what was put out, or nothing where that is not told
put_out : (tells : Bool) (before after : List ℕ) → (IsTrue tells → IsPrefixOf before after) → (put : List ℕ) × (IsTrue tells → after ≡ before ++ put)
put_out true before after known = ((known refl).0, λ _. (known refl).1)
put_out false before after known = ([], λ t. absurd (cc))

-- two stretches
pub areas_join : (first second third : Meaning) → KeepsAreas first second → KeepsAreas second third → KeepsAreas first third
areas_join first second third a b =
    let put = put_out second.tells first.output second.output a.output in
    record {
      told = λ t. a.told (b.told t);
      content = λ t. b.content t ∙ a.content (b.told t);
      output = λ t.
          let sooner = a.output (b.told t) in
          let later = b.output t in
          (sooner.0 ++ later.0, later.1 ∙ ap (λ o. o ++ later.0) sooner.1 ∙ append_assoc first.output sooner.0 later.0);
      images = λ t image.
          let later = b.images t image in
          let sooner = a.images (b.moments.told_moments t).0 image in
          (λ is. sooner.0 (later.0 is), λ is. later.1 (sooner.1 is));
      moments = passes_both (λ image bytes. first.images image) put.0 a.moments b.moments put.1 (λ _ image bytes is. is) (λ t image bytes is. (a.images (b.moments.told_moments t).0 image).0 is);
      disk_faults = b.disk_faults ∙ a.disk_faults;
    }
