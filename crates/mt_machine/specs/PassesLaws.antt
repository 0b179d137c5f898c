-- How stretches that may put something out join, and what they keep.
use Rattle.std.specs.Prelude.{Result}
use Rattle.std.proofs.Common.{◌≡◌, ◌⊎◌, ℕ, IsTrue, List, [], ◌++◌, refl, sym, ap, subst, ◌∙◌, inl, inr, le_refl, le_trans, append_assoc}
use Rattle.std.proofs.lemmas.List.{append-nil}
use Rattle.mt_machine.specs.Meaning.{Disk, Meaning}
use Rattle.mt_machine.specs.Calls.{Elapses, Emits}
use Rattle.mt_machine.specs.Leaves.{Leaves, Looks}
use Rattle.mt_machine.specs.Passes.{Behind, Passes}
use Rattle.mt_machine.specs.Keeps.{Keeps}

-- what held before a call and what arises in it holds of each moment of the call
passes_by_time : (is : Disk → List ℕ → Type 0) (old new : Meaning) (arises : Disk → List ℕ → Type 0) → Elapses old new arises → (IsTrue new.tells → IsTrue old.tells)
    → (IsTrue new.tells_moments → (image : Disk) → old.images image → is image [])
    → (IsTrue new.tells_moments → (image : Disk) (out : List ℕ) → arises image out → Behind is old.output image out) → Passes is old new
passes_by_time is old new arises time told was may = record {
  told = told;
  told_moments = time.told;
  later = time.later;
  each = λ tells image out since. elim (time.nothing_else tells old.clock image out (le_refl old.clock) since) as (λ _. Behind is old.output image out) [
    | inl before ↦ let start = time.start tells image out before in ([], start.1 ∙ sym (append-nil old.output), was tells image start.0)
    | inr arisen ↦ may tells image out arisen
  ];
  before = λ tells t image out early since. elim (time.nothing_else tells t image out early since) as (λ _. old.since t image out ⊎ Behind is old.output image out) [
    | inl before ↦ inl before
    | inr arisen ↦ inr (may tells image out arisen)
  ];
}

-- an emit puts out a front of its bytes, and leaves both areas
pub emit_passes : {T E : Type 0} {result : Result T E} {bytes : List ℕ} {old new : Meaning} (is : Disk → List ℕ → Type 0) → Emits result bytes old new
    → (IsTrue new.tells_moments → (image : Disk) (front rest : List ℕ) → old.images image → bytes ≡ front ++ rest → is image front) → Passes is old new
emit_passes {bytes} {old} {new} is call front =
    passes_by_time is old new _ call.time call.told (λ tells image was. front tells image [] bytes was refl)
    (λ tells image out arisen. (arisen.1.front, arisen.1.output, front tells image arisen.1.front arisen.1.rest arisen.0 arisen.1.split))

-- a stretch that puts nothing out
pub leaves_passes : {has : Disk → Type 0} {old new : Meaning} (is : Disk → List ℕ → Type 0) → Leaves has old new → (IsTrue new.tells_moments → (image : Disk) → has image → is image []) → Passes is old new
leaves_passes {old} {new} is leaves so = record {
  told = leaves.told;
  told_moments = leaves.told_moments;
  later = leaves.later;
  each = λ tells image out since. let one = leaves.each tells image out since in ([], one.1 ∙ sym (append-nil old.output), so tells image one.0);
  before = λ tells t image out early since. elim (leaves.before tells t image out early since) as (λ _. old.since t image out ⊎ Behind is old.output image out) [
    | inl was ↦ inl was
    | inr one ↦ inr ([], one.1 ∙ sym (append-nil old.output), so tells image one.0)
  ];
}

-- two stretches together; the first has put these bytes out
pub passes_both : {one two : Disk → List ℕ → Type 0} {first second third : Meaning} (is : Disk → List ℕ → Type 0) (put : List ℕ) → Passes one first second → Passes two second third
    → (IsTrue second.tells → second.output ≡ first.output ++ put)
    → (IsTrue third.tells_moments → (image : Disk) (bytes : List ℕ) → one image bytes → is image bytes)
    → (IsTrue third.tells_moments → (image : Disk) (bytes : List ℕ) → two image bytes → is image (put ++ bytes)) → Passes is first third
passes_both {one} {two} {first} {second} {third} is put a b output early late = record {
  told = λ tells. a.told (b.told tells);
  told_moments = λ tells. ((a.told_moments (b.told_moments tells).0).0, (b.told_moments tells).1);
  later = le_trans a.later b.later;
  each = λ tells image out since. elim (b.before tells first.clock image out a.later since) as (λ _. Behind is first.output image out) [
    | inl was ↦ let m = a.each (b.told_moments tells).0 image out was in (m.0, m.1, early tells image m.0 m.2)
    | inr is ↦ moved tells image out is
  ];
  before = λ tells t image out soon since. elim (b.before tells t image out (le_trans soon a.later) since) as (λ _. first.since t image out ⊎ Behind is first.output image out) [
    | inl was ↦ elim (a.before (b.told_moments tells).0 t image out soon was) as (λ _. first.since t image out ⊎ Behind is first.output image out) [
      | inl w ↦ inl w
      | inr m ↦ inr (m.0, m.1, early tells image m.0 m.2)
    ]
    | inr is ↦ inr (moved tells image out is)
  ];
}
  where
    moved : IsTrue third.tells_moments → (image : Disk) (out : List ℕ) → Behind two second.output image out → Behind is first.output image out
    moved tells image out m = (put ++ m.0, m.1 ∙ ap (λ o. o ++ m.0) (output (b.told (b.told_moments tells).1)) ∙ append_assoc first.output put m.0, late tells image m.0 m.2)

-- what a value stands for is kept where the content stays and no new image arises
keeps_alike : {holds : Disk → Type 0} {may_leave : Disk → Disk → Type 0} {old new : Meaning} → Keeps holds may_leave old
    → (IsTrue new.tells → IsTrue old.tells) → (IsTrue new.tells_moments → IsTrue old.tells_moments × IsTrue new.tells) → (IsTrue new.tells → new.content ≡ old.content)
    → (IsTrue new.tells_moments → (image : Disk) → new.images image → old.images image) → Keeps holds may_leave new
keeps_alike {holds} {may_leave} {old} {new} keeps told told_moments same was = record {
  told = λ tells. (told_moments tells).1;
  content = λ tells. subst holds (sym (same tells)) (keeps.content (told tells));
  images = λ tells image is. subst (λ content. may_leave content image) (sym (same (told_moments tells).1)) (keeps.images (told_moments tells).0 image (was tells image is));
}

-- a stretch that changes neither area keeps what a value stands for
pub keeps_after_looks : {holds : Disk → Type 0} {may_leave : Disk → Disk → Type 0} {old new : Meaning} → Keeps holds may_leave old → Looks old new → Keeps holds may_leave new
keeps_after_looks keeps looks = keeps_alike keeps looks.leaves.told looks.leaves.told_moments looks.content looks.leaves.now

-- and so does an emit
pub keeps_after_emit : {T E : Type 0} {result : Result T E} {bytes : List ℕ} {holds : Disk → Type 0} {may_leave : Disk → Disk → Type 0} {old new : Meaning} → Keeps holds may_leave old
    → Emits result bytes old new → Keeps holds may_leave new
keeps_after_emit keeps call = keeps_alike keeps call.told call.time.told call.content (λ tells image is. (call.images tells image).0 is)
