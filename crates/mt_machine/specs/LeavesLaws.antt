-- What each call leaves, and how stretches of calls join.
use Rattle.std.specs.Prelude.{Result}
use Rattle.std.proofs.Common.{◌≡◌, ◌⊎◌, ℕ, ◌≤◌, IsTrue, List, length, refl, ◌∙◌, inl, inr, le_refl, le_trans}
use Rattle.mt_machine.specs.declared.machine.Area.{Area}
use Rattle.mt_machine.specs.Meaning.{Disk, Meaning}
use Rattle.mt_machine.specs.Calls.{Before, Elapses, Syncs, Torn, Writes}
use Rattle.mt_machine.specs.Leaves.{Leaves, Looks}

-- a moment that was there at the start of a call, or that arises in it, leaves a disk with the property
each_by_time : (old new : Meaning) (arises : Disk → List ℕ → Type 0) (has : Disk → Type 0) → Elapses old new arises → IsTrue new.tells_moments
    → ((image : Disk) → old.images image → has image) → ((image : Disk) (out : List ℕ) → arises image out → has image × (out ≡ old.output))
    → (image : Disk) (out : List ℕ) → new.since old.clock image out → has image × (out ≡ old.output)
each_by_time old new arises has time tells was may image out since =
    elim (time.nothing_else tells old.clock image out (le_refl old.clock) since) as (λ _. has image × (out ≡ old.output)) [
      | inl before ↦ let start = time.start tells image out before in (was image start.0, start.1)
      | inr arisen ↦ may image out arisen
    ]

-- the same for a time before the call
before_by_time : (old new : Meaning) (arises : Disk → List ℕ → Type 0) (has : Disk → Type 0) → Elapses old new arises → IsTrue new.tells_moments
    → ((image : Disk) (out : List ℕ) → arises image out → has image × (out ≡ old.output))
    → (t : ℕ) (image : Disk) (out : List ℕ) → t ≤ old.clock → new.since t image out → old.since t image out ⊎ (has image × (out ≡ old.output))
before_by_time old new arises has time tells may t image out early since =
    elim (time.nothing_else tells t image out early since) as (λ _. old.since t image out ⊎ (has image × (out ≡ old.output))) [
      | inl before ↦ inl before
      | inr arisen ↦ inr (may image out arisen)
    ]

-- a write leaves what a stop before it could leave, with any bytes in the range
pub write_leaves : {T E : Type 0} {result : Result T E} {area : Area} {at : ℕ} {bytes : List ℕ} {old new : Meaning} (has : Disk → Type 0) → Writes result area at bytes old new
    → (IsTrue new.tells_moments → (before image : Disk) → old.images before → Torn area at (length bytes) before image → has image) → Leaves has old new
write_leaves {old} {new} has call torn = record {
  told = call.told;
  told_moments = call.time.told;
  output = call.output;
  disk_faults = call.cause.no_lower;
  emit_faults = call.emit_faults;
  later = call.time.later;
  now = λ tells image is. let one = call.images tells image is in torn tells one.0 image one.1 one.2;
  each = λ tells. each_by_time old new _ has call.time tells
      (λ image is. torn tells image image is (record { before = λ _ _. refl; after = λ _ _. refl; other = λ _ _. refl }))
      (λ image out is. (torn tells is.0.0 image is.0.1 is.0.2, is.1));
  before = λ tells. before_by_time old new _ has call.time tells (λ image out is. (torn tells is.0.0 image is.0.1 is.0.2, is.1));
  keeps = call.time.keeps;
}

-- a sync leaves what a stop before it could leave
pub sync_leaves : {T E : Type 0} {result : Result T E} {old new : Meaning} (has : Disk → Type 0) → Syncs result old new
    → (IsTrue new.tells_moments → (image : Disk) → old.images image → has image) → Leaves has old new
sync_leaves {old} {new} has call was = record {
  told = call.told;
  told_moments = call.time.told;
  output = call.output;
  disk_faults = call.cause.no_lower;
  emit_faults = call.emit_faults;
  later = call.time.later;
  now = λ tells image is. was tells image (call.images tells image is);
  each = λ tells. each_by_time old new (Before old) has call.time tells (was tells) (λ image out is. (was tells image is.0, is.1));
  before = λ tells. before_by_time old new (Before old) has call.time tells (λ image out is. (was tells image is.0, is.1));
  keeps = call.time.keeps;
}

-- a sync changes neither area
pub sync_looks : {T E : Type 0} {result : Result T E} {old new : Meaning} → Syncs result old new → Looks old new
sync_looks {old} call = record { content = call.content; leaves = sync_leaves old.images call (λ _ _ is. is) }

-- no call at all, where since now there is just now
pub leaves_itself : (machine : Meaning) (has : Disk → Type 0) → (IsTrue machine.tells_moments → IsTrue machine.tells)
    → (IsTrue machine.tells_moments → (image : Disk) (out : List ℕ) → machine.since machine.clock image out → Before machine image out)
    → (IsTrue machine.tells_moments → (image : Disk) → machine.images image → has image) → Leaves has machine machine
leaves_itself machine has told only_now is_so = record {
  told = λ tells. tells;
  told_moments = λ tells. (tells, told tells);
  output = λ _. refl;
  disk_faults = le_refl machine.disk_faults;
  emit_faults = refl;
  later = le_refl machine.clock;
  now = is_so;
  each = λ tells image out since. let now = only_now tells image out since in (is_so tells image now.0, now.1);
  before = λ _ _ _ _ _ since. inl since;
  keeps = λ _ _ _ _ _ since. since;
}

pub looks_itself : (machine : Meaning) → (IsTrue machine.tells_moments → IsTrue machine.tells)
    → (IsTrue machine.tells_moments → (image : Disk) (out : List ℕ) → machine.since machine.clock image out → Before machine image out) → Looks machine machine
looks_itself machine told only_now = record { content = λ _. refl; leaves = leaves_itself machine machine.images told only_now (λ _ _ is. is) }

-- what has the property has a weaker one
pub leaves_weaker : {has : Disk → Type 0} (weaker : Disk → Type 0) {old new : Meaning} → Leaves has old new → (IsTrue new.tells_moments → (image : Disk) → has image → weaker image) → Leaves weaker old new
leaves_weaker {has} weaker {old} {new} leaves so = record {
  told = leaves.told;
  told_moments = leaves.told_moments;
  output = leaves.output;
  disk_faults = leaves.disk_faults;
  emit_faults = leaves.emit_faults;
  later = leaves.later;
  now = λ tells image is. so tells image (leaves.now tells image is);
  each = λ tells image out since. let one = leaves.each tells image out since in (so tells image one.0, one.1);
  before = λ tells t image out early since. elim (leaves.before tells t image out early since) as (λ _. old.since t image out ⊎ (weaker image × (out ≡ old.output))) [
    | inl was ↦ inl was
    | inr one ↦ inr (so tells image one.0, one.1)
  ];
  keeps = leaves.keeps;
}

-- a moment of two stretches together
each_then : {has : Disk → Type 0} {first second third : Meaning} → Leaves has first second → Leaves has second third → IsTrue third.tells_moments
    → (t : ℕ) (image : Disk) (out : List ℕ) → t ≤ second.clock → third.since t image out → second.since t image out ⊎ (has image × (out ≡ first.output))
each_then {has} {first} {second} one two tells t image out early since =
    elim (two.before tells t image out early since) as (λ _. second.since t image out ⊎ (has image × (out ≡ first.output))) [
      | inl was ↦ inl was
      | inr is ↦ inr (is.0, is.1 ∙ one.output (two.told (two.told_moments tells).1))
    ]

-- two stretches together leave what each leaves
pub leaves_both : {has : Disk → Type 0} {first second third : Meaning} → Leaves has first second → Leaves has second third → Leaves has first third
leaves_both {has} {first} {second} {third} one two = record {
  told = λ tells. one.told (two.told tells);
  told_moments = λ tells. ((one.told_moments (two.told_moments tells).0).0, (two.told_moments tells).1);
  output = λ tells. two.output tells ∙ one.output (two.told tells);
  disk_faults = le_trans one.disk_faults two.disk_faults;
  emit_faults = two.emit_faults ∙ one.emit_faults;
  later = le_trans one.later two.later;
  now = two.now;
  each = λ tells image out since. elim (each_then one two tells first.clock image out one.later since) as (λ _. has image × (out ≡ first.output)) [
    | inl was ↦ one.each (two.told_moments tells).0 image out was
    | inr is ↦ is
  ];
  before = λ tells t image out early since. elim (each_then one two tells t image out (le_trans early one.later) since) as (λ _. first.since t image out ⊎ (has image × (out ≡ first.output))) [
    | inl was ↦ one.before (two.told_moments tells).0 t image out early was
    | inr is ↦ inr is
  ];
  keeps = λ tells t image out early was. two.keeps tells t image out (le_trans early one.later) (one.keeps (two.told_moments tells).0 t image out early was);
}

-- the same where the second stretch has a stronger property
pub leaves_then : {has stronger : Disk → Type 0} {first second third : Meaning} → Leaves has first second → Leaves stronger second third
    → (IsTrue third.tells_moments → (image : Disk) → stronger image → has image) → Leaves has first third
leaves_then {has} one two so = leaves_both one (leaves_weaker has two so)

-- two stretches that change neither area
pub looks_then : {first second third : Meaning} → Looks first second → Looks second third → Looks first third
looks_then one two = record {
  content = λ tells. two.content tells ∙ one.content (two.leaves.told tells);
  leaves = leaves_then one.leaves two.leaves (λ tells image is. one.leaves.now (two.leaves.told_moments tells).0 image is);
}
