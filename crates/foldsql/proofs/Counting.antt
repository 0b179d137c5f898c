-- How counts of faults go on.
use Rattle.std.proofs.Common.{◌≡◌, ◌≢◌, ◌⊎◌, inl, inr, ℕ, ◌+◌, ◌-◌, ◌^◌, ◌<◌, ◌≤◌, List, ◌++◌, length, refl, sym, ◌∙◌, ap, subst, arith, le_refl, le_trans, Result, Ok, Err, Option, None, Some, OnOk, OnErr}
use Rattle.std.specs.Prelude.{IsTrue, min}
use Rattle.std.proofs.lemmas.List.{length-append}
use Rattle.mt_machine.specs.Meaning.{Meaning, Supply, Rose}
use Rattle.mt_machine.specs.Calls.{Emits}
use Rattle.mt_machine.specs.Keeps.{DiskMayFail, MayFail}
use Rattle.mt_script.specs.Lines.{Line}
use Rattle.mt_script.specs.declared.reader.Took.{Took}
use Rattle.mt_script.specs.declared.reader.ReadStop.{ReadStop}
use Rattle.foldsql.specs.declared.status.Status.{Status}
use Rattle.foldsql.specs.declared.status.Status.TheVariants.{Done, Words, DiskFault, EmitFault, SourceFault, InputTooLong, NoMemory}
use Rattle.foldsql.specs.Status.{CoversInput}
use Rattle.foldsql.specs.Turns.{Counts, MachineCounts}

-- a count that stands
pub counts_stand : (failed : Type 0) (count : ℕ) → (failed → ⊥) → Counts failed count count
counts_stand failed count none = record { no_lower = le_refl count; rose = λ f. absurd (none f); stood = λ _. refl }

-- a count that stood, and then one more stretch
pub counts_join : {failed : Type 0} {before middle now : ℕ} → middle ≡ before → Counts failed middle now → Counts failed before now
counts_join {failed} {before} {middle} {now} same counts = subst (λ (n : ℕ). Counts failed n now) same counts

-- no call at all
pub machine_stands : (ends : Option Status) (machine : Meaning) → (ends ≡ Some EmitFault → ⊥) → (ends ≡ Some DiskFault → ⊥) → MachineCounts ends machine machine
machine_stands ends machine no_emit no_disk = record {
  told = λ t. t;
  emits = counts_stand (ends ≡ Some EmitFault) machine.emit_faults no_emit;
  disk = le_refl machine.disk_faults;
  disk_failed = λ f. absurd (no_disk f);
  disk_stood = λ _. refl;
}

-- the counts after turns that went on, and one more
pub machine_join : (ends : Option Status) (first second third : Meaning) → MachineCounts None first second → MachineCounts ends second third → MachineCounts ends first third
machine_join ends first second third a b =
    let emits : second.emit_faults ≡ first.emit_faults = a.emits.stood (λ e. cc) in
    let disk : second.disk_faults ≡ first.disk_faults = a.disk_stood (λ e. cc) in
    record {
      told = λ t. a.told (b.told t);
      emits = subst (λ (n : ℕ). Counts (ends ≡ Some EmitFault) n third.emit_faults) emits b.emits;
      disk = le_trans a.disk b.disk;
      disk_failed = λ f. subst (λ (n : ℕ). MayFail (IsTrue third.tells) n third.disk_faults) disk (b.disk_failed f);
      disk_stood = λ f. b.disk_stood f ∙ disk;
    }

-- a reply is put out, or the run ends within it
pub machine_emits : {T E : Type 0} (result : Result T E) (bytes : List ℕ) (old new : Meaning) (ends : Option Status) → Emits result bytes old new → OnOk result (ends ≡ None) → OnErr result (ends ≡ Some EmitFault) → MachineCounts ends old new
machine_emits (Ok x) bytes old new ends emits none fault = subst (λ e. MachineCounts e old new) (sym none) (record {
  told = emits.told;
  emits = record { no_lower = emits.cause.no_lower; rose = λ e. absurd (cc); stood = λ _. emits.cause.none };
  disk = subst (λ (n : ℕ). old.disk_faults ≤ n) (sym emits.disk_faults) (le_refl old.disk_faults);
  disk_failed = λ e. absurd (cc);
  disk_stood = λ _. emits.disk_faults;
})
machine_emits (Err e) bytes old new ends emits none fault = subst (λ e. MachineCounts e old new) (sym fault) (record {
  told = emits.told;
  emits = record { no_lower = emits.cause.no_lower; rose = λ _. emits.cause.failed refl; stood = λ other. absurd (other refl) };
  disk = subst (λ (n : ℕ). old.disk_faults ≤ n) (sym emits.disk_faults) (le_refl old.disk_faults);
  disk_failed = λ e. absurd (cc);
  disk_stood = λ _. emits.disk_faults;
})
