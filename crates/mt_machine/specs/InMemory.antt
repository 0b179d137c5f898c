-- What the machines and sources in memory stand for.
use Rattle.std.specs.Prelude.{◌≡◌, ◌↔◌, ℕ, ◌/◌, ◌-◌, IsTrue, List, [], length, take, reverse, true, false, Result, Ok, Err}
use Rattle.mt_machine.specs.declared.machine.Area.{Area}
use Rattle.mt_machine.specs.declared.recording.Recording.{Recording}
use Rattle.mt_machine.specs.declared.mem_machine.MemMachine.{MemMachine}
use Rattle.mt_machine.specs.declared.mem_source.MemSource.{MemSource}
use Rattle.mt_machine.specs.declared.quiet_machine.QuietMachine.{QuietMachine}
use Rattle.mt_machine.specs.declared.steady_machine.SteadyMachine.{SteadyMachine}
use Rattle.mt_machine.specs.declared.steady_source.SteadySource.{SteadySource}
use Rattle.mt_machine.specs.declared.step.Step.{Step}
use Rattle.mt_machine.specs.declared.step.Step.TheVariants.{Wrote, Synced, Passed, Emitted}
use Rattle.mt_machine.specs.Image.{first_disk, image_disk}
use Rattle.mt_machine.specs.Meaning.{Disk, Meaning, Supply}
use Rattle.mt_machine.specs.Pieces.{Pieces}
use Rattle.mt_machine.specs.Run.{Run, images_of, since_of}

-- a machine that tells all, holds this disk, of which a stop would leave just that, and that has put
-- nothing out and had no fault
pub record IsFresh (disk : Disk) (meaning : Meaning) : Type 0 where
  pub tells : IsTrue meaning.tells
  pub content : meaning.content ≡ disk
  pub output : meaning.output ≡ []
  pub tells_moments : IsTrue meaning.tells_moments
  pub images : (image : Disk) → meaning.images image ↔ (image ≡ disk)
  pub clock : meaning.clock ≡ 0
  pub since : (image : Disk) (out : List ℕ) → meaning.since 0 image out ↔ ((image ≡ disk) × (out ≡ []))
  pub disk_faults : meaning.disk_faults ≡ 0
  pub emit_faults : meaning.emit_faults ≡ 0

-- the run that a record stands for
abbrev pub run_of : Recording → Run
run_of recording = record {
  tells = recording.contents.telling;
  content = image_disk recording.contents.image;
  output = recording.contents.output.items;
  first = first_disk recording.first recording.contents.image;
  steps = recording.steps;
}

-- a run, with counts of faults
abbrev pub meaning_of : Run → ℕ → ℕ → Meaning
meaning_of run disk_faults emit_faults = record {
  tells = run.tells;
  content = run.content;
  output = run.output;
  tells_moments = run.tells;
  images = images_of run.first (reverse run.steps);
  clock = length run.steps;
  since = since_of run.first (reverse run.steps);
  disk_faults = disk_faults;
  emit_faults = emit_faults;
}

-- what a steady machine has done since it was made
abbrev pub steady_run : SteadyMachine → Run
steady_run machine = run_of machine.recording

-- it tells everything, and nothing of it fails
abbrev pub steady_meaning : SteadyMachine → Meaning
steady_meaning machine = meaning_of (steady_run machine) 0 0

-- what a machine that fails by list has done since it was made
abbrev pub mem_run : MemMachine → Run
mem_run machine = run_of machine.recording

-- it tells everything, its faults among it
abbrev pub mem_meaning : MemMachine → Meaning
mem_meaning machine = meaning_of (mem_run machine) machine.disk_faults machine.emit_faults

-- contents with no record of calls: of moments nothing is told
abbrev pub quiet_meaning : QuietMachine → Meaning
quiet_meaning machine = record {
  tells = machine.contents.telling;
  content = image_disk machine.contents.image;
  output = machine.contents.output.items;
  tells_moments = false;
  images = λ _. Unit {0};
  clock = 0;
  since = λ _ _ _. Unit {0};
  disk_faults = 0;
  emit_faults = 0;
}

-- the step of a write: one that fails leaves the second half of the range as it was
abbrev pub write_step : {T E : Type 0} → Result T E → Area → ℕ → List ℕ → Step
write_step (Ok _) area at bytes = Wrote area at bytes 0
write_step (Err _) area at bytes = Wrote area at (take (length bytes / 2) bytes) (length bytes - length bytes / 2)

-- the step of a sync: one that fails makes nothing durable
abbrev pub sync_step : {T E : Type 0} → Result T E → Step
sync_step (Ok _) = Synced
sync_step (Err _) = Passed

-- the step of an emit: one that fails puts out the first half
abbrev pub emit_step : {T E : Type 0} → Result T E → List ℕ → Step
emit_step (Ok _) bytes = Emitted bytes
emit_step (Err _) bytes = Emitted (take (length bytes / 2) bytes)

-- a source that tells, with these bytes still to come, of which nothing was taken
abbrev pub fresh_supply : List ℕ → Supply
fresh_supply left = record { tells = true; left = left; last = []; takes = 0; faults = 0 }

-- a source that tells what it gives in pieces, and so many faults
abbrev pub supply_of : Pieces → ℕ → Supply
supply_of pieces faults = record { tells = true; left = pieces.left; last = pieces.last; takes = pieces.takes; faults = faults }

-- a source that never fails
abbrev pub steady_supply : SteadySource → Supply
steady_supply source = supply_of source.cursor 0

-- a source that fails by list, and counts its faults
abbrev pub mem_supply : MemSource → Supply
mem_supply source = supply_of source.cursor source.faults
